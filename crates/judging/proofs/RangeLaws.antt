-- The laws of ranges.
use Rattle.std.proofs.Common.{◌≡◌, ℕ, ◌^◌, ◌<◌, Bool, true, false, not, ◌&&◌, ◌||◌, eqb, List, ℤ, pos, negsuc, ◌-ℤ◌, ◌≤ℤ◌, sym, refl, ap, ◌∙◌, subst, ap₂, ⊎_elim, arith}
use borrow.Author.Differences.{ints}
use lib.Pow.{pow-lt}
use lib.Signed.{le_z}
use Rattle.masks.proofs.Sets.{has_one, subset_one}
use Rattle.masks.specs.Sets.{has, holds, holds_only, Subset}
use Rattle.masks.specs.Tables.{at, Inside, Store, Fixed}
use Rattle.std.proofs.lemmas.Bool.{both_ways, cases_Bool, cases_lt, cases_eq, and_from, and_parts, or_cases, or_left, or_right, not-true, not_from_false, eqb-true, eq-eqb, ne_eqb}
use Rattle.judging.specs.Judged.{same, least, greatest, fixed, possible, certain}
use Rattle.judging.specs.Laws.{RangeLaws}
use Rattle.judging.specs.Trees.{Term, Range, between, at_least, at_most, channels_of, union, intersection, complement, shift, names}
use Rattle.judging.proofs.Ints.{le_yes, yes_le, le_trans, same_yes, yes_same}
use Rattle.judging.proofs.TermLaws.{nested, one_value, looks}
use Rattle.judging.proofs.Trees.{TermOver, RangeOver}

-- tests of order, carried over to ends further out
from_lower : (x y v : ℤ) → x ≤ℤ y → le_z y v ≡ true → le_z x v ≡ true
from_lower x y v h e = yes_le x v (le_trans x y v h (le_yes y v e))

to_higher : (x y v : ℤ) → x ≤ℤ y → le_z v x ≡ true → le_z v y ≡ true
to_higher x y v h e = yes_le v y (le_trans v x y (le_yes v x e) h)

contrary : (x y : Bool) → (x ≡ true → y ≡ true) → not y ≡ true → not x ≡ true
contrary true y f h = absurd (both_ways y (not-true y h) (f refl))
contrary false y f h = refl

either : (x y z w : Bool) → (x ≡ true → z ≡ true) → (y ≡ true → w ≡ true) → (x || y) ≡ true → (z || w) ≡ true
either x y z w f g h = ⊎_elim (λ e. or_left z w (f e)) (λ e. or_right z w (g e)) (or_cases x y h)

both : (x y z w : Bool) → (x ≡ true → z ≡ true) → (y ≡ true → w ≡ true) → (x && y) ≡ true → (z && w) ≡ true
both x y z w f g h = and_from z w (f (and_parts x y h).0) (g (and_parts x y h).1)

module _ (n : ℕ) (D E : List ℕ) (store : Store n D) (inside : Inside D E) where
  -- a term that has one value in the larger store has the same in the smaller one
  kept : (b : Term) → TermOver n b → fixed E b ≡ true → (fixed D b ≡ true) × (least E b ≡ least D b)
  kept b o e =
      let f : least E b ≡ greatest E b = same_yes _ _ e in
      let p = nested n D E store inside b o in
      let g : least D b ≡ greatest D b = omega (arith, ints, p.low, p.order, p.high) in
      (yes_same _ _ g, omega (arith, ints, p.low, p.order, p.high))

  one_of : (s : ℕ) (v : ℤ) → holds (at D s) v ≡ true → holds (at E s) v ≡ true
  one_of s (pos c) h = inside s c h
  one_of s (negsuc c) h = h

  only_one : (s : ℕ) → s < n → (v : ℤ) → holds_only (at E s) v ≡ true → holds_only (at D s) v ≡ true
  only_one s l (pos c) h =
      let p : Subset (at D s) (2 ^ c) = subst (λ (m : ℕ). Subset (at D s) m) (eqb-true (at E s) (2 ^ c) h) (inside s) in
      eq-eqb _ _ (subset_one (at D s) c p (store s l).some)
  only_one s l (negsuc c) h = h

  shift_possible : (a : Range) (b : Term) → TermOver n b → (v : ℤ) → ((w : ℤ) → possible D a w ≡ true → possible E a w ≡ true)
      → possible D (shift a b) v ≡ true → possible E (shift a b) v ≡ true
  shift_possible a b o v f h =
      ⊎_elim (λ e. let k = kept b o e in
      ⊎_elim (λ g. absurd (both_ways _ (not-true _ g) k.0))
      (λ g. or_right _ _ (subst (λ (x : ℤ). possible E a (v -ℤ x) ≡ true) (sym k.1) (f _ g)))
      (or_cases _ _ h))
      (λ e. or_left _ _ (not_from_false _ e)) (cases_Bool (fixed E b))

  shift_certain : (a : Range) (b : Term) → TermOver n b → (v : ℤ) → ((w : ℤ) → certain E a w ≡ true → certain D a w ≡ true)
      → certain E (shift a b) v ≡ true → certain D (shift a b) v ≡ true
  shift_certain a b o v f h =
      let p = and_parts _ _ h in
      let k = kept b o p.0 in
      and_from _ _ k.0 (subst (λ (x : ℤ). certain D a (v -ℤ x) ≡ true) k.1 (f _ p.1))

  -- in a smaller store fewer numbers are possible and more are certain
  narrows : (r : Range) → RangeOver n r → (v : ℤ) → (possible D r v ≡ true → possible E r v ≡ true) × (certain E r v ≡ true → certain D r v ≡ true)
  narrows (between a b) o v =
      let p = nested n D E store inside a o.0 in
      let q = nested n D E store inside b o.1 in
      (both _ _ _ _ (from_lower _ _ v p.low) (to_higher _ _ v q.high), both _ _ _ _ (from_lower _ _ v p.high) (to_higher _ _ v q.low))
  narrows (at_least a) o v = let p = nested n D E store inside a o in (from_lower _ _ v p.low, from_lower _ _ v p.high)
  narrows (at_most a) o v = let p = nested n D E store inside a o in (to_higher _ _ v p.high, to_higher _ _ v p.low)
  narrows (channels_of s) o v = (one_of s v, only_one s o v)
  narrows (union a b) o v =
      let p = narrows a o.0 v in
      let q = narrows b o.1 v in
      (either _ _ _ _ p.0 q.0, either _ _ _ _ p.1 q.1)
  narrows (intersection a b) o v =
      let p = narrows a o.0 v in
      let q = narrows b o.1 v in
      (both _ _ _ _ p.0 q.0, both _ _ _ _ p.1 q.1)
  narrows (complement a) o v = let p = narrows a o v in (contrary _ _ p.1, contrary _ _ p.0)
  narrows (shift a b) o v =
      (shift_possible a b o.1 v (λ w. (narrows a o.0 w).0), shift_certain a b o.1 v (λ w. (narrows a o.0 w).1))

module _ (n : ℕ) (D : List ℕ) (store : Store n D) where
  order : (t : Term) → TermOver n t → least D t ≤ℤ greatest D t
  order t o = (nested n D D store (λ s c h. h) t o).order

  only_is_one : (s : ℕ) (v : ℤ) → holds_only (at D s) v ≡ true → holds (at D s) v ≡ true
  only_is_one s (pos c) h = subst (λ (m : ℕ). has m c ≡ true) (sym (eqb-true (at D s) (2 ^ c) h)) (has_one c c ∙ eq-eqb c c refl)
  only_is_one s (negsuc c) h = h

  -- in a store what is certain is possible
  is_possible : (r : Range) → RangeOver n r → (v : ℤ) → certain D r v ≡ true → possible D r v ≡ true
  is_possible (between a b) o v = both _ _ _ _ (from_lower _ _ v (order a o.0)) (to_higher _ _ v (order b o.1))
  is_possible (at_least a) o v = from_lower _ _ v (order a o)
  is_possible (at_most a) o v = to_higher _ _ v (order a o)
  is_possible (channels_of s) o v = only_is_one s v
  is_possible (union a b) o v = either _ _ _ _ (is_possible a o.0 v) (is_possible b o.1 v)
  is_possible (intersection a b) o v = both _ _ _ _ (is_possible a o.0 v) (is_possible b o.1 v)
  is_possible (complement a) o v = contrary _ _ (is_possible a o v)
  is_possible (shift a b) o v = λ h. or_right _ _ (is_possible a o.0 _ (and_parts _ _ h).1)

-- powers of two are the same where their exponents are
same_power : (c d : ℕ) → eqb c d ≡ eqb (2 ^ c) (2 ^ d)
same_power c d =
    ⊎_elim (λ e. eq-eqb c d e ∙ sym (eq-eqb _ _ (ap (λ (x : ℕ). 2 ^ x) e)))
    (λ ne. ne_eqb c d ne ∙ sym (ne_eqb _ _ (λ e. ⊎_elim (λ l. absurd (omega (arith, e, pow-lt l))) (λ l. absurd (omega (arith, e, pow-lt {i = d} {j = c} (omega (arith, ne, l))))) (cases_lt c d))))
    (cases_eq c d)

one_is_only : (c : ℕ) (v : ℤ) → holds (2 ^ c) v ≡ holds_only (2 ^ c) v
one_is_only c (pos d) = has_one c d ∙ same_power c d
one_is_only c (negsuc d) = refl

module _ (n : ℕ) (D : List ℕ) (f : Fixed n D) where
  value : (t : Term) → TermOver n t → least D t ≡ greatest D t
  value t o = one_value n D f t o

  -- where each station has one channel, possible and certain agree
  agree : (r : Range) → RangeOver n r → (v : ℤ) → possible D r v ≡ certain D r v
  agree (between a b) o v = ap₂ (λ (x y : ℤ). le_z x v && le_z v y) (value a o.0) (sym (value b o.1))
  agree (at_least a) o v = ap (λ (x : ℤ). le_z x v) (value a o)
  agree (at_most a) o v = ap (λ (x : ℤ). le_z v x) (sym (value a o))
  agree (channels_of s) o v = let p = f s o in subst (λ (m : ℕ). holds m v ≡ holds_only m v) (sym p.2) (one_is_only p.0 v)
  agree (union a b) o v = ap₂ (λ (x y : Bool). x || y) (agree a o.0 v) (agree b o.1 v)
  agree (intersection a b) o v = ap₂ (λ (x y : Bool). x && y) (agree a o.0 v) (agree b o.1 v)
  agree (complement a) o v = ap not (sym (agree a o v))
  agree (shift a b) o v =
      let e : fixed D b ≡ true = yes_same _ _ (value b o.1) in
      ap (λ (x : Bool). not x || possible D a (v -ℤ least D b)) e ∙ agree a o.0 _ ∙ sym (ap (λ (x : Bool). x && certain D a (v -ℤ least D b)) e)

-- a range looks only at the stations that it names
pub looks_at : (D E : List ℕ) (r : Range) → ((s : ℕ) → names r s ≡ true → at D s ≡ at E s) → (v : ℤ)
    → (possible D r v ≡ possible E r v) × (certain D r v ≡ certain E r v)
looks_at D E (between a b) f v =
    let p = looks D E a (λ s h. f s (or_left _ _ h)) in
    let q = looks D E b (λ s h. f s (or_right _ _ h)) in
    (ap₂ (λ (x y : ℤ). le_z x v && le_z v y) p.0 q.1, ap₂ (λ (x y : ℤ). le_z x v && le_z v y) p.1 q.0)
looks_at D E (at_least a) f v = let p = looks D E a f in (ap (λ (x : ℤ). le_z x v) p.0, ap (λ (x : ℤ). le_z x v) p.1)
looks_at D E (at_most a) f v = let p = looks D E a f in (ap (λ (x : ℤ). le_z v x) p.1, ap (λ (x : ℤ). le_z v x) p.0)
looks_at D E (channels_of s) f v =
    let e : at D s ≡ at E s = f s (eq-eqb s s refl) in
    (ap (λ (m : ℕ). holds m v) e, ap (λ (m : ℕ). holds_only m v) e)
looks_at D E (union a b) f v =
    let p = looks_at D E a (λ s h. f s (or_left _ _ h)) v in
    let q = looks_at D E b (λ s h. f s (or_right _ _ h)) v in
    (ap₂ (λ (x y : Bool). x || y) p.0 q.0, ap₂ (λ (x y : Bool). x || y) p.1 q.1)
looks_at D E (intersection a b) f v =
    let p = looks_at D E a (λ s h. f s (or_left _ _ h)) v in
    let q = looks_at D E b (λ s h. f s (or_right _ _ h)) v in
    (ap₂ (λ (x y : Bool). x && y) p.0 q.0, ap₂ (λ (x y : Bool). x && y) p.1 q.1)
looks_at D E (complement a) f v = let p = looks_at D E a f v in (ap not p.1, ap not p.0)
looks_at D E (shift a b) f v =
    let q = looks D E b (λ s h. f s (or_right _ _ h)) in
    let p = looks_at D E a (λ s h. f s (or_left _ _ h)) (v -ℤ least D b) in
    let e : fixed D b ≡ fixed E b = ap₂ same q.0 q.1 in (
      ap₂ (λ (x y : Bool). not x || y) e (p.0 ∙ ap (λ (x : ℤ). possible E a (v -ℤ x)) q.0),
      ap₂ (λ (x y : Bool). x && y) e (p.1 ∙ ap (λ (x : ℤ). certain E a (v -ℤ x)) q.0),
    )

pub range_laws : (n : ℕ) (r : Range) → RangeOver n r → RangeLaws n r
range_laws n r o =
    record {
      possible_shrinks = λ D E s i v. (narrows n D E s i r o v).0;
      certain_grows = λ D E s i v. (narrows n D E s i r o v).1;
      certain_is_possible = λ D s v. is_possible n D s r o v;
      fixed_agrees = λ D f v. agree n D f r o v;
      frame = λ D E f v. looks_at D E r f v;
    }
