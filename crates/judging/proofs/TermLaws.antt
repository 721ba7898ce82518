-- The laws of terms.
use Rattle.std.proofs.Common.{◌≡◌, ℕ, ◌≤◌, Bool, true, false, cond, List, ℤ, pos, negsuc, ◌+ℤ◌, ◌-ℤ◌, ◌*ℤ◌, ◌≤ℤ◌, sym, refl, ap, ◌∙◌, ap₂, arith}
use borrow.Author.Differences.{ints}
use lib.Signed.{lt_z}
use Rattle.masks.proofs.Sets.{lowest_narrowed, highest_narrowed, lowest-highest, lowest_one, highest_one}
use Rattle.masks.specs.Sets.{channels, lowest, highest}
use Rattle.masks.specs.Tables.{at, Inside, Store, Fixed}
use Rattle.std.proofs.lemmas.Bool.{both_ways, or_left, or_right, eq-eqb, ltb-true, true≢false}
use Rattle.std.specs.Int.{int_div_euclid, int_rem_euclid}
use Rattle.judging.specs.Judged.{same, least, greatest, fixed}
use Rattle.judging.specs.Known.{Divisor}
use Rattle.judging.specs.Laws.{TermLaws}
use Rattle.judging.specs.Trees.{Term, number, station, sum, difference, multiple, quotient, remainder, term_names}
use Rattle.judging.proofs.Ints.{same_yes, yes_same, times_up, times_down, quotient_up, remainder_low, remainder_high}
use Rattle.judging.proofs.Trees.{TermOver}

-- the ends of one term lie within those of another, in order
pub record Nested (le lo hi ge : ℤ) : Type 0 where
  pub low : le ≤ℤ lo
  pub order : lo ≤ℤ hi
  pub high : hi ≤ℤ ge

-- a multiple's ends
times_nested : (k x y z w : ℤ) (b : Bool) → lt_z k (pos 0) ≡ b → Nested x y z w
    → Nested (cond b (k *ℤ w) (k *ℤ x)) (cond b (k *ℤ z) (k *ℤ y)) (cond b (k *ℤ y) (k *ℤ z)) (cond b (k *ℤ x) (k *ℤ w))
times_nested (pos k) x y z w true e h = absurd (omega (arith, ltb-true k 0 e))
times_nested (pos k) x y z w false e h = record { low = times_up k x y h.low; order = times_up k y z h.order; high = times_up k z w h.high }
times_nested (negsuc k) x y z w true e h = record { low = times_down k z w h.high; order = times_down k y z h.order; high = times_down k x y h.low }
times_nested (negsuc k) x y z w false e h = absurd (true≢false e)

quotient_nested : (k x y z w : ℤ) → Divisor k → Nested x y z w → Nested (int_div_euclid x k) (int_div_euclid y k) (int_div_euclid z k) (int_div_euclid w k)
quotient_nested (pos k) x y z w d h =
    record { low = quotient_up k x y d.some h.low; order = quotient_up k y z d.some h.order; high = quotient_up k z w d.some h.high }
quotient_nested (negsuc k) x y z w d h = absurd (omega (arith, ints, d.positive))

-- a remainder's ends: those of the larger store by b, those of the smaller one by c
remainder_nested : (k x y z w : ℤ) (b c : Bool) → same x w ≡ b → same y z ≡ c → Divisor k → Nested x y z w
    → Nested (cond b (int_rem_euclid x k) (pos 0)) (cond c (int_rem_euclid y k) (pos 0)) (cond c (int_rem_euclid y k) (k -ℤ pos 1)) (cond b (int_rem_euclid x k) (k -ℤ pos 1))
remainder_nested (negsuc k) x y z w b c p q d h = absurd (omega (arith, ints, d.positive))
remainder_nested (pos k) x y z w true true p q d h =
    let e : x ≡ w = same_yes x w p in
    let f : x ≡ y = omega (arith, ints, h.low, h.order, h.high) in
    let g : int_rem_euclid x (pos k) ≡ int_rem_euclid y (pos k) = ap (λ (v : ℤ). int_rem_euclid v (pos k)) f in
    record { low = omega (arith, ints); order = omega (arith, ints); high = omega (arith, ints) }
remainder_nested (pos k) x y z w true false p q d h =
    let e : x ≡ w = same_yes x w p in
    let f : y ≡ z = omega (arith, ints, h.low, h.order, h.high) in
    absurd (both_ways _ q (yes_same y z f))
remainder_nested (pos k) x y z w false true p q d h =
    record { low = remainder_low y (pos k); order = omega (arith, ints); high = remainder_high y k d.some }
remainder_nested (pos k) x y z w false false p q d h =
    let s : 1 ≤ k = d.some in
    record { low = omega (arith, ints); order = omega (arith, ints); high = omega (arith, ints) }

module _ (n : ℕ) (D E : List ℕ) (store : Store n D) (inside : Inside D E) where
  -- in a smaller store the ends of a term lie within those of the larger one
  pub nested : (t : Term) → TermOver n t → Nested (least E t) (least D t) (greatest D t) (greatest E t)
  nested (number k) o = record { low = omega (arith, ints); order = omega (arith, ints); high = omega (arith, ints) }
  nested (station s) o =
      let p : lowest channels (at E s) ≤ lowest channels (at D s) = lowest_narrowed channels (at D s) (at E s) (inside s) in
      let q : lowest channels (at D s) ≤ highest channels (at D s) = lowest-highest channels (at D s) (store s o).some (store s o).below in
      let r : highest channels (at D s) ≤ highest channels (at E s) = highest_narrowed channels (at D s) (at E s) (inside s) in
      record { low = omega (arith, ints); order = omega (arith, ints); high = omega (arith, ints) }
  nested (sum a b) o =
      let p = nested a o.0 in
      let q = nested b o.1 in
      record { low = omega (arith, ints, p.low, q.low); order = omega (arith, ints, p.order, q.order); high = omega (arith, ints, p.high, q.high) }
  nested (difference a b) o =
      let p = nested a o.0 in
      let q = nested b o.1 in
      record { low = omega (arith, ints, p.low, q.high); order = omega (arith, ints, p.order, q.order); high = omega (arith, ints, p.high, q.low) }
  nested (multiple k a) o = times_nested k _ _ _ _ (lt_z k (pos 0)) refl (nested a o)
  nested (quotient a k) o = quotient_nested k _ _ _ _ o.0 (nested a o.1)
  nested (remainder a k) o = remainder_nested k _ _ _ _ (fixed E a) (fixed D a) refl refl o.0 (nested a o.1)

-- where each station has one channel, a term has one value
pub one_value : (n : ℕ) (D : List ℕ) → Fixed n D → (t : Term) → TermOver n t → least D t ≡ greatest D t
one_value n D f (number k) o = refl
one_value n D f (station s) o =
    let p = f s o in
    ap (λ (m : ℕ). pos (lowest channels m)) p.2 ∙ ap pos (lowest_one channels p.0 p.1 ∙ sym (highest_one channels p.0 p.1))
    ∙ sym (ap (λ (m : ℕ). pos (highest channels m)) p.2)
one_value n D f (sum a b) o = ap₂ (λ (x y : ℤ). x +ℤ y) (one_value n D f a o.0) (one_value n D f b o.1)
one_value n D f (difference a b) o = ap₂ (λ (x y : ℤ). x -ℤ y) (one_value n D f a o.0) (sym (one_value n D f b o.1))
one_value n D f (multiple k a) o =
    let e : least D a ≡ greatest D a = one_value n D f a o in
    ap₂ (λ (x y : ℤ). cond (lt_z k (pos 0)) (k *ℤ x) (k *ℤ y)) (sym e) e
one_value n D f (quotient a k) o = ap (λ (x : ℤ). int_div_euclid x k) (one_value n D f a o.1)
one_value n D f (remainder a k) o =
    let e : fixed D a ≡ true = yes_same _ _ (one_value n D f a o.1) in
    ap (λ (b : Bool). cond b (int_rem_euclid (least D a) k) (pos 0)) e ∙ sym (ap (λ (b : Bool). cond b (int_rem_euclid (least D a) k) (k -ℤ pos 1)) e)

-- a term looks only at the stations that it names
pub looks : (D E : List ℕ) (t : Term) → ((s : ℕ) → term_names t s ≡ true → at D s ≡ at E s) → (least D t ≡ least E t) × (greatest D t ≡ greatest E t)
looks D E (number k) f = (refl, refl)
looks D E (station s) f =
    let e : at D s ≡ at E s = f s (eq-eqb s s refl) in
    (ap (λ (m : ℕ). pos (lowest channels m)) e, ap (λ (m : ℕ). pos (highest channels m)) e)
looks D E (sum a b) f =
    let p = looks D E a (λ s h. f s (or_left _ _ h)) in
    let q = looks D E b (λ s h. f s (or_right _ _ h)) in
    (ap₂ (λ (x y : ℤ). x +ℤ y) p.0 q.0, ap₂ (λ (x y : ℤ). x +ℤ y) p.1 q.1)
looks D E (difference a b) f =
    let p = looks D E a (λ s h. f s (or_left _ _ h)) in
    let q = looks D E b (λ s h. f s (or_right _ _ h)) in
    (ap₂ (λ (x y : ℤ). x -ℤ y) p.0 q.1, ap₂ (λ (x y : ℤ). x -ℤ y) p.1 q.0)
looks D E (multiple k a) f =
    let p = looks D E a f in
    (ap₂ (λ (x y : ℤ). cond (lt_z k (pos 0)) (k *ℤ x) (k *ℤ y)) p.1 p.0, ap₂ (λ (x y : ℤ). cond (lt_z k (pos 0)) (k *ℤ x) (k *ℤ y)) p.0 p.1)
looks D E (quotient a k) f = let p = looks D E a f in (ap (λ (x : ℤ). int_div_euclid x k) p.0, ap (λ (x : ℤ). int_div_euclid x k) p.1)
looks D E (remainder a k) f =
    let p = looks D E a f in
    (ap₂ (λ (x y : ℤ). cond (same x y) (int_rem_euclid x k) (pos 0)) p.0 p.1, ap₂ (λ (x y : ℤ). cond (same x y) (int_rem_euclid x k) (k -ℤ pos 1)) p.0 p.1)

pub term_laws : (n : ℕ) (t : Term) → TermOver n t → TermLaws n t
term_laws n t o =
    record {
      least_rises = λ D E s i. (nested n D E s i t o).low;
      greatest_falls = λ D E s i. (nested n D E s i t o).high;
      ends_in_order = λ D s. (nested n D D s (λ z c h. h) t o).order;
      fixed_agrees = λ D f. one_value n D f t o;
      frame = λ D E f. looks D E t f;
    }
