-- What a node stands for is told by what the nodes that it names stand for; and the trees of a sheet name only its stations, and divide by no number below 1.
use Rattle.std.proofs.Common.{◌≡◌, ℕ, zero, suc, ◌<◌, List, length, get_or, sym, refl, ap, subst, ap₂, arith}
use Rattle.sheet.specs.Sound.{missing_node}
use Rattle.sheet.specs.declared.form.Node.{Node}
use Rattle.sheet.specs.declared.form.Form.{Form}
use Rattle.sheet.specs.declared.form.Form.TheVariants.{Number, Station, Sum, Difference, Multiple, Quotient, Remainder, Between, AtLeast, AtMost, Channels, Union, Intersection, Complement, Shift}
use Rattle.judging.specs.Known.{Known, Divisor}
use Rattle.judging.specs.Nodes.{as_term, as_range, term_within, term_of, range_within, range_of}
use Rattle.judging.specs.Trees.{Term, number, station, sum, difference, multiple, quotient, remainder}
use Rattle.judging.specs.Trees.{Range, between, at_least, at_most, channels_of, union, intersection, complement, shift}

-- a term that a sheet of n stations may have
abbrev pub TermOver : ℕ → Term → Type 0
TermOver n (number k) = Unit {0}
TermOver n (station s) = s < n
TermOver n (sum a b) = TermOver n a × TermOver n b
TermOver n (difference a b) = TermOver n a × TermOver n b
TermOver n (multiple k a) = TermOver n a
TermOver n (quotient a k) = Divisor k × TermOver n a
TermOver n (remainder a k) = Divisor k × TermOver n a

-- a range that a sheet of n stations may have
abbrev pub RangeOver : ℕ → Range → Type 0
RangeOver n (between a b) = TermOver n a × TermOver n b
RangeOver n (at_least a) = TermOver n a
RangeOver n (at_most a) = TermOver n a
RangeOver n (channels_of s) = s < n
RangeOver n (union a b) = RangeOver n a × RangeOver n b
RangeOver n (intersection a b) = RangeOver n a × RangeOver n b
RangeOver n (complement a) = RangeOver n a
RangeOver n (shift a b) = RangeOver n a × TermOver n b

-- a node looks only at nodes before it
as_term_same : (n : ℕ) (nodes : List Node) (i : ℕ) (x : Form) → Known n nodes i x → (t u : ℕ → Term) → ((a : ℕ) → a < i → t a ≡ u a) → as_term t x ≡ as_term u x
as_term_same n nodes i (Number k) p t u e = refl
as_term_same n nodes i (Station s) p t u e = refl
as_term_same n nodes i (Sum a b) p t u e = ap₂ sum (e a p.0.earlier) (e b p.1.earlier)
as_term_same n nodes i (Difference a b) p t u e = ap₂ difference (e a p.0.earlier) (e b p.1.earlier)
as_term_same n nodes i (Multiple k a) p t u e = ap (multiple k) (e a p.1.earlier)
as_term_same n nodes i (Quotient a k) p t u e = ap (λ (x : Term). quotient x k) (e a p.1.earlier)
as_term_same n nodes i (Remainder a k) p t u e = ap (λ (x : Term). remainder x k) (e a p.1.earlier)
as_term_same n nodes i (Between a b) p t u e = refl
as_term_same n nodes i (AtLeast a) p t u e = refl
as_term_same n nodes i (AtMost a) p t u e = refl
as_term_same n nodes i (Channels s) p t u e = refl
as_term_same n nodes i (Union a b) p t u e = refl
as_term_same n nodes i (Intersection a b) p t u e = refl
as_term_same n nodes i (Complement a) p t u e = refl
as_term_same n nodes i (Shift a b) p t u e = refl

as_range_same : (n : ℕ) (nodes : List Node) (i : ℕ) (x : Form) → Known n nodes i x → (t : ℕ → Term) (r q : ℕ → Range) → ((a : ℕ) → a < i → r a ≡ q a)
    → as_range t r x ≡ as_range t q x
as_range_same n nodes i (Number k) p t r q e = refl
as_range_same n nodes i (Station s) p t r q e = refl
as_range_same n nodes i (Sum a b) p t r q e = refl
as_range_same n nodes i (Difference a b) p t r q e = refl
as_range_same n nodes i (Multiple k a) p t r q e = refl
as_range_same n nodes i (Quotient a k) p t r q e = refl
as_range_same n nodes i (Remainder a k) p t r q e = refl
as_range_same n nodes i (Between a b) p t r q e = refl
as_range_same n nodes i (AtLeast a) p t r q e = refl
as_range_same n nodes i (AtMost a) p t r q e = refl
as_range_same n nodes i (Channels s) p t r q e = refl
as_range_same n nodes i (Union a b) p t r q e = ap₂ union (e a p.0.earlier) (e b p.1.earlier)
as_range_same n nodes i (Intersection a b) p t r q e = ap₂ intersection (e a p.0.earlier) (e b p.1.earlier)
as_range_same n nodes i (Complement a) p t r q e = ap complement (e a p.earlier)
as_range_same n nodes i (Shift a b) p t r q e = ap (λ (x : Range). shift x (t b)) (e a p.0.earlier)

module _ (n : ℕ) (nodes : List Node) (known : (i : ℕ) → i < length nodes → Known n nodes i (get_or nodes i missing_node).form) where
  -- looking deeper than needed changes nothing
  term_deep : (f g i : ℕ) → i < f → i < g → i < length nodes → term_within f nodes i ≡ term_within g nodes i
  unfolding term_within
  term_deep zero g i p q h = absurd (omega arith)
  term_deep (suc f) zero i p q h = absurd (omega arith)
  term_deep (suc f) (suc g) i p q h =
      as_term_same n nodes i _ (known i h) (term_within f nodes) (term_within g nodes) (λ a l. term_deep f g a (omega arith) (omega arith) (omega arith))

  range_deep : (f g i : ℕ) → i < f → i < g → i < length nodes → range_within f nodes i ≡ range_within g nodes i
  unfolding range_within
  range_deep zero g i p q h = absurd (omega arith)
  range_deep (suc f) zero i p q h = absurd (omega arith)
  range_deep (suc f) (suc g) i p q h =
      as_range_same n nodes i _ (known i h) (term_of nodes) (range_within f nodes) (range_within g nodes) (λ a l. range_deep f g a (omega arith) (omega arith) (omega arith))

  pub term_step : (i : ℕ) → i < length nodes → term_of nodes i ≡ as_term (term_of nodes) (get_or nodes i missing_node).form
  unfolding term_of term_within
  term_step i h = as_term_same n nodes i _ (known i h) (term_within i nodes) (λ a. term_within (suc a) nodes a) (λ a l. term_deep i (suc a) a l (omega arith) (omega arith))

  pub range_step : (i : ℕ) → i < length nodes → range_of nodes i ≡ as_range (term_of nodes) (range_of nodes) (get_or nodes i missing_node).form
  unfolding range_of range_within
  range_step i h = as_range_same n nodes i _ (known i h) (term_of nodes) (range_within i nodes) (λ a. range_within (suc a) nodes a) (λ a l. range_deep i (suc a) a l (omega arith) (omega arith))

  -- the trees of a sheet are over its stations
  as_term_over : (i : ℕ) (x : Form) → Known n nodes i x → ((a : ℕ) → a < i → TermOver n (term_of nodes a)) → TermOver n (as_term (term_of nodes) x)
  as_term_over i (Number k) p o = tt
  as_term_over i (Station s) p o = p.0
  as_term_over i (Sum a b) p o = (o a p.0.earlier, o b p.1.earlier)
  as_term_over i (Difference a b) p o = (o a p.0.earlier, o b p.1.earlier)
  as_term_over i (Multiple k a) p o = o a p.1.earlier
  as_term_over i (Quotient a k) p o = (p.0, o a p.1.earlier)
  as_term_over i (Remainder a k) p o = (p.0, o a p.1.earlier)
  as_term_over i (Between a b) p o = tt
  as_term_over i (AtLeast a) p o = tt
  as_term_over i (AtMost a) p o = tt
  as_term_over i (Channels s) p o = tt
  as_term_over i (Union a b) p o = tt
  as_term_over i (Intersection a b) p o = tt
  as_term_over i (Complement a) p o = tt
  as_term_over i (Shift a b) p o = tt

  term_over_below : (m i : ℕ) → i < m → i < length nodes → TermOver n (term_of nodes i)
  term_over_below zero i l h = absurd (omega arith)
  term_over_below (suc m) i l h =
      subst (TermOver n) (sym (term_step i h)) (as_term_over i _ (known i h) (λ a e. term_over_below m a (omega arith) (omega arith)))

  pub term_over : (i : ℕ) → i < length nodes → TermOver n (term_of nodes i)
  term_over i h = term_over_below (suc i) i (omega arith) h

  as_range_over : (i : ℕ) (x : Form) → i < length nodes → Known n nodes i x → ((a : ℕ) → a < i → RangeOver n (range_of nodes a)) → RangeOver n (as_range (term_of nodes) (range_of nodes) x)
  as_range_over i (Number k) h p o = tt
  as_range_over i (Station s) h p o = tt
  as_range_over i (Sum a b) h p o = tt
  as_range_over i (Difference a b) h p o = tt
  as_range_over i (Multiple k a) h p o = tt
  as_range_over i (Quotient a k) h p o = tt
  as_range_over i (Remainder a k) h p o = tt
  as_range_over i (Between a b) h p o = (term_over a (omega (arith, p.0.earlier)), term_over b (omega (arith, p.1.earlier)))
  as_range_over i (AtLeast a) h p o = term_over a (omega (arith, p.earlier))
  as_range_over i (AtMost a) h p o = term_over a (omega (arith, p.earlier))
  as_range_over i (Channels s) h p o = p.0
  as_range_over i (Union a b) h p o = (o a p.0.earlier, o b p.1.earlier)
  as_range_over i (Intersection a b) h p o = (o a p.0.earlier, o b p.1.earlier)
  as_range_over i (Complement a) h p o = o a p.earlier
  as_range_over i (Shift a b) h p o = (o a p.0.earlier, term_over b (omega (arith, p.1.earlier)))

  range_over_below : (m i : ℕ) → i < m → i < length nodes → RangeOver n (range_of nodes i)
  range_over_below zero i l h = absurd (omega arith)
  range_over_below (suc m) i l h =
      subst (RangeOver n) (sym (range_step i h)) (as_range_over i _ h (known i h) (λ a e. range_over_below m a (omega arith) (omega arith)))

  pub range_over : (i : ℕ) → i < length nodes → RangeOver n (range_of nodes i)
  range_over i h = range_over_below (suc i) i (omega arith) h
