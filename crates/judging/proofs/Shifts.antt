-- A shift by a term that has one value.
use Rattle.std.proofs.Common.{◌≡◌, ℕ, Bool, true, not, ◌&&◌, ◌||◌, List, ℤ, ◌-ℤ◌, sym, ap, ◌∙◌, ap₂}
use Rattle.judging.specs.Judged.{same, least, greatest, possible, certain}
use Rattle.judging.specs.Trees.{Term, Range, shift}

module _ (D : List ℕ) (r a : Range) (b : Term) (by v : ℤ) (says : r ≡ shift a b) (one : same (least D b) (greatest D b) ≡ true) (is : by ≡ least D b) where
  pub shifted_possible : possible D a (v -ℤ by) ≡ possible D r v
  shifted_possible =
      sym
      (ap (λ (x : Range). possible D x v) says
      ∙ ap₂ (λ (t : Bool) (x : ℤ). not t || possible D a (v -ℤ x)) one (sym is))

  pub shifted_certain : certain D a (v -ℤ by) ≡ certain D r v
  shifted_certain =
      sym
      (ap (λ (x : Range). certain D x v) says
      ∙ ap₂ (λ (t : Bool) (x : ℤ). t && certain D a (v -ℤ x)) one (sym is))
