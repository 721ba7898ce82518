-- A node that passes the checks has the fields that it was read from.
use Rattle.std.proofs.Common.{◌≡◌, ℕ, true, ◌&&◌, List, ℤ, pos, Some, arith}
use Rattle.std.proofs.lemmas.Bool.Decides.{nat_tests}
use Rattle.std.proofs.lemmas.Int.{ints}
use Rattle.sheet.specs.declared.form.Form.{Form}
use Rattle.sheet.specs.declared.form.Node.{Node}
use Rattle.sheet.specs.declared.form.Fields.{Fields}
use Rattle.sheet.specs.Kinds.{form_of, shape_of, fields_of}
use Rattle.sheet.specs.Sound.{there, within}

zero_only : (k : ℤ) → within (pos 0) (pos 0) k ≡ true → k ≡ pos 0
zero_only k h = grind (arith, ints)

module _ (n : ℕ) (before : List Node) (f : Fields) where
  pub fields_same :
      (x : Form) → form_of f ≡ Some x
      → (there n before (shape_of x).a f.a && there n before (shape_of x).b f.b) ≡ true
      → within (shape_of x).least (shape_of x).greatest f.k ≡ true → fields_of x ≡ f
  fields_same x e t w = grind (arith, nat_tests, zero_only)
