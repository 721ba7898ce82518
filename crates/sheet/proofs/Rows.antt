-- What it says that a node may stand where it does, part by part.
use Rattle.std.proofs.Common.{◌≡◌, ℕ, ◌≤◌, true, List}
use Rattle.std.proofs.lemmas.Bool.{and_parts, eqb-true, leb-true}
use Rattle.sheet.specs.Limits.{deepest}
use Rattle.sheet.specs.Sound.{within, there, of_sort, depth_of, sound_row}
use Rattle.sheet.specs.declared.form.Fields.{Fields}
use Rattle.sheet.specs.declared.form.Node.{Node}
use Rattle.sheet.specs.declared.form.Shape.{Shape}

-- the parts of the test of a node's row
pub record Row (n : ℕ) (before : List Node) (d : ℕ) (row : Shape) (f : Fields) : Type 0 where
  pub limits : within row.least row.greatest f.k ≡ true
  pub a_there : there n before row.a f.a ≡ true
  pub b_there : there n before row.b f.b ≡ true
  pub a_sort : of_sort before row.a f.a ≡ true
  pub b_sort : of_sort before row.b f.b ≡ true
  pub deep : d ≡ depth_of before row f.a f.b
  pub shallow : d ≤ deepest

pub row_of : (n : ℕ) (before : List Node) (d : ℕ) (row : Shape) (f : Fields) → sound_row n before d row f ≡ true → Row n before d row f
row_of n before d row f e =
    let p = and_parts _ _ e in
    let q = and_parts _ _ p.0 in
    let r = and_parts _ _ q.0 in
    let t = and_parts _ _ r.1 in
    let s = and_parts _ _ q.1 in
    let u = and_parts _ _ p.1 in
    record { limits = r.0; a_there = t.0; b_there = t.1; a_sort = s.0; b_sort = s.1; deep = eqb-true _ _ u.0; shallow = leb-true _ _ u.1 }
