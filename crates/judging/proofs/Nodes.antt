-- From a sheet's soundness to what is known of a node by what it says.
use Rattle.std.proofs.Common.{◌≡◌, ℕ, ◌<◌, ◌≤◌, Bool, true, false, not, ltb, List, length, get_or, take, ℤ, pos, negsuc, ◌≤ℤ◌, refl, subst, arith, length-take-le, get_or-take}
use borrow.Author.Differences.{ints}
use lib.Signed.{le_z}
use Rattle.std.proofs.lemmas.Bool.{and_parts, not-true, ltb-true}
use Rattle.judging.specs.Bounds.{bound}
use Rattle.judging.specs.Known.{Known, Names, Divisor}
use Rattle.judging.specs.Nodes.{depth_at}
use Rattle.judging.proofs.Bounds.{bound_up, bound_step, bound_8, bound_1}
use Rattle.sheet.proofs.Rows.{Row, row_of}
use Rattle.sheet.specs.Kinds.{shape_of, fields_of, is_term}
use Rattle.sheet.specs.Sound.{missing_node, within, SoundNodes}
use Rattle.sheet.specs.declared.form.Node.{Node}
use Rattle.sheet.specs.declared.form.Form.{Form}
use Rattle.sheet.specs.declared.form.Form.TheVariants.{Number, Station, Sum, Difference, Multiple, Quotient, Remainder, Between, AtLeast, AtMost, Channels, Union, Intersection, Complement, Shift}

-- every node has a depth from 1 to 8
pub depths : (n : ℕ) (nodes : List Node) → SoundNodes n nodes → (i : ℕ) → i < length nodes → (1 ≤ depth_at nodes i) × (depth_at nodes i ≤ 8)
depths n nodes sound i h =
    let x : Form = (get_or nodes i missing_node).form in
    let r : Row n (take i nodes) (depth_at nodes i) (shape_of x) (fields_of x) = row_of n (take i nodes) _ _ _ (sound i h) in
    (omega (arith, r.deep), r.shallow)

pub bounded_depth : (n : ℕ) (nodes : List Node) → SoundNodes n nodes → (i : ℕ) → i < length nodes → bound (depth_at nodes i) ≤ 268435456000
bounded_depth n nodes sound i h = omega (arith, bound_up _ _ (depths n nodes sound i h).1, bound_8)

-- a node that stands before node i and is less deep
names : (n : ℕ) (nodes : List Node) → SoundNodes n nodes → (i : ℕ) → i < length nodes → (v : ℕ) (b : Bool) → ltb v (length (take i nodes)) ≡ true
    → is_term (get_or (take i nodes) v missing_node).form ≡ b → (get_or (take i nodes) v missing_node).depth < depth_at nodes i → Names b nodes i v
names n nodes sound i h v b t s d =
    let e : v < i = omega (arith, ltb-true _ _ t, length-take-le i nodes (omega arith)) in
    let l : depth_at nodes v < depth_at nodes i = subst (λ (x : Node). x.depth < depth_at nodes i) (get_or-take i nodes v missing_node e) d in
    let p : 1 ≤ depth_at nodes v = (depths n nodes sound v (omega arith)).0 in
    let q : depth_at nodes i ≤ 8 = (depths n nodes sound i h).1 in
    record {
      sort = subst (λ (x : Node). is_term x.form ≡ b) (get_or-take i nodes v missing_node e) s;
      earlier = e;
      deeper = l;
      shallow = q;
      wide = omega (arith, bound_up 1 (depth_at nodes i) (omega arith), bound_1);
      room = bound_step _ _ p l;
      limit = omega (arith, bound_up _ _ q, bound_8);
    }

-- a test of limits, as an order
limits_of : (low high k : ℤ) → within low high k ≡ true → (low ≤ℤ k) × (k ≤ℤ high)
limits_of low high k e =
    let p : le_z low k ≡ true = (and_parts (le_z low k) (le_z k high) e).0 in
    let q : le_z k high ≡ true = (and_parts (le_z low k) (le_z k high) e).1 in
    (omega (arith, ints), omega (arith, ints))

divisor : (k : ℤ) → within (pos 1) (pos 64) k ≡ true → Divisor k
divisor (pos k) e = let p : (pos 1 ≤ℤ pos k) × (pos k ≤ℤ pos 64) = limits_of _ _ _ e in
    record { positive = refl; some = omega (arith, ints); few = omega (arith, ints) }
divisor (negsuc k) e = let p : (pos 1 ≤ℤ negsuc k) × (negsuc k ≤ℤ pos 64) = limits_of _ _ _ e in
    absurd (omega (arith, ints))

module _ (n : ℕ) (nodes : List Node) (few : n ≤ 32) (sound : SoundNodes n nodes) (i : ℕ) (h : i < length nodes) where
  term : (v : ℕ) → ltb v (length (take i nodes)) ≡ true → is_term (get_or (take i nodes) v missing_node).form ≡ true
      → (get_or (take i nodes) v missing_node).depth < depth_at nodes i → Names true nodes i v
  term v t s d = names n nodes sound i h v true t s d

  range : (v : ℕ) → ltb v (length (take i nodes)) ≡ true → not (is_term (get_or (take i nodes) v missing_node).form) ≡ true
      → (get_or (take i nodes) v missing_node).depth < depth_at nodes i → Names false nodes i v
  range v t s d = names n nodes sound i h v false t (not-true _ s) d

  by_row : (x : Form) → Row n (take i nodes) (depth_at nodes i) (shape_of x) (fields_of x) → Known n nodes i x
  by_row (Number k) r = (omega (arith, ints, limits_of (negsuc 999) (pos 1000) k r.limits), omega (arith, r.deep, bound_up 1 (depth_at nodes i) (omega (arith, r.deep)), bound_1))
  by_row (Station s) r = (ltb-true _ _ r.a_there, omega (arith, ltb-true _ _ r.a_there), omega (arith, r.deep, bound_up 1 (depth_at nodes i) (omega (arith, r.deep)), bound_1))
  by_row (Sum a b) r = (term a r.a_there r.a_sort (omega (arith, r.deep)), term b r.b_there r.b_sort (omega (arith, r.deep)))
  by_row (Difference a b) r = (term a r.a_there r.a_sort (omega (arith, r.deep)), term b r.b_there r.b_sort (omega (arith, r.deep)))
  by_row (Multiple k a) r = (omega (arith, ints, limits_of (negsuc 15) (pos 16) k r.limits), term a r.a_there r.a_sort (omega (arith, r.deep)))
  by_row (Quotient a k) r = (divisor k r.limits, term a r.a_there r.a_sort (omega (arith, r.deep)))
  by_row (Remainder a k) r = (divisor k r.limits, term a r.a_there r.a_sort (omega (arith, r.deep)))
  by_row (Between a b) r = (term a r.a_there r.a_sort (omega (arith, r.deep)), term b r.b_there r.b_sort (omega (arith, r.deep)))
  by_row (AtLeast a) r = term a r.a_there r.a_sort (omega (arith, r.deep))
  by_row (AtMost a) r = term a r.a_there r.a_sort (omega (arith, r.deep))
  by_row (Channels s) r = (ltb-true _ _ r.a_there, omega (arith, ltb-true _ _ r.a_there))
  by_row (Union a b) r = (range a r.a_there r.a_sort (omega (arith, r.deep)), range b r.b_there r.b_sort (omega (arith, r.deep)))
  by_row (Intersection a b) r = (range a r.a_there r.a_sort (omega (arith, r.deep)), range b r.b_there r.b_sort (omega (arith, r.deep)))
  by_row (Complement a) r = range a r.a_there r.a_sort (omega (arith, r.deep))
  by_row (Shift a b) r = (range a r.a_there r.a_sort (omega (arith, r.deep)), term b r.b_there r.b_sort (omega (arith, r.deep)))

  pub known : Known n nodes i (get_or nodes i missing_node).form
  known = by_row _ (row_of n (take i nodes) _ _ _ (sound i h))
