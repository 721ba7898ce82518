-- What a sheet promises of a node, by what the node says.
use Rattle.std.specs.Prelude.{◌≡◌, ℕ, ◌*◌, ◌<◌, ◌≤◌, Bool, true, false, List, ℤ, pos, unsigned_abs}
use Rattle.judging.specs.Bounds.{bound}
use Rattle.judging.specs.Nodes.{depth_at, term_at}
use Rattle.sheet.specs.declared.form.Node.{Node}
use Rattle.sheet.specs.declared.form.Form.{Form}
use Rattle.sheet.specs.declared.form.Form.TheVariants.{Number, Station, Sum, Difference, Multiple, Quotient, Remainder, Between, AtLeast, AtMost, Channels, Union, Intersection, Complement, Shift}

-- node i names node v: an earlier one that is less deep, and a term or a range as is wanted
pub record Names (term : Bool) (nodes : List Node) (i v : ℕ) : Type 0 where
  pub sort : term_at nodes v ≡ term
  pub earlier : v < i
  pub deeper : depth_at nodes v < depth_at nodes i
  pub shallow : depth_at nodes i ≤ 8
  pub wide : 1000 ≤ bound (depth_at nodes i)
  pub room : 16 * bound (depth_at nodes v) ≤ bound (depth_at nodes i)
  pub limit : bound (depth_at nodes i) ≤ 268435456000

-- a number that is at least 1 and at most 64
pub record Divisor (k : ℤ) : Type 0 where
  pub positive : pos (unsigned_abs k) ≡ k
  pub some : 1 ≤ unsigned_abs k
  pub few : unsigned_abs k ≤ 64

-- what node i's form says of its parts, on a sheet of n stations: the nodes that it names, the station, and the size of its number
abbrev pub Known : ℕ → List Node → ℕ → Form → Type 0
Known n nodes i (Number k) = (unsigned_abs k ≤ 1000) × (1000 ≤ bound (depth_at nodes i))
Known n nodes i (Station s) = (s < n) × (s < 32) × (1000 ≤ bound (depth_at nodes i))
Known n nodes i (Sum a b) = Names true nodes i a × Names true nodes i b
Known n nodes i (Difference a b) = Names true nodes i a × Names true nodes i b
Known n nodes i (Multiple k a) = (unsigned_abs k ≤ 16) × Names true nodes i a
Known n nodes i (Quotient a k) = Divisor k × Names true nodes i a
Known n nodes i (Remainder a k) = Divisor k × Names true nodes i a
Known n nodes i (Between a b) = Names true nodes i a × Names true nodes i b
Known n nodes i (AtLeast a) = Names true nodes i a
Known n nodes i (AtMost a) = Names true nodes i a
Known n nodes i (Channels s) = (s < n) × (s < 32)
Known n nodes i (Union a b) = Names false nodes i a × Names false nodes i b
Known n nodes i (Intersection a b) = Names false nodes i a × Names false nodes i b
Known n nodes i (Complement a) = Names false nodes i a
Known n nodes i (Shift a b) = Names false nodes i a × Names true nodes i b
