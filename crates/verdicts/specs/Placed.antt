-- What a sheet promises of a rule.
use Rattle.std.specs.Prelude.{◌≡◌, ℕ, ◌<◌, true, List}
use Rattle.judging.specs.Nodes.{has_range}
use Rattle.sheet.specs.declared.form.Claim.{Claim}
use Rattle.sheet.specs.declared.form.Node.{Node}
use Rattle.sheet.specs.declared.form.Rule.{Rule}
use Rattle.sheet.specs.declared.form.Rule.TheVariants.{Plain, Conditional}

-- a claim names one of n stations and a range that is there
pub record Placed (n : ℕ) (nodes : List Node) (k : Claim) : Type 0 where
  pub station : k.station < n
  pub range : has_range nodes k.range ≡ true

-- so does each claim of a rule
abbrev pub PlacedRule : ℕ → List Node → Rule → Type 0
PlacedRule n nodes (Plain k) = Placed n nodes k
PlacedRule n nodes (Conditional c d) = Placed n nodes c × Placed n nodes d
