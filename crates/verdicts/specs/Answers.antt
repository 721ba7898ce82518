-- What is answered when a rule of a sheet is asked about.
use Rattle.std.specs.Prelude.{ℕ, List, length, IfSome, Option, nat_lt, slice_index_or}
use Rattle.judging.specs.Answers.{answer_if}
use Rattle.masks.specs.Tables.{Store}
use Rattle.sheet.specs.Content.{Content}
use Rattle.sheet.specs.Sound.{missing_rule}
use Rattle.verdicts.specs.Rules.{leaves, Means, rule_verdict}
use Rattle.verdicts.specs.declared.values.Narrowed.{Narrowed}
use Rattle.verdicts.specs.declared.values.Verdict.{Verdict}

-- the verdict on rule i, if there is one
abbrev pub verdict_on : Content → List ℕ → ℕ → Option Verdict
verdict_on s D i = answer_if (nat_lt i (length s.rules)) (rule_verdict s.nodes D (slice_index_or s.rules i missing_rule))

-- in a store, a verdict that is answered means of rule i what it should
abbrev pub MeansOn : Content → List ℕ → ℕ → Option Verdict → Type 0
MeansOn s D i r = Store (length s.stations) D → IfSome r (λ v. Means v s.nodes D (slice_index_or s.rules i missing_rule))

-- what rule i leaves, if there is such a rule
abbrev pub left_on : Content → List ℕ → ℕ → Option Narrowed
left_on s D i = answer_if (nat_lt i (length s.rules)) (leaves s.nodes D (slice_index_or s.rules i missing_rule))
