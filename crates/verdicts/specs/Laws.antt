-- What the laws of judging come to for verdicts.
use Rattle.std.specs.Prelude.{◌≡◌, ℕ, ◌<◌, Bool, true, ◌||◌, List, length, ◌==◌, ◌≢◌, slice_index_or}
use Rattle.judging.specs.Nodes.{range_of}
use Rattle.judging.specs.Trees.{names}
use Rattle.masks.specs.Tables.{at, Inside, Store, Fixed, Choice}
use Rattle.sheet.specs.Content.{Content}
use Rattle.sheet.specs.Sound.{missing_rule}
use Rattle.sheet.specs.declared.form.Claim.{Claim}
use Rattle.sheet.specs.declared.form.Node.{Node}
use Rattle.sheet.specs.declared.form.Rule.{Rule}
use Rattle.sheet.specs.declared.form.Rule.TheVariants.{Plain, Conditional}
use Rattle.verdicts.specs.Rules.{rule_verdict}
use Rattle.verdicts.specs.declared.values.Verdict.TheVariants.{Sure, Open, Broken}

-- whether a claim is about station s, or its range names it
abbrev pub claim_names : List Node → Claim → ℕ → Bool
claim_names nodes k s = k.station == s || names (range_of nodes k.range) s

-- whether a rule names station s in one of its claims
abbrev pub rule_names : List Node → Rule → ℕ → Bool
rule_names nodes (Plain k) s = claim_names nodes k s
rule_names nodes (Conditional c d) s = claim_names nodes c s || claim_names nodes d s

-- the laws of a rule on a sheet of n stations
pub record RuleLaws (n : ℕ) (nodes : List Node) (ρ : Rule) : Type 0 where
  -- a rule that is sure stays so in every smaller store
  pub sure_stays_sure : (D E : List ℕ) → Store n D → Inside D E → rule_verdict nodes E ρ ≡ Sure → rule_verdict nodes D ρ ≡ Sure
  -- and one that is broken stays broken
  pub broken_stays_broken : (D E : List ℕ) → Store n D → Inside D E → rule_verdict nodes E ρ ≡ Broken → rule_verdict nodes D ρ ≡ Broken
  -- a rule that is sure in a store is sure for every choice of one channel a station from it
  pub sure_at_every_choice : (D P : List ℕ) → Choice n D P → rule_verdict nodes D ρ ≡ Sure → rule_verdict nodes P ρ ≡ Sure
  -- where each station has one channel, no rule is open
  pub fixed_decides : (D : List ℕ) → Fixed n D → rule_verdict nodes D ρ ≢ Open
  -- only the stations that the rule names are looked at
  pub frame : (D E : List ℕ) → ((s : ℕ) → rule_names nodes ρ s ≡ true → at D s ≡ at E s) → rule_verdict nodes D ρ ≡ rule_verdict nodes E ρ

-- the laws of all rules of a sheet
abbrev pub VerdictLaws : Content → Type 0
VerdictLaws s = (i : ℕ) → i < length s.rules → RuleLaws (length s.stations) s.nodes (slice_index_or s.rules i missing_rule)
