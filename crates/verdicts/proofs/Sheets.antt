-- What the type of sheets says of verdicts and of what rules leave.
use Rattle.std.proofs.Common.{◌≡◌, ℕ, ◌<◌, List, length, sym, subst, slice_index_or}
use Rattle.judging.proofs.Laws.{sheet_laws}
use Rattle.masks.specs.Tables.{Store}
use Rattle.sheet.proofs.Types.{valid}
use Rattle.sheet.specs.Content.{content}
use Rattle.sheet.specs.Sound.{missing_rule}
use Rattle.sheet.specs.declared.valid.Sheet.{Sheet}
use Rattle.verdicts.proofs.Placed.{placed_rule}
use Rattle.verdicts.proofs.RuleLaws.{verdict_laws, rule_means}
use Rattle.verdicts.specs.Laws.{VerdictLaws}
use Rattle.verdicts.specs.Rules.{Means, rule_verdict}
use Rattle.verdicts.specs.declared.values.Verdict.{Verdict}

pub sheet_verdict_laws : (s : Sheet) → VerdictLaws (content s)
sheet_verdict_laws s = verdict_laws (content s) (valid s)

pub verdict_means : (s : Sheet) (D : List ℕ) (i : ℕ) (v : Verdict) → i < length (content s).rules
    → v ≡ rule_verdict (content s).nodes D (slice_index_or (content s).rules i missing_rule)
    → Store (length (content s).stations) D → Means v (content s).nodes D (slice_index_or (content s).rules i missing_rule)
verdict_means s D i v h e store =
    subst (λ (x : Verdict). Means x (content s).nodes D (slice_index_or (content s).rules i missing_rule)) (sym e)
    (rule_means _ _ (sheet_laws s).ranges _ (placed_rule _ _ _ ((valid s).rules_sound i h)) D store)
