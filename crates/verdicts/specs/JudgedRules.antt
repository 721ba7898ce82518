-- A rule of a judged sheet, as the code holds it.
use Rattle.std.specs.Prelude.{◌≡◌, ℕ, ◌<◌, ◌≤◌, Option, MatchOption, vec_items, vec_len, slice_index_or}
use Rattle.judging.specs.declared.values.Judge.{Judge}
use Rattle.sheet.specs.Sound.{missing_rule}
use Rattle.verdicts.specs.declared.judged.JudgedRule.{JudgedRule}

-- the answer is rule i of a judged sheet where there is one, and else nothing
abbrev pub FindsRule : Judge → ℕ → Option JudgedRule → Type 0
FindsRule j i r =
    MatchOption r (vec_len j.sheet.now.rules ≤ i) (λ x. (i < vec_len j.sheet.now.rules) × (x.judge ≡ j) × (x.rule ≡ slice_index_or (vec_items j.sheet.now.rules) i missing_rule))
