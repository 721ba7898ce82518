-- How a verdict is printed.
use Rattle.std.specs.Prelude.{List, ℕ, codes}
use Rattle.verdicts.specs.declared.values.Verdict.{Verdict}
use Rattle.verdicts.specs.declared.values.Verdict.TheVariants.{Sure, Open, Broken}

-- a verdict's word
abbrev pub verdict_text : Verdict → List ℕ
verdict_text Sure = codes "sure"
verdict_text Open = codes "open"
verdict_text Broken = codes "broken"
