-- Bytes put into a caller's buffer.
use Rattle.std.specs.Prelude.{◌≡◌, ℕ, ◌<◌, List, ◌++◌, length, drop, Ok, Err, Result}
use Rattle.faults.specs.declared.PlanFault.{PlanFault}
use Rattle.faults.specs.declared.PlanFault.TheVariants.{TooShort}

-- written: all bytes at the front, and how many; or refused, where they do not fit, and nothing is changed
abbrev pub Writes : List ℕ → List ℕ → List ℕ → Result ℕ PlanFault → Type 0
Writes bytes before after (Ok n) = (n ≡ length bytes) × (after ≡ bytes ++ drop n before)
Writes bytes before after (Err e) = (e ≡ TooShort) × (length before < length bytes) × (after ≡ before)
