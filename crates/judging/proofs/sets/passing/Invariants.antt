use Rattle.std.proofs.Common.{◌≡◌, ℕ, Bool, ◌&&◌}
use Rattle.masks.specs.Sets.{has, those}
use Rattle.judging.specs.Passing.{Computes}
use Rattle.judging.proofs.sets.passing.Given as goal

abbrev pub invariant-loop-c : goal.invariant-loop-c
invariant-loop-c g l = (p : ℕ → Bool) → Computes (goal.F-post g l.test) p → l.set ≡ those l.c (λ c. has l.word c && p c)
