use Rattle.std.proofs.Common.{vec_len}
use Rattle.masks.specs.Tables.{Inside, Store}
use Rattle.settling.specs.Store.{total}
use Rattle.settling.proofs.settle.Given as goal

abbrev pub invariant-loop-after : goal.invariant-loop-after
invariant-loop-after l = Inside l.before l.judge.domains.now × Store (vec_len l.judge.sheet.now.stations) l.before

abbrev pub decreases-loop-after : goal.decreases-loop-after
decreases-loop-after l = total l.before
