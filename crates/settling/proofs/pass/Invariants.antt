use Rattle.std.proofs.Common.{vec_len}
use Rattle.settling.specs.Store.{Narrows}
use Rattle.settling.proofs.pass.Given as goal

abbrev pub invariant-loop-rule : goal.invariant-loop-rule
invariant-loop-rule l = Narrows (vec_len l.judge.sheet.now.stations) l.judge.domains.now l.domains
