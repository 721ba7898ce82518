use Rattle.std.proofs.Common.{vec_len, rules}
use Rattle.settling.proofs.Store.{narrows_self, narrows_through}
use Rattle.settling.proofs.pass.Goals as goal
use Rattle.settling.specs.Store.{Narrows}

pub loop-rule-init : goal.loop-rule-init
loop-rule-init c = narrows_self _ _

pub loop-rule-preserved : goal.loop-rule-preserved
loop-rule-preserved c =
    let n : Narrows (vec_len c.args.judge.sheet.now.stations) c.loop-rule.domains c.in_ok-domains.domains = search rules in
    narrows_through _ _ _ _ c.loop-rule.invariant n
