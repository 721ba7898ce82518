use Rattle.std.proofs.Common.{rules}
use Rattle.judging.proofs.Limits.{within_bound}
use Rattle.judging.proofs.node.JudgedNode.+ends.Goals as goal

pub returns-in-Station-clause-within : goal.returns-in-Station-clause-within
returns-in-Station-clause-within t c = within_bound c.args.self _ (search rules) (search rules)

pub returns-in-Multiple-clause-within : goal.returns-in-Multiple-clause-within
returns-in-Multiple-clause-within t c = within_bound c.args.self _ (search rules) (search rules)

pub returns-in-Remainder-clause-within : goal.returns-in-Remainder-clause-within
returns-in-Remainder-clause-within t c = within_bound c.args.self _ (search rules) (search rules)
