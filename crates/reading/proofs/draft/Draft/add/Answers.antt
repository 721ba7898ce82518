use Rattle.std.proofs.Common.{rules}
use Rattle.reading.proofs.Validity.{station_valid, node_valid, rule_valid}
use Rattle.reading.proofs.draft.Draft.add.Goals as goal

pub invariant_of-self-clause-valid : goal.invariant_of-self-clause-valid
invariant_of-self-clause-valid c =
    rw c.push_reserved.ensures.items (station_valid _ c.in-Station.part.now _ c.args.self.now.valid (search rules))

pub invariant_of-self-in-Node-clause-valid : goal.invariant_of-self-in-Node-clause-valid
invariant_of-self-in-Node-clause-valid c =
    rw c.push_reserved-in-Node.ensures.items (node_valid _ c.in-Node.part.now _ c.args.self.now.valid (search rules))

pub invariant_of-self-in-Rule-clause-valid : goal.invariant_of-self-in-Rule-clause-valid
invariant_of-self-in-Rule-clause-valid c =
    rw c.push_reserved-in-Rule.ensures.items (rule_valid _ c.in-Rule.part.now _ c.args.self.now.valid (search rules))
