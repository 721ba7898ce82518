use Rattle.judging.proofs.node.JudgedNode.+ends.Given as goal

abbrev pub decreases-ends : goal.decreases-ends
decreases-ends l = l.self.number
