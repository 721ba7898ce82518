use Rattle.judging.proofs.node.JudgedNode.+possible_and_certain.Given as goal

abbrev pub decreases-certain : goal.decreases-certain
decreases-certain l = l.self.number

abbrev pub decreases-possible : goal.decreases-possible
decreases-possible l = l.self.number
