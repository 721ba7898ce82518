use Rattle.std.proofs.Common.{◌≡◌, ◌-ℤ◌, ◌∙◌, rules}
use Rattle.judging.specs.Judged.{possible, certain}
use Rattle.judging.specs.JudgedNodes.{nodes_of, node_range}
use Rattle.judging.specs.Nodes.{range_of, term_of}
use Rattle.judging.proofs.Shifts.{shifted_possible, shifted_certain}
use Rattle.judging.proofs.node.JudgedNode.+possible_and_certain.Goals as goal

pub certain-returns-in-Some : goal.certain-returns-in-Some
certain-returns-in-Some t c =
    let D = c.args.self.judge.now.domains.now in
    let a = range_of (nodes_of c.args.self.judge.now) c.in-Shift.a in
    let b = term_of (nodes_of c.args.self.judge.now) c.in-Shift.b in
    let e : c.certain-in-Some.result ≡ certain D a (c.args.v -ℤ c.in-Some.by) = search rules in
    e ∙ shifted_certain D (node_range c.args.self) a b c.in-Some.by c.args.v c.in-Shift.ensures.range (search rules) (search rules)

pub possible-returns-in-Some : goal.possible-returns-in-Some
possible-returns-in-Some t c =
    let D = c.args.self.judge.now.domains.now in
    let a = range_of (nodes_of c.args.self.judge.now) c.in-Shift.a in
    let b = term_of (nodes_of c.args.self.judge.now) c.in-Shift.b in
    let e : c.possible-in-Some.result ≡ possible D a (c.args.v -ℤ c.in-Some.by) = search rules in
    e ∙ shifted_possible D (node_range c.args.self) a b c.in-Some.by c.args.v c.in-Shift.ensures.range (search rules) (search rules)
