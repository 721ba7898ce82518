use Rattle.std.proofs.Common.{pos, rules}
use Rattle.judging.specs.Judged.{certain}
use Rattle.judging.specs.JudgedNodes.{node_range}
use Rattle.judging.proofs.values.Judge.certain_among.Goals as goal

pub returns : goal.returns
returns c =
    let e = c.passing.ensures (λ k. certain c.args.self.domains.now (node_range c.in_ok-range.range) (pos k)) (λ k r h told. search rules) in
    search rules
