use Rattle.std.proofs.Common.{pos, rules}
use Rattle.judging.specs.Judged.{possible}
use Rattle.judging.specs.JudgedNodes.{node_range}
use Rattle.judging.proofs.values.Judge.possible_among.Goals as goal

pub returns : goal.returns
returns c =
    let e = c.passing.ensures (λ k. possible c.args.self.domains.now (node_range c.in_ok-range.range) (pos k)) (λ k r h told. search rules) in
    search rules
