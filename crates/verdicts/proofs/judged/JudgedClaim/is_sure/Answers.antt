use Rattle.std.proofs.Common.{◌^◌, ◌<◌, eqb, pos, ◌∙◌, subst, ap₂}
use Rattle.judging.specs.Judged.{certain}
use Rattle.judging.specs.JudgedNodes.{nodes_of}
use Rattle.judging.specs.Nodes.{range_of}
use Rattle.masks.proofs.Sets.{all_pass}
use Rattle.masks.specs.Sets.{channels}
use Rattle.masks.specs.Tables.{at}
use Rattle.verdicts.proofs.judged.JudgedClaim.is_sure.Goals as goal

pub returns : goal.returns
returns c =
    let D = c.args.self.judge.domains.now in
    let k = c.args.self.claim in
    ap₂ eqb c.certain_channels.ensures c.channels.ensures
    ∙ all_pass channels (at D k.station) (λ v. certain D (range_of (nodes_of c.args.self.judge) k.range) (pos v)) (subst (λ m. m < 2 ^ channels) c.channels.ensures c.channels.type_inv)
