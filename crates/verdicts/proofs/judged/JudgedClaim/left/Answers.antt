use Rattle.std.proofs.Common.{ℕ, pos, sym, subst}
use Rattle.judging.specs.Judged.{possible}
use Rattle.judging.specs.JudgedNodes.{nodes_of}
use Rattle.judging.specs.Nodes.{range_of}
use Rattle.masks.proofs.Sets.{those_subset}
use Rattle.masks.specs.Sets.{channels, Subset}
use Rattle.masks.specs.Tables.{at}
use Rattle.verdicts.proofs.judged.JudgedClaim.left.Goals as goal

pub returns-clause-within : goal.returns-clause-within
returns-clause-within c =
    let D = c.args.self.judge.domains.now in
    let k = c.args.self.claim in
    record {
      station = c.args.self.placed.station;
      subset = subst (λ (m : ℕ). Subset m (at D k.station)) (sym c.possible_channels.ensures)
          (those_subset channels (at D k.station) (λ v. possible D (range_of (nodes_of c.args.self.judge) k.range) (pos v)));
    }
