use Rattle.std.proofs.Common.{ℕ, sym, subst, arith, rules}
use Rattle.masks.specs.Sets.{Subset}
use Rattle.masks.specs.Tables.{at}
use Rattle.settling.proofs.Store.{narrows_one}
use Rattle.settling.proofs.narrow.Goals as goal
use Rattle.verdicts.specs.Rules.{Within}

pub returns : goal.returns
returns c =
    let r = c.unwrap-station.result in
    let w : Within c.args.judge.sheet.now.stations.len c.args.judge.domains.now r = search rules in
    narrows_one _ _ _ _ (subst (λ (s : ℕ). Subset r.channels (at c.args.judge.domains.now s)) (sym c.from.ensures) w.subset) (record { some = omega arith; below = search rules })
