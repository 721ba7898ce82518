use Rattle.std.proofs.Common.{sym, refl, vec_len, rules}
use Rattle.std.proofs.lemmas.Slice.Eq.{slice_eq-Decides}
use Rattle.std.proofs.lemmas.Bool.{both_ways}
use Rattle.masks.proofs.Tables.{inside_self, inside_through}
use Rattle.settling.proofs.Store.{total_falls}
use Rattle.settling.proofs.settle.Goals as goal
use Rattle.settling.proofs.settle.Goals.{In_ok-after}
use Rattle.settling.specs.Store.{Narrows}
use Rattle.std.proofs.lemmas.Bool.Decides.{Decides-eqb}

-- a pass narrows the channels that it begins with
passed : (c : In_ok-after) → Narrows (vec_len c.args.judge.sheet.now.stations) c.loop-after.before c.in_ok-after.after
passed c = search rules

pub loop-after-init : goal.loop-after-init
loop-after-init c = (inside_self _, c.if-not-is_filled.ensures refl)

pub returns-then-eq : goal.returns-then-eq
returns-then-eq c =
    let n = passed (goal.at.returns-then-eq c).In_ok-after in
    record {
      inside = inside_through _ _ _ n.inside c.loop-after.invariant.0;
      filled = n.filled c.loop-after.invariant.1;
    }

pub loop-after-smaller : goal.loop-after-smaller
loop-after-smaller c =
    let n = passed (goal.at.loop-after-smaller c).In_ok-after in
    total_falls c.loop-after.before c.in_ok-after.after (sym n.long) n.inside
    (λ e. both_ways _ c.if-eq.false ((slice_eq-Decides Decides-eqb _ _ _ c.eq.ensures).1 e))

pub loop-after-preserved : goal.loop-after-preserved
loop-after-preserved c =
    let n = passed (goal.at.loop-after-preserved c).In_ok-after in
    (inside_through _ _ _ n.inside c.loop-after.invariant.0, n.filled c.loop-after.invariant.1)
