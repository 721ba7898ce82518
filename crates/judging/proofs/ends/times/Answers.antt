use Rattle.std.proofs.Common.{◌*ℤ◌, to_z-of_z, w64, SFits}
use Rattle.judging.proofs.Bounds.{times_fits}
use Rattle.judging.proofs.ends.times.Goals as goal

pub overflow_mul-result : goal.overflow_mul-result
overflow_mul-result c =
    let k = c.ranges.k in
    let z = c.ranges.end in
    simp to_z-of_z (times_fits c.args.k c.args.end c.requires.factor c.requires.end)

pub returns : goal.returns
returns c =
    let k = c.ranges.k in
    let z = c.ranges.end in
    let p : SFits w64 (c.args.k *ℤ c.args.end) = times_fits c.args.k c.args.end c.requires.factor c.requires.end in
    simp to_z-of_z
