use Rattle.std.proofs.Common.{sym, subst}
use Rattle.masks.specs.Sets.{channels, LowestIn}
use Rattle.masks.proofs.Sets.{trailing_is_lowest, lowest_member, lowest_below, member_below}
use Rattle.masks.proofs.lowest_in.Goals as goal

pub returns : goal.returns
returns c =
    let m = c.args.word in
    let e = trailing_is_lowest channels m in
    record {
      value = e;
      least = λ some. subst (LowestIn m) (sym e)
          (record { member = lowest_member channels m some c.ranges.word.fits; least = λ d h. lowest_below channels m d h (member_below channels m d c.ranges.word.fits h) });
    }
