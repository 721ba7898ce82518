use Rattle.std.proofs.Common.{◌≡◌, sym, ◌∙◌, subst}
use Rattle.masks.specs.Sets.{channels, highest, HighestIn}
use Rattle.masks.proofs.Sets.{leading_is_highest, highest_member, highest_above, member_below}
use Rattle.masks.proofs.highest_in.Goals as goal

pub returns : goal.returns
returns c =
    let m = c.args.word in
    let e : c.saturating_sub.result ≡ highest channels m = c.saturating_sub.ensures ∙ leading_is_highest channels m c.ranges.word.fits in
    record {
      value = e;
      greatest = λ some. subst (HighestIn m) (sym e)
          (record { member = highest_member channels m some c.ranges.word.fits; greatest = λ d h. highest_above channels m d h (member_below channels m d c.ranges.word.fits h) });
    }
