use Rattle.std.proofs.Common.{◌≡◌, sym, ap, ◌∙◌, to_z-of_z}
use Rattle.masks.specs.Sets.{is_channel}
use Rattle.masks.proofs.Words.{none_only}
use Rattle.masks.proofs.only.Goals as goal

pub returns-else-is_channel : goal.returns-else-is_channel
returns-else-is_channel c =
    let told : c.is_channel.result ≡ is_channel c.args.v = c.is_channel.ensures ∙ ap is_channel (to_z-of_z c.ranges.v) in
    let no = c.if-is_channel.false in
    no ∙ sym (none_only c.args.word c.args.v c.ranges.word.fits (sym told ∙ no))
