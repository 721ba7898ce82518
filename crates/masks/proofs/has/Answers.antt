use Rattle.std.proofs.Common.{◌≡◌, sym, ap, ◌∙◌, to_z-of_z}
use Rattle.masks.specs.Sets.{is_channel}
use Rattle.masks.proofs.Words.{digit_holds, none_holds}
use Rattle.masks.proofs.has.Goals as goal

pub returns-then-is_channel : goal.returns-then-is_channel
returns-then-is_channel c =
    let z = c.ranges.v in
    let told : c.is_channel.result ≡ is_channel c.args.v = c.is_channel.ensures ∙ ap is_channel (to_z-of_z z) in
    simp to_z-of_z (digit_holds c.args.word c.args.v (sym told ∙ c.if-is_channel.true))

pub returns-else-is_channel : goal.returns-else-is_channel
returns-else-is_channel c =
    let told : c.is_channel.result ≡ is_channel c.args.v = c.is_channel.ensures ∙ ap is_channel (to_z-of_z c.ranges.v) in
    let no = c.if-is_channel.false in
    no ∙ sym (none_holds c.args.word c.args.v c.ranges.word.fits (sym told ∙ no))
