use Rattle.std.proofs.Common.{rules}
use Rattle.sheet.specs.Content.{content}
use Rattle.writing.proofs.Sizes.{written-size}
use Rattle.writing.proofs.size.Goals as goal

pub returns : goal.returns
returns c = let n = written-size (content c.args.sheet.now) in search rules
