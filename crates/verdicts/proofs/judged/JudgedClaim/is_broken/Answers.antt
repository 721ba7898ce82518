use Rattle.std.proofs.Common.{ℕ, eqb, ap, ◌∙◌}
use Rattle.masks.proofs.Sets.{none_pass}
use Rattle.masks.specs.Sets.{channels}
use Rattle.verdicts.proofs.judged.JudgedClaim.is_broken.Goals as goal

pub returns : goal.returns
returns c = ap (λ (x : ℕ). eqb x 0) c.possible_channels.ensures ∙ none_pass channels _
