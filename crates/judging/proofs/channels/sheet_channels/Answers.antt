use Rattle.std.proofs.Common.{ℕ, List, get_or, ap, ◌∙◌}
use Rattle.judging.proofs.Zeros.{before_zeros}
use Rattle.judging.proofs.channels.sheet_channels.Goals as goal

pub returns : goal.returns
returns c s =
    before_zeros c.copy_from_slice.new.self c.len.result 32 s
    ∙ ap (λ (xs : List ℕ). get_or xs s 0) (c.copy_from_slice.ensures.after ∙ c.as_slice.ensures.value)
