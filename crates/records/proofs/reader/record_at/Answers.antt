use Rattle.records.proofs.Numbered.{nth_handed}
use Rattle.records.proofs.reader.record_at.Goals as goal

pub returns : goal.returns
returns c =
    rw (c.new.ensures.rest, c.new.ensures.place) at (nth_handed c.args.number c.new.result c.nth.new.self c.nth.result c.nth.ensures.ran)
