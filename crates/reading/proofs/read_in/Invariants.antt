use Rattle.std.proofs.Common.{length}
use Rattle.reading.specs.Drafts.{drafted}
use Rattle.reading.specs.Reading.{reading}
use Rattle.reading.proofs.Onto.{Still}
use Rattle.reading.proofs.read_in.Given as goal

-- reading the rest onto the draft is reading the whole
abbrev pub invariant-loop-reader : goal.invariant-loop-reader
invariant-loop-reader l = Still (drafted l.draft) l.reader.place l.reader.rest.now (reading l.bytes)

abbrev pub decreases-loop-reader : goal.decreases-loop-reader
decreases-loop-reader l = length l.reader.rest.now
