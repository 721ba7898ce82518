use Rattle.std.proofs.Common.{rules}
use Rattle.records.proofs.Fronts.{nearer}
use Rattle.records.proofs.reader.ReaderIterator.next.Goals as goal

pub returns-clause-goes : goal.returns-clause-goes
returns-clause-goes c = nearer _ _ _ (search rules)
