use Rattle.std.proofs.Common.{◌≡◌, ◌++◌, length, take, drop}
use Rattle.std.specs.List.{flat_map}
use Rattle.writing.proofs.entry.put_all.Given as goal

-- the records so far stand at the front
abbrev pub invariant-loop-item : goal.invariant-loop-item
invariant-loop-item g l = record {
  put : l.out ≡ flat_map g.T.Entry.bytes (take l.item-index l.items) ++ drop l.end l.initial.out;
  ended : l.end ≡ length (flat_map g.T.Entry.bytes (take l.item-index l.items));
}
