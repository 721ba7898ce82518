-- What some bytes hold as records.
use Rattle.std.specs.Prelude.{ℕ, cond, ◌&&◌, List, length, take, drop, Some, None, Ok, Err, Option, Result, ◌==◌, nat_lt, slice_index}
use Rattle.std.specs.Borrow.{Bor}
use Rattle.records.specs.declared.front.Record.{Record}
use Rattle.records.specs.declared.front.Record.TheVariants.{Station, Node, Rule}
use Rattle.records.specs.declared.front.NoRecord.{NoRecord}
use Rattle.records.specs.declared.front.NoRecord.TheVariants.{End, Cut, UnknownMark}

-- the sorts of record
pub data Sort : Type 0 where
  station : Sort
  node : Sort
  rule : Sort

-- how many bytes a record has, its mark of two included
abbrev pub size : Sort → ℕ
size station = 10
size node = 7
size rule = 7

-- the sort whose mark two bytes are: ST, ND or RU
abbrev pub marked : ℕ → ℕ → Option Sort
marked x y =
    cond (x == 83 && y == 84) (Some station) (cond (x == 78 && y == 68) (Some node) (cond (x == 82 && y == 85) (Some rule) None))

-- a record: its sort and its bytes, mark included
pub record Part : Type 0 where
  pub sort : Sort
  pub bytes : List ℕ

-- what stands at the front of some bytes: their end, a record cut off, an unknown mark, or a whole record and the rest
pub data Sight : Type 0 where
  end : Sight
  cut : Sight
  unknown : Sight
  whole : Part → List ℕ → Sight

-- of a known sort: all of its bytes and what is behind them, where they are there
abbrev pub of_size : Sort → List ℕ → Sight
of_size s bytes = cond (nat_lt (length bytes) (size s)) cut (whole (record { sort = s; bytes = take (size s) bytes }) (drop (size s) bytes))

-- of any mark
abbrev pub of_mark : Option Sort → List ℕ → Sight
of_mark None bytes = unknown
of_mark (Some s) bytes = of_size s bytes

-- what stands at the front: fewer than two bytes are a mark cut off
unfoldable pub front : List ℕ → Sight
front bytes =
    cond (length bytes == 0) end (cond (nat_lt (length bytes) 2) cut (of_mark (marked (slice_index bytes 0) (slice_index bytes 1)) bytes))

-- what a record of the code holds
abbrev pub part : Record → Part
part (Station p) = record { sort = station; bytes = p.now }
part (Node p) = record { sort = node; bytes = p.now }
part (Rule p) = record { sort = rule; bytes = p.now }

-- what an answer of the code says
abbrev pub seen : Result (Record × Bor (List ℕ)) NoRecord → Sight
seen (Err End) = end
seen (Err Cut) = cut
seen (Err UnknownMark) = unknown
seen (Ok p) = whole (part p.0) p.1.now
