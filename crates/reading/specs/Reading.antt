-- What some bytes are read as: the sheet that they say, or the first fault.
use Rattle.std.specs.Prelude.{◌≡◌, ℕ, zero, suc, cond, List, [], ◌∷◌, ◌++◌, length, Ok, Err, Result, ◌==◌}
use Rattle.faults.specs.declared.Place.{Place}
use Rattle.faults.specs.declared.BytesFault.TheVariants.{Cut, UnknownMark}
use Rattle.faults.specs.declared.Flaw.{Flaw}
use Rattle.faults.specs.declared.SheetFault.{SheetFault}
use Rattle.faults.specs.declared.SheetFault.TheVariants.{Bytes, Record, NoStation, Memory}
use Rattle.records.specs.Records.{Sort, station, node, rule, end, cut, unknown, whole, front}
use Rattle.records.specs.Handed.{start, next_place}
use Rattle.sheet.specs.declared.form.Node.{Node}
use Rattle.sheet.specs.declared.form.Rule.{Rule}
use Rattle.sheet.specs.declared.valid.Sheet.{Sheet}
use Rattle.sheet.specs.Content.{Content, content}
use Rattle.reading.specs.Decoding.{station_of, node_of, rule_of}

-- before the first record
abbrev pub nothing : Content
nothing = record { stations = []; nodes = []; rules = [] }

-- one station more
abbrev pub with_station : Content → ℕ → Content
with_station c x = record { stations = c.stations ++ x ∷ []; nodes = c.nodes; rules = c.rules }

-- one node more
abbrev pub with_node : Content → Node → Content
with_node c x = record { stations = c.stations; nodes = c.nodes ++ x ∷ []; rules = c.rules }

-- one rule more
abbrev pub with_rule : Content → Rule → Content
with_rule c x = record { stations = c.stations; nodes = c.nodes; rules = c.rules ++ x ∷ [] }

-- what a record says is put in, or what is wrong with it stands at its place
abbrev pub put : {X : Type 0} → (X → Content) → Place → Result X Flaw → Result Content SheetFault
put more at (Ok x) = Ok (more x)
put more at (Err f) = Err (Record f at)

-- one record more
abbrev pub added : Content → Sort → List ℕ → Place → Result Content SheetFault
added c station part at = put (with_station c) at (station_of c part)
added c node part at = put (with_node c) at (node_of c part)
added c rule part at = put (with_rule c) at (rule_of c part)

-- at the end there has to be a station
abbrev pub finished : Content → Place → Result Content SheetFault
finished c at = cond (length c.stations == 0) (Err (NoStation at)) (Ok c)

-- the rest of the bytes, read onto what was read before; the first number bounds the records, and no bytes hold more records than bytes
unfoldable pub onto : ℕ → Content → Place → List ℕ → Result Content SheetFault
onto zero c at bytes = finished c at
onto (suc n) c at bytes =
    elim (front bytes) [
      | end ↦ finished c at
      | cut ↦ Err (Bytes (Cut at))
      | unknown ↦ Err (Bytes (UnknownMark at))
      | whole p rest ↦
          elim (added c p.sort p.bytes at) [
            | Ok d ↦ onto n d (next_place at (whole p rest)) rest
            | Err e ↦ Err e
          ]
    ]

-- what some bytes are read as
unfoldable pub reading : List ℕ → Result Content SheetFault
reading bytes = onto (length bytes) nothing start bytes

-- an answer of the reader is the definition's
abbrev pub Reads : Result Content SheetFault → Result Sheet SheetFault → Type 0
Reads x (Ok s) = x ≡ Ok (content s)
Reads x (Err e) = x ≡ Err e

-- the same, unless memory was wanting
abbrev pub ReadsOrWants : Result Content SheetFault → Result Sheet SheetFault → Type 0
ReadsOrWants x (Ok s) = Reads x (Ok s)
ReadsOrWants x (Err Memory) = Unit {0}
ReadsOrWants x (Err (Bytes f)) = Reads x (Err (Bytes f))
ReadsOrWants x (Err (Record f at)) = Reads x (Err (Record f at))
ReadsOrWants x (Err (NoStation at)) = Reads x (Err (NoStation at))
