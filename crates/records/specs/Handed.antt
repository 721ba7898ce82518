-- Records handed out one at a time, with their places.
use Rattle.std.specs.Prelude.{ℕ, zero, suc, ◌+◌, List, length, drop, Some, None, Ok, Err, Option, Result}
use Rattle.std.specs.Result.{result_ok}
use Rattle.faults.specs.declared.Place.{Place}
use Rattle.faults.specs.declared.BytesFault.{BytesFault}
use Rattle.faults.specs.declared.BytesFault.TheVariants.{Cut, UnknownMark}
use Rattle.records.specs.Records.{Part, Sight, end, cut, unknown, whole, size, front, part}
use Rattle.records.specs.declared.front.Placed.{Placed}

-- the first record's place
abbrev pub start : Place
start = record { «record» = 0; byte = 0 }

-- a record and its place
pub record Piece : Type 0 where
  pub part : Part
  pub place : Place

-- what is handed out at a place by what stands there: a record, or the fault
abbrev pub offered : Place → Sight → Result Piece BytesFault
offered at end = Err (Cut at)
offered at cut = Err (Cut at)
offered at unknown = Err (UnknownMark at)
offered at (whole p rest) = Ok (record { part = p; place = at })

-- what is left then
abbrev pub rest_of : List ℕ → Sight → List ℕ
rest_of bytes end = bytes
rest_of bytes cut = bytes
rest_of bytes unknown = bytes
rest_of bytes (whole p rest) = rest

-- the place behind
abbrev pub next_place : Place → Sight → Place
next_place at end = at
next_place at cut = at
next_place at unknown = at
next_place at (whole p rest) = record { «record» = at.«record» + 1; byte = at.byte + size p.sort }

-- what the code hands out, as a record and its place
abbrev pub piece : Placed → Piece
piece p = record { part = part p.«record»; place = p.place }

-- the same of an answer with a record or a fault
abbrev pub handed : Result Placed BytesFault → Result Piece BytesFault
handed (Ok p) = Ok (piece p)
handed (Err e) = Err e

-- and of one with a record or nothing
abbrev pub found : Option Placed → Option Piece
found (Some p) = Some (piece p)
found None = None

-- where record i begins, or the end of the bytes where their end, a cut or an unknown mark comes first
abbrev pub first_byte : ℕ → List ℕ → ℕ
first_byte zero bytes = 0
first_byte (suc i) bytes =
    elim (front bytes) [
      | end ↦ length bytes
      | cut ↦ length bytes
      | unknown ↦ length bytes
      | whole p rest ↦ size p.sort + first_byte i rest
    ]

-- the place of record i, counted from a place
abbrev pub place_of : ℕ → Place → List ℕ → Place
place_of i at bytes = record { «record» = at.«record» + i; byte = at.byte + first_byte i bytes }

-- record i of some bytes that begin at a place, if there is one
unfoldable pub nth_from : ℕ → Place → List ℕ → Option Piece
nth_from i at bytes = result_ok (offered (place_of i at bytes) (front (drop (first_byte i bytes) bytes)))

-- record i of some bytes
abbrev pub nth_record : ℕ → List ℕ → Option Piece
nth_record i bytes = nth_from i start bytes
