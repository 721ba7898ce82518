-- The definition never answers want of memory.
use Rattle.std.proofs.Common.{◌≡◌, ℕ, zero, suc, Bool, true, false, cond, eqb, List, length, Ok, Err, Result, arith}
use Rattle.faults.specs.declared.Place.{Place}
use Rattle.faults.specs.declared.Flaw.{Flaw}
use Rattle.faults.specs.declared.SheetFault.TheVariants.{Bytes, Record, NoStation, Memory}
use Rattle.faults.specs.declared.SheetFault.{SheetFault}
use Rattle.sheet.specs.declared.valid.Sheet.{Sheet}
use Rattle.records.specs.Records.{Sort, station, node, rule, whole}
use Rattle.records.specs.Handed.{start, next_place}
use Rattle.sheet.specs.Content.{Content}
use Rattle.reading.specs.Decoding.{station_of, node_of, rule_of}
use Rattle.reading.specs.Reading.{nothing, with_station, with_node, with_rule, put, added, finished, onto, reading, Reads, ReadsOrWants}
use Rattle.reading.proofs.Onto.{ended, broken, flawed, further, step}

put_definite : {X : Type 0} (more : X → Content) (at : Place) (r : Result X Flaw) → put more at r ≡ Err Memory → ⊥
put_definite more at (Ok x) e = grind arith
put_definite more at (Err f) e = grind arith

added_definite : (c : Content) (s : Sort) (part : List ℕ) (at : Place) → added c s part at ≡ Err Memory → ⊥
added_definite c station part at e = put_definite (with_station c) at (station_of c part) e
added_definite c node part at e = put_definite (with_node c) at (node_of c part) e
added_definite c rule part at e = put_definite (with_rule c) at (rule_of c part) e

finished_definite : (c : Content) (at : Place) → finished c at ≡ Err Memory → ⊥
finished_definite c at e = by_test (eqb (length c.stations) 0) e
  where
    by_test : (b : Bool) → cond b (Err (NoStation at)) (Ok c) ≡ Err Memory → ⊥
    by_test true h = grind arith
    by_test false h = grind arith

onto_definite : (n : ℕ) (c : Content) (at : Place) (bytes : List ℕ) → onto n c at bytes ≡ Err Memory → ⊥
unfolding onto
onto_definite zero c at bytes e = finished_definite c at e
onto_definite (suc n) c at bytes e =
    elim (step n c at bytes (Err Memory) e) [
      | ended z h ↦ finished_definite c at h
      | broken f h ↦ grind arith
      | flawed p rest g f a h ↦ let m : g ≡ Memory = cc in added_definite c p.sort p.bytes at (rw m at a)
      | further p rest d f a h ↦ onto_definite n d (next_place at (whole p rest)) rest h
    ]

pub reading_definite : (bytes : List ℕ) → reading bytes ≡ Err Memory → ⊥
unfolding reading
reading_definite bytes e = onto_definite (length bytes) nothing start bytes e

-- the definition's answer is one of the two
pub reads_too : (x : Result Content SheetFault) (r : Result Sheet SheetFault) → Reads x r → ReadsOrWants x r
reads_too x (Ok s) h = h
reads_too x (Err Memory) h = tt
reads_too x (Err (Bytes f)) h = h
reads_too x (Err (Record f at)) h = h
reads_too x (Err (NoStation at)) h = h
