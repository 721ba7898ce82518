-- What it says that a whole record stands at the front.
use Rattle.std.proofs.Common.{◌≡◌, ℕ, ◌+◌, ◌<◌, ◌≤◌, Bool, true, false, cond, eqb, ltb, List, length, get_or, take, drop, Some, None, Ok, Err, Option, Result, sym, refl, ap, arith}
use Rattle.std.proofs.lemmas.Bool.Decides.{nat_tests}
use Rattle.std.proofs.lemmas.List.{length-drop}
use Rattle.faults.specs.declared.Place.{Place}
use Rattle.std.specs.Bool.{⊤}
use Rattle.std.specs.Iterator.{MakesProgress, at_most}
use Rattle.std.specs.Result.{result_ok}
use Rattle.faults.specs.declared.BytesFault.{BytesFault}
use Rattle.records.specs.declared.front.Placed.{Placed}
use Rattle.records.specs.declared.reader.Reader.{Reader}
use Rattle.records.specs.Hands.{Hands}
use Rattle.records.specs.Handed.{Piece, piece, offered, rest_of}
use Rattle.records.specs.Records.{Sort, station, node, rule, Part, Sight, end, cut, unknown, whole, size, front, of_size, of_mark, marked}

-- at a whole record: it is the first bytes, the rest is behind it, and it has its sort's size
pub record Taken (bytes : List ℕ) (p : Part) (rest : List ℕ) : Type 0 where
  pub fits : size p.sort ≤ length bytes
  pub first : p.bytes ≡ take (size p.sort) bytes
  pub behind : rest ≡ drop (size p.sort) bytes

of_size_taken : (s : Sort) (bytes : List ℕ) (p : Part) (rest : List ℕ) → of_size s bytes ≡ whole p rest → Taken bytes p rest
of_size_taken s bytes p rest e = grind (arith, nat_tests)

of_mark_taken : (s : Option Sort) (bytes : List ℕ) (p : Part) (rest : List ℕ) → of_mark s bytes ≡ whole p rest → Taken bytes p rest
of_mark_taken None bytes p rest e = grind arith
of_mark_taken (Some s) bytes p rest e = of_size_taken s bytes p rest e

of_mark_sort : (o : Option Sort) (bytes : List ℕ) (p : Part) (rest : List ℕ) → of_mark o bytes ≡ whole p rest → o ≡ Some p.sort
of_mark_sort None bytes p rest e = grind arith
of_mark_sort (Some s) bytes p rest e = grind (arith, nat_tests)

-- it has a mark
at_mark : (bytes : List ℕ) (p : Part) (rest : List ℕ) → front bytes ≡ whole p rest → of_mark (marked (get_or bytes 0 0) (get_or bytes 1 0)) bytes ≡ whole p rest
unfolding front
at_mark bytes p rest e = by_tests (eqb (length bytes) 0) (ltb (length bytes) 2) e
  where
    by_tests : {S : Sight} (a b : Bool) → cond a end (cond b cut S) ≡ whole p rest → S ≡ whole p rest
    by_tests true b h = cc
    by_tests false true h = cc
    by_tests false false h = h

pub front_taken : (bytes : List ℕ) (p : Part) (rest : List ℕ) → front bytes ≡ whole p rest → Taken bytes p rest
front_taken bytes p rest e = of_mark_taken _ bytes p rest (at_mark bytes p rest e)

-- the mark says the sort
pub front-marked : (bytes : List ℕ) (p : Part) (rest : List ℕ) → front bytes ≡ whole p rest → marked (get_or bytes 0 0) (get_or bytes 1 0) ≡ Some p.sort
front-marked bytes p rest e = of_mark_sort _ bytes p rest (at_mark bytes p rest e)

-- a record has seven bytes or more
pub size_least : (s : Sort) → 7 ≤ size s
size_least station = omega arith
size_least node = omega arith
size_least rule = omega arith

-- its bytes and those behind it are all
pub length_front : (bytes : List ℕ) (p : Part) (rest : List ℕ) → front bytes ≡ whole p rest → size p.sort + length rest ≡ length bytes
length_front bytes p rest e =
    let t = front_taken bytes p rest e in omega (arith, length-drop (size p.sort) bytes, ap length t.behind)

-- what is handed out leaves less
less_left : (at : Place) (bytes : List ℕ) (s : Sight) (q : Piece) → front bytes ≡ s → Ok q ≡ offered at s → length (rest_of bytes s) < length bytes
less_left at bytes end q f e = cc
less_left at bytes cut q f e = cc
less_left at bytes unknown q f e = cc
less_left at bytes (whole p rest) q f e = omega (arith, length_front bytes p rest f, size_least p.sort)

pub rest_less : (at : Place) (bytes : List ℕ) (q : Piece) → Ok q ≡ offered at (front bytes) → length (rest_of bytes (front bytes)) < length bytes
rest_less at bytes q e = less_left at bytes (front bytes) q refl e

pub length_next : (bytes : List ℕ) (p : Part) (rest : List ℕ) → whole p rest ≡ front bytes → (size p.sort + length rest ≡ length bytes) × (7 ≤ size p.sort)
length_next bytes p rest e = (length_front bytes p rest (sym e), size_least p.sort)

-- a reader that hands out a record is nearer to the end
pub nearer : (s t : Reader) (r : Option Placed) → Hands s r t → MakesProgress (λ _. ⊤) (λ (s : Reader). at_most (length s.rest.now)) s r t
nearer s t None h = record { on = λ _. tt; keeps = tt; rests = λ _. tt }
nearer s t (Some x) h =
    record { on = λ _. (tt, tt, rw h.rest (rest_less s.place s.rest.now (piece x) (ok_same (offered s.place (front s.rest.now)) h.value))); keeps = tt; rests = λ _. tt }
  where
    ok_same : (o : Result Piece BytesFault) → Some (piece x) ≡ result_ok o → Ok (piece x) ≡ o
    ok_same (Ok q) e = cc
    ok_same (Err e) h = cc
