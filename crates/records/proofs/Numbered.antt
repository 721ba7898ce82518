-- Counting records one at a time.
use Rattle.std.proofs.Common.{◌≡◌, ℕ, zero, suc, ◌+◌, ◌≤◌, List, [], ◌∷◌, length, drop, Some, None, Option, MatchOption, sym, refl, ◌∙◌, add-zero, arith}
use Rattle.std.proofs.lemmas.List.{drop_all, drop-drop}
use Rattle.std.specs.Iterator.{Yields, SkipsThenYields}
use Rattle.std.specs.Result.{result_ok}
use Rattle.faults.specs.declared.Place.{Place}
use Rattle.records.specs.declared.front.Placed.{Placed}
use Rattle.records.specs.declared.reader.Reader.{Reader}
use Rattle.records.specs.Hands.{Hands}
use Rattle.records.specs.Records.{Part, Sight, end, cut, unknown, whole, size, front}
use Rattle.records.specs.Handed.{Piece, offered, first_byte, place_of, nth_from, next_place, rest_of, piece, found}
use Rattle.records.proofs.Fronts.{front_taken}

module _ (i : ℕ) (at : Place) (bytes : List ℕ) (p : Part) (rest : List ℕ) (e : front bytes ≡ whole p rest) where
  first_more : first_byte (suc i) bytes ≡ size p.sort + first_byte i rest
  first_more = rw (e, first_byte)

  place_more : place_of (suc i) at bytes ≡ place_of i (next_place at (whole p rest)) rest
  place_more =
      let n : at.«record» + suc i ≡ at.«record» + 1 + i = omega arith in
      let b : at.byte + (size p.sort + first_byte i rest) ≡ at.byte + size p.sort + first_byte i rest = omega arith in
      rw (first_more, n, b)

  drop_more : drop (first_byte (suc i) bytes) bytes ≡ drop (first_byte i rest) rest
  drop_more =
      rw (first_more, ← drop-drop (first_byte i rest) (size p.sort) bytes, ← (front_taken bytes p rest e).behind)

  -- behind a whole record the count is one less
  pub nth_more : nth_from (suc i) at bytes ≡ nth_from i (next_place at (whole p rest)) rest
  unfolding nth_from
  nth_more = rw (place_more, drop_more)

-- where no whole record stands, none comes
pub nth_none : (i : ℕ) (at : Place) (bytes : List ℕ) → first_byte (suc i) bytes ≡ length bytes → nth_from (suc i) at bytes ≡ None
unfolding nth_from front
nth_none i at bytes e = rw (e, drop_all (length bytes) bytes (omega arith))

-- record 0 is the one at the front
nth_zero : (at : Place) (bytes : List ℕ) → nth_from 0 at bytes ≡ result_ok (offered at (front bytes))
unfolding nth_from
nth_zero at bytes = let p : place_of 0 at bytes ≡ at = simp add-zero in rw p

-- passing what stands at the front: the count is one less behind a record, and nothing comes behind anything else
module _ (i : ℕ) (at : Place) (bytes : List ℕ) where
  nth_step : (s : Sight) (q : Piece) → front bytes ≡ s → Some q ≡ result_ok (offered at s) → nth_from (suc i) at bytes ≡ nth_from i (next_place at s) (rest_of bytes s)
  nth_step end q e h = cc
  nth_step cut q e h = cc
  nth_step unknown q e h = cc
  nth_step (whole p rest) q e h = nth_more i at bytes p rest e

  nth_stop : (s : Sight) → front bytes ≡ s → None ≡ result_ok (offered at s) → nth_from (suc i) at bytes ≡ None
  nth_stop end e h = nth_none i at bytes (rw (e, first_byte))
  nth_stop cut e h = nth_none i at bytes (rw (e, first_byte))
  nth_stop unknown e h = nth_none i at bytes (rw (e, first_byte))
  nth_stop (whole p rest) e h = cc

-- what a reader hands out after some records is the record of that number
handed_last : (n : ℕ) (t u : Reader) (r : Option Placed) → Hands t r u → MatchOption r (0 ≤ n) (λ _. 0 ≡ n) → found r ≡ nth_from n t.place t.rest.now
handed_last zero t u r h m = h.value ∙ sym (nth_zero t.place t.rest.now)
handed_last (suc n) t u (Some x) h m = absurd (omega (arith, m))
handed_last (suc n) t u None h m = sym (nth_stop n t.place t.rest.now (front t.rest.now) refl h.value)

yields_last :
    (xs : List Placed) (n : ℕ) (s t u : Reader) (r : Option Placed) → Yields Hands s xs t → Hands t r u → MatchOption r (length xs ≤ n) (λ _. length xs ≡ n)
    → found r ≡ nth_from n s.place s.rest.now
yields_last [] n s t u r y h m = rw y (handed_last n t u r h m)
yields_last (x ∷ xs) zero s t u None y h m = absurd (omega (arith, m))
yields_last (x ∷ xs) zero s t u (Some z) y h m = absurd (omega (arith, m))
yields_last (x ∷ xs) (suc n) s t u r y h m =
    let step = nth_step n s.place s.rest.now (front s.rest.now) (piece x) refl y.1.value in
    yields_last xs n y.0 t u r y.2 h (fewer r m) ∙ (rw (y.1.place, y.1.rest) (sym step))
  where
    fewer : (o : Option Placed) → MatchOption o (length (x ∷ xs) ≤ suc n) (λ _. length (x ∷ xs) ≡ suc n) → MatchOption o (length xs ≤ n) (λ _. length xs ≡ n)
    fewer None k = omega (arith, k)
    fewer (Some z) k = omega (arith, k)

pub nth_handed : (n : ℕ) (s u : Reader) (r : Option Placed) → SkipsThenYields Hands s n r u → found r ≡ nth_from n s.place s.rest.now
nth_handed n s u r h = yields_last h.0 n s h.1.0 u r h.1.1 h.1.2 h.2
