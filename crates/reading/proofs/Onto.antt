-- Reading one record after another.
use Rattle.std.proofs.Common.{◌≡◌, ℕ, zero, suc, ◌-◌, ◌<◌, ◌≤◌, List, length, Ok, Err, Result, sym, refl, ◌∙◌, arith}
use Rattle.std.proofs.lemmas.Bool.Decides.{nat_tests}
use Rattle.faults.specs.declared.Place.{Place}
use Rattle.faults.specs.declared.BytesFault.{BytesFault}
use Rattle.faults.specs.declared.BytesFault.TheVariants.{Cut, UnknownMark}
use Rattle.faults.specs.declared.SheetFault.{SheetFault}
use Rattle.faults.specs.declared.SheetFault.TheVariants.{Bytes}
use Rattle.records.specs.Records.{Part, Sight, end, cut, unknown, whole, front}
use Rattle.records.specs.Handed.{Piece, start, offered, next_place, rest_of}
use Rattle.records.proofs.Fronts.{length_front, size_least}
use Rattle.sheet.specs.Content.{Content}
use Rattle.reading.specs.Reading.{nothing, added, finished, onto, reading}

-- only at the end of the bytes is their end at the front
front_end : (bytes : List ℕ) → front bytes ≡ end → length bytes ≡ 0
unfolding front
front_end bytes e = grind (arith, nat_tests)

end_front : (bytes : List ℕ) → length bytes ≡ 0 → front bytes ≡ end
unfolding front
end_front bytes e = rw e

-- at the end
pub onto_end : (n : ℕ) (c : Content) (at : Place) (bytes : List ℕ) → length bytes ≡ 0 → onto n c at bytes ≡ finished c at
unfolding onto
onto_end zero c at bytes e = refl
onto_end (suc n) c at bytes e = rw (end_front bytes e, onto)

-- where no record stands, though bytes are left
refused_at : (c : Content) (at : Place) (bytes : List ℕ) → 0 < length bytes → (n : ℕ) (s : Sight) (e : BytesFault) → front bytes ≡ s → offered at s ≡ Err e → onto (suc n) c at bytes ≡ Err (Bytes e)
unfolding onto
refused_at c at bytes more n end e f h = absurd (omega (arith, front_end bytes f))
refused_at c at bytes more n cut e f h = rw (f, onto) (cc)
refused_at c at bytes more n unknown e f h = rw (f, onto) (cc)
refused_at c at bytes more n (whole p rest) e f h = grind arith

-- where a record stands
module _ (c : Content) (at : Place) (bytes : List ℕ) (n : ℕ) (p : Part) (rest : List ℕ) (f : front bytes ≡ whole p rest) where
  granted_at : (d : Content) → added c p.sort p.bytes at ≡ Ok d → onto (suc n) c at bytes ≡ onto n d (next_place at (whole p rest)) rest
  unfolding onto
  granted_at d h = rw (f, onto) (rw h)

  flawed_at : (e : SheetFault) → added c p.sort p.bytes at ≡ Err e → onto (suc n) c at bytes ≡ Err e
  unfolding onto
  flawed_at e h = rw (f, onto) (rw h)

-- what one turn of reading comes to
pub data Step (n : ℕ) (c : Content) (at : Place) (bytes : List ℕ) (r : Result Content SheetFault) : Type 0 where
  ended : length bytes ≡ 0 → finished c at ≡ r → Step n c at bytes r
  broken : (f : BytesFault) → Err (Bytes f) ≡ r → Step n c at bytes r
  flawed : (p : Part) (rest : List ℕ) (e : SheetFault) → front bytes ≡ whole p rest → added c p.sort p.bytes at ≡ Err e → Err e ≡ r → Step n c at bytes r
  further : (p : Part) (rest : List ℕ) (d : Content) → front bytes ≡ whole p rest → added c p.sort p.bytes at ≡ Ok d → onto n d (next_place at (whole p rest)) rest ≡ r → Step n c at bytes r

record_step : (n : ℕ) (c : Content) (at : Place) (bytes : List ℕ) (r : Result Content SheetFault) (p : Part) (rest : List ℕ) (a : Result Content SheetFault)
    → front bytes ≡ whole p rest → added c p.sort p.bytes at ≡ a → onto (suc n) c at bytes ≡ r → Step n c at bytes r
record_step n c at bytes r p rest (Ok d) f h e = further p rest d f h (sym (granted_at c at bytes n p rest f d h) ∙ e)
record_step n c at bytes r p rest (Err g) f h e = flawed p rest g f h (sym (flawed_at c at bytes n p rest f g h) ∙ e)

step_at : (n : ℕ) (c : Content) (at : Place) (bytes : List ℕ) (r : Result Content SheetFault) (s : Sight) → front bytes ≡ s → onto (suc n) c at bytes ≡ r → Step n c at bytes r
unfolding onto
step_at n c at bytes r end f e = ended (front_end bytes f) (sym (rw (f, onto)) ∙ e)
step_at n c at bytes r cut f e = broken (Cut at) (sym (rw (f, onto)) ∙ e)
step_at n c at bytes r unknown f e = broken (UnknownMark at) (sym (rw (f, onto)) ∙ e)
step_at n c at bytes r (whole p rest) f e = record_step n c at bytes r p rest (added c p.sort p.bytes at) f refl e

pub step : (n : ℕ) (c : Content) (at : Place) (bytes : List ℕ) (r : Result Content SheetFault) → onto (suc n) c at bytes ≡ r → Step n c at bytes r
step n c at bytes r e = step_at n c at bytes r (front bytes) refl e

-- reading the bytes that are left onto what was read gives an answer
pub record Still (c : Content) (at : Place) (bytes : List ℕ) (x : Result Content SheetFault) : Type 0 where
  pub bound : ℕ
  pub enough : length bytes ≤ bound
  pub same : onto bound c at bytes ≡ x

pub still_starts : (bytes : List ℕ) → Still nothing start bytes (reading bytes)
unfolding reading
still_starts bytes = record { bound = length bytes; enough = omega arith; same = refl }

pub still_ends : (c : Content) (at : Place) (bytes : List ℕ) (x : Result Content SheetFault) → Still c at bytes x → length bytes ≡ 0 → x ≡ finished c at
still_ends c at bytes x s e = sym s.same ∙ onto_end s.bound c at bytes e

-- where bytes are left, one turn comes to the same
one_more : (c : Content) (at : Place) (bytes : List ℕ) (x : Result Content SheetFault) → 0 < length bytes → (s : Still c at bytes x) → onto (suc (s.bound - 1)) c at bytes ≡ x
one_more c at bytes x more s = let n : suc (s.bound - 1) ≡ s.bound = omega (arith, s.enough) in rw n s.same

pub still_refused :
    (c : Content) (at : Place) (bytes : List ℕ) (x : Result Content SheetFault) (e : BytesFault)
    → 0 < length bytes → Still c at bytes x → Err e ≡ offered at (front bytes) → x ≡ Err (Bytes e)
still_refused c at bytes x e more s h =
    sym (one_more c at bytes x more s) ∙ refused_at c at bytes more (s.bound - 1) (front bytes) e refl (sym h)

-- a record that is handed out is put in, or is refused
module _ (c : Content) (at : Place) (bytes : List ℕ) (x : Result Content SheetFault) (q : Piece) (s : Still c at bytes x) where
  more_left : (p : Part) (rest : List ℕ) → front bytes ≡ whole p rest → 0 < length bytes
  more_left p rest f = omega (arith, length_front bytes p rest f, size_least p.sort)

  refused_by : (v : Sight) (e : SheetFault) → front bytes ≡ v → Ok q ≡ offered at v → added c q.part.sort q.part.bytes q.place ≡ Err e → x ≡ Err e
  refused_by end e f h a = cc
  refused_by cut e f h a = cc
  refused_by unknown e f h a = cc
  refused_by (whole p rest) e f h a =
      let same : q ≡ record { part = p; place = at } = cc in
      sym (one_more c at bytes x (more_left p rest f) s) ∙ flawed_at c at bytes (s.bound - 1) p rest f e (rw same at a)

  added_by : (v : Sight) (d : Content) → front bytes ≡ v → Ok q ≡ offered at v → added c q.part.sort q.part.bytes q.place ≡ Ok d → Still d (next_place at v) (rest_of bytes v) x
  added_by end d f h a = cc
  added_by cut d f h a = cc
  added_by unknown d f h a = cc
  added_by (whole p rest) d f h a =
      let same : q ≡ record { part = p; place = at } = cc in
      record {
        bound = s.bound - 1;
        enough = omega (arith, s.enough, length_front bytes p rest f, size_least p.sort);
        same = sym (granted_at c at bytes (s.bound - 1) p rest f d (rw same at a)) ∙ one_more c at bytes x (more_left p rest f) s;
      }

  pub still_flawed : (e : SheetFault) → Ok q ≡ offered at (front bytes) → added c q.part.sort q.part.bytes q.place ≡ Err e → x ≡ Err e
  still_flawed e h a = refused_by (front bytes) e refl h a

  pub still_added : (d : Content) → Ok q ≡ offered at (front bytes) → added c q.part.sort q.part.bytes q.place ≡ Ok d → Still d (next_place at (front bytes)) (rest_of bytes (front bytes)) x
  still_added d h a = added_by (front bytes) d refl h a
