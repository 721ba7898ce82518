-- Bytes put one behind another.
use Rattle.std.proofs.Common.{◌≡◌, ℕ, ◌+◌, ◌-◌, ◌<◌, ◌≤◌, List, [], ◌∷◌, ◌++◌, length, get_or, take, drop, sym, refl, ap, ◌∙◌, subst, arith}
use Rattle.std.proofs.lemmas.List.{take_rest, take_at, drop_at, drop_all, length-drop, length-append, append_assoc, append-nil, drop-drop, take_more}
use Rattle.std.specs.List.{flat_map}
use Rattle.std.proofs.lemmas.List.Folds.{length-flat_map-take}
use Rattle.std.proofs.lemmas.Grind.{common_steps, flat_map-append}
use borrow.Rule.Slice.PartMut.{put_mid}

-- items joined, one more at a time
module _ {X : Type 0} (f : X → List ℕ) where
  pub joined_push : (xs : List X) (x : X) → flat_map f (xs ++ x ∷ []) ≡ flat_map f xs ++ f x
  joined_push xs x = rw (flat_map-append f xs (x ∷ []), append-nil)

  module _ (xs : List X) (i : ℕ) (x : X) (lt : i < length xs) (is : x ≡ get_or xs i x) where
    pub joined_take : flat_map f (take (i + 1) xs) ≡ flat_map f (take i xs) ++ f x
    joined_take =
        ap (flat_map f) (take_more xs i x lt)
        ∙ (joined_push (take i xs) (get_or xs i x) ∙ ap (λ y. flat_map f (take i xs) ++ f y) (sym is))

    pub length-joined_take : length (flat_map f (take (i + 1) xs)) ≡ length (flat_map f (take i xs)) + length (f x)
    length-joined_take = ap length joined_take ∙ length-append (flat_map f (take i xs)) (f x)

    -- there is room for one more while there is for all
    pub joined_room : length (flat_map f (take i xs)) + length (f x) ≤ length (flat_map f xs)
    joined_room = subst (λ y. length (flat_map f (take i xs)) + length (f y) ≤ length (flat_map f xs)) (sym is) (length-flat_map-take f xs i x lt)

  -- one record more, in a buffer that has those before it at its front
  pub put_more :
      (out : List ℕ) (xs : List X) (i : ℕ) (x : X) (end n : ℕ) → i < length xs → x ≡ get_or xs i x → length (f x) ≡ n → end ≡ length (flat_map f (take i xs)) → end + n ≤ length out
      → put_mid end (end + n - end) (flat_map f (take i xs) ++ drop end out) (f x) ≡ flat_map f (take (i + 1) xs) ++ drop (end + n) out
  put_more out xs i x end n lt is size ended room = rw (joined_take xs i x lt is) (grind (arith, common_steps))

-- a write to the end of a buffer
put_end : (at : ℕ) (now new : List ℕ) → at ≤ length now → put_mid at (length now - at) now new ≡ take at now ++ new
put_end at now new le = rw (drop_all (length now - at) (drop at now) (omega (arith, length-drop at now)), append-nil)

-- bytes put behind those that stand at the front of a buffer
module _
    (a bytes out now : List ℕ) (at : ℕ) (here : at ≡ length a) (room : length a + length bytes ≤ length out)
    (before : now ≡ a ++ drop (length a) out) where
  length_before : length now ≡ length out
  length_before = omega (arith, ap length before, length-append a (drop (length a) out), length-drop (length a) out)

  rest_before : take (length now - at) (drop at now) ≡ drop at out
  rest_before = take_rest now at ∙ rw (before, here) (drop_at a (drop (length a) out) (length a) refl)

  -- there is room for them
  pub room_behind : length bytes ≤ length (take (length now - at) (drop at now))
  room_behind = rw rest_before (omega (arith, length-drop at out))

  pub put_behind : (new : List ℕ) → new ≡ bytes ++ drop (length bytes) (take (length now - at) (drop at now)) → put_mid at (length now - at) now new ≡ (a ++ bytes) ++ drop (length (a ++ bytes)) out
  put_behind new put =
      let first : take at now ≡ a = rw before (take_at a (drop (length a) out) at (sym here)) in
      let n : at + length bytes ≡ length (a ++ bytes) = omega (arith, length-append a bytes) in
      put_end at now new (omega (arith, length_before)) ∙ rw (put, rest_before, first, drop-drop (length bytes) at out, n, append_assoc) refl
