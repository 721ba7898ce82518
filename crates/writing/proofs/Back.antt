-- An accepted sheet is written back byte for byte.
use Rattle.std.proofs.Common.{◌≡◌, ℕ, zero, suc, ◌+◌, ◌*◌, ◌/◌, ◌%◌, ◌<◌, ◌≤◌, Bool, true, false, cond, ◌||◌, eqb, ltb, leb, List, [], ◌∷◌, ◌++◌, length, get_or, take, Some, None, Ok, Err, Option, sym, refl, ap, ◌∙◌, subst, arith, w16, to_z, of_z}
use Rattle.std.proofs.lemmas.List.{append_assoc, append-nil, nil_from_length, get_or-take, length-take-le, take-append-drop}
use Rattle.std.proofs.ByRecursion.{All-take, All-drop}
use Rattle.std.proofs.lemmas.Bool.{or_parts, ltb-false}
use Rattle.std.proofs.lemmas.Bool.Decides.{nat_tests}
use Rattle.std.specs.List.{flat_map}
use Rattle.faults.specs.declared.Place.{Place}
use Rattle.faults.specs.declared.Flaw.{Flaw}
use Rattle.faults.specs.declared.Flaw.TheVariants.{OutOfOrder, TooMany, NoChannel, UnknownKind}
use Rattle.faults.specs.declared.SheetFault.TheVariants.{NoStation}
use Rattle.records.specs.Records.{Sort, station, node, rule, Part, whole, size, front}
use Rattle.records.specs.Handed.{start, next_place}
use Rattle.records.proofs.Fronts.{front_taken, front-marked, length_front, size_least}
use Rattle.sheet.specs.declared.form.Form.{Form}
use Rattle.sheet.specs.declared.form.Fields.{Fields}
use Rattle.sheet.specs.declared.form.Slot.TheVariants as slot
use Rattle.sheet.specs.declared.form.Node.{Node}
use Rattle.sheet.specs.declared.form.Rule.{Rule}
use Rattle.sheet.specs.declared.form.Rule.TheVariants.{Plain, Conditional}
use Rattle.sheet.specs.Content.{Content}
use Rattle.sheet.specs.Kinds.{form_of, shape_of, fields_of}
use Rattle.reading.specs.Decoding.{byte, word, node_fields, first_claim, second_claim, station_of, node_of_form, node_of, rule_of_slots, rule_of_kind, rule_of}
use Rattle.reading.specs.Reading.{nothing, with_station, with_node, with_rule, added, finished, onto, reading}
use Rattle.reading.proofs.Fields.{fields_same}
use Rattle.reading.proofs.Onto.{ended, broken, flawed, further, step}
use Rattle.reading.proofs.Validity.{row_passed, slots_passed, guarded, put_granted}
use Rattle.writing.proofs.Marks.{Marked, mark_bytes}
use Rattle.writing.specs.Written.{station_bytes, fields_bytes, node_bytes, rule_bytes, written, Bytes, WrittenBack}
use Rattle.writing.proofs.Puts.{joined_push}

-- a list's elements one by one
spelled : ℕ → ℕ → List ℕ → List ℕ
spelled zero i x = []
spelled (suc n) i x = get_or x i 0 ∷ spelled n (suc i) x

spelled_behind : (n i y : ℕ) (x : List ℕ) → spelled n (suc i) (y ∷ x) ≡ spelled n i x
unfolding spelled
spelled_behind zero i y x = refl
spelled_behind (suc n) i y x = ap (λ t. get_or x i 0 ∷ t) (spelled_behind n (suc i) y x)

spells : (n : ℕ) (x : List ℕ) → length x ≡ n → x ≡ spelled n 0 x
unfolding spelled
spells zero [] e = refl
spells zero (y ∷ x) e = absurd (omega arith)
spells (suc n) [] e = absurd (omega arith)
spells (suc n) (y ∷ x) e = ap (λ t. y ∷ t) (spells n x (omega arith) ∙ sym (spelled_behind n 0 y x))

byte_below : (x : List ℕ) (i : ℕ) → Bytes x → byte x i < 256
byte_below [] i h = omega arith
byte_below (y ∷ x) zero h = h.0
byte_below (y ∷ x) (suc i) h = byte_below x i h.1

-- the eight bytes of a word are those that it was made of
digits :
    (a b c d e f g h : ℕ) → a < 256 → b < 256 → c < 256 → d < 256 → e < 256 → f < 256 → g < 256 → h < 256
    → station_bytes (a * 72057594037927936 + b * 281474976710656 + c * 1099511627776 + d * 4294967296 + e * 16777216 + f * 65536 + g * 256 + h)
    ≡ 83 ∷ 84 ∷ a ∷ b ∷ c ∷ d ∷ e ∷ f ∷ g ∷ h ∷ []
digits a b c d e f g h pa pb pc pd pe pf pg ph =
    let n = a * 72057594037927936 + b * 281474976710656 + c * 1099511627776 + d * 4294967296 + e * 16777216 + f * 65536 + g * 256 + h in
    let qa : n / 72057594037927936 % 256 ≡ a = omega arith in
    let qb : n / 281474976710656 % 256 ≡ b = omega arith in
    let qc : n / 1099511627776 % 256 ≡ c = omega arith in
    let qd : n / 4294967296 % 256 ≡ d = omega arith in
    let qe : n / 16777216 % 256 ≡ e = omega arith in
    let qf : n / 65536 % 256 ≡ f = omega arith in
    let qg : n / 256 % 256 ≡ g = omega arith in
    let qh : n % 256 ≡ h = omega arith in
    rw (qa, qb, qc, qd, qe, qf, qg, qh)

station_back : (x : List ℕ) → length x ≡ 10 → Bytes x → byte x 0 ≡ 83 → byte x 1 ≡ 84 → station_bytes (word x) ≡ x
unfolding spelled
station_back x long small s t =
    let below : (i : ℕ) → byte x i < 256 = λ i. byte_below x i small in
    let all : spelled 10 0 x ≡ x = sym (spells 10 x long) in
    digits (byte x 2) (byte x 3) (byte x 4) (byte x 5) (byte x 6) (byte x 7) (byte x 8) (byte x 9)
    (below 2) (below 3) (below 4) (below 5) (below 6) (below 7) (below 8) (below 9)
    ∙ (rw (← s, ← t) all)

signed_bytes : (a b : ℕ) → a < 256 → b < 256 → of_z w16 (to_z w16 (a * 256 + b)) ≡ a * 256 + b
signed_bytes a b p q = grind (arith, nat_tests)

node_back : (x : List ℕ) → length x ≡ 7 → Bytes x → byte x 0 ≡ 78 → byte x 1 ≡ 68 → fields_bytes (node_fields x) ≡ x
unfolding spelled
node_back x long small s t =
    let a = byte x 5 in
    let b = byte x 6 in
    let pa : a < 256 = byte_below x 5 small in
    let pb : b < 256 = byte_below x 6 small in
    let whole = signed_bytes a b pa pb in
    let high : (a * 256 + b) / 256 % 256 ≡ a = omega arith in
    let low : (a * 256 + b) % 256 ≡ b = omega arith in
    let all : spelled 7 0 x ≡ x = sym (spells 7 x long) in
    rw (whole, high, low, ← s, ← t) all

-- the bytes of a rule that was read, by its kind
kind_back :
    (n : ℕ) (nodes : List Node) (x : List ℕ) (y : Rule) (a b : Bool) → eqb (byte x 2) 0 ≡ a → eqb (byte x 2) 1 ≡ b
    → byte x 0 ∷ byte x 1 ∷ byte x 2 ∷ byte x 3 ∷ byte x 4 ∷ byte x 5 ∷ byte x 6 ∷ [] ≡ x → byte x 0 ≡ 82 → byte x 1 ≡ 85
    → cond a
    (rule_of_slots n nodes (first_claim x) slot.Nothing slot.Nothing (second_claim x) (Plain (first_claim x)))
    (cond b
    (rule_of_slots n nodes (first_claim x) slot.Station slot.Range (second_claim x) (Conditional (first_claim x) (second_claim x)))
    (Err UnknownKind)) ≡ Ok y
    → rule_bytes y ≡ x
kind_back n nodes x y true b p q all s t e =
    let h = slots_passed n nodes (first_claim x) slot.Nothing slot.Nothing (second_claim x) (Plain (first_claim x)) y e in grind (arith, nat_tests)
kind_back n nodes x y false true p q all s t e =
    let h = slots_passed n nodes (first_claim x) slot.Station slot.Range (second_claim x) (Conditional (first_claim x) (second_claim x)) y e in grind (arith, nat_tests)
kind_back n nodes x y false false p q all s t e = grind arith

rule_back : (n : ℕ) (nodes : List Node) (x : List ℕ) (y : Rule) → length x ≡ 7 → byte x 0 ≡ 82 → byte x 1 ≡ 85 → rule_of_kind n nodes x ≡ Ok y → rule_bytes y ≡ x
unfolding spelled
rule_back n nodes x y long s t e = kind_back n nodes x y (eqb (byte x 2) 0) (eqb (byte x 2) 1) refl refl (sym (spells 7 x long)) s t e

-- a node that was read has the fields of its record
form_back : (n : ℕ) (before : List Node) (o : Option Form) (f : Fields) (x : Node) → form_of f ≡ o → node_of_form n before o f ≡ Ok x → fields_of x.form ≡ f
form_back n before None f x s e = grind arith
form_back n before (Some form) f x s e =
    let p = row_passed n before form (shape_of form) f x e in
    ap (λ (y : Node). fields_of y.form) p.same ∙ fields_same n before f form s p.all_there p.fits

none : {X : Type 0} (xs : List X) → ltb 0 (length xs) ≡ false → xs ≡ []
none xs e = nil_from_length xs (omega (arith, ltb-false 0 (length xs) e))

granted : {X : Type 0} (b : Bool) (f : Flaw) (x y : X) → cond b (Err f) (Ok x) ≡ Ok y → x ≡ y
granted b f x y e = grind arith

-- one item more of the last sort that there is
module _ {X : Type 0} (f : X → List ℕ) (items : List X) (y : X) (bytes : List ℕ) (back : f y ≡ bytes) where
  last_more : (front : List ℕ) → front ++ flat_map f (items ++ y ∷ []) ≡ (front ++ flat_map f items) ++ bytes
  last_more front = rw (joined_push f items y, back, append_assoc)

station_more : (c : Content) (y : ℕ) (x : List ℕ) → c.nodes ≡ [] → c.rules ≡ [] → station_bytes y ≡ x → written (with_station c y) ≡ written c ++ x
unfolding written
station_more c y x no-nodes no-rules back = simp (no-nodes, no-rules, append-nil) (last_more station_bytes c.stations y x back [])

node_more : (c : Content) (y : Node) (x : List ℕ) → c.rules ≡ [] → node_bytes y ≡ x → written (with_node c y) ≡ written c ++ x
unfolding written
node_more c y x no-rules back =
    simp (no-rules, append-nil) (last_more node_bytes c.nodes y x back (flat_map station_bytes c.stations))

rule_more : (c : Content) (y : Rule) (x : List ℕ) → rule_bytes y ≡ x → written (with_rule c y) ≡ written c ++ x
unfolding written
rule_more c y x back =
    let nodes = flat_map node_bytes c.nodes in
    rw (← append_assoc (flat_map station_bytes c.stations) nodes (flat_map rule_bytes (c.rules ++ y ∷ [])), ← append_assoc (flat_map station_bytes c.stations) nodes (flat_map rule_bytes c.rules))
    (last_more rule_bytes c.rules y x back (flat_map station_bytes c.stations ++ nodes))

-- one record more is its bytes more
added-written : (c : Content) (s : Sort) (x : List ℕ) (at : Place) (d : Content) → Marked s x → Bytes x → added c s x at ≡ Ok d → written d ≡ written c ++ x
added-written c station x at d m small e =
    let g = put_granted (with_station c) at (station_of c x) d e in
    let h = guarded (ltb 0 (length c.nodes) || ltb 0 (length c.rules)) (leb 32 (length c.stations)) OutOfOrder TooMany _ g.0 g.1 in
    let empty = or_parts (ltb 0 (length c.nodes)) (ltb 0 (length c.rules)) h.0 in
    let k = mark_bytes (byte x 0) (byte x 1) station m.mark in
    let back = ap station_bytes (sym (granted (eqb (word x) 0) NoChannel (word x) g.0 h.2)) ∙ station_back x m.sized small k.0 k.1 in
    ap written g.2 ∙ station_more c g.0 x (none c.nodes empty.0) (none c.rules empty.1) back
added-written c node x at d m small e =
    let g = put_granted (with_node c) at (node_of c x) d e in
    let h = guarded (ltb 0 (length c.rules)) (leb 255 (length c.nodes)) OutOfOrder TooMany _ g.0 g.1 in
    let k = mark_bytes (byte x 0) (byte x 1) node m.mark in
    let back = ap fields_bytes (form_back (length c.stations) c.nodes (form_of (node_fields x)) (node_fields x) g.0 refl h.2) ∙ node_back x m.sized small k.0 k.1 in
    ap written g.2 ∙ node_more c g.0 x (none c.rules h.0) back
added-written c rule x at d m small e =
    let g = put_granted (with_rule c) at (rule_of c x) d e in
    let h = guarded false (leb 255 (length c.rules)) OutOfOrder TooMany _ g.0 g.1 in
    let k = mark_bytes (byte x 0) (byte x 1) rule m.mark in
    ap written g.2 ∙ rule_more c g.0 x (rule_back (length c.stations) c.nodes x g.0 m.sized k.0 k.1 h.2)

-- the record at the front bears its mark, and what is behind it are bytes too
front_bears : (bytes : List ℕ) (p : Part) (rest : List ℕ) → Bytes bytes → front bytes ≡ whole p rest → Marked p.sort p.bytes × Bytes p.bytes × (p.bytes ++ rest ≡ bytes) × Bytes rest
front_bears bytes p rest small e =
    let t = front_taken bytes p rest e in
    let n = size p.sort in
    let least = size_least p.sort in
    let first : get_or (take n bytes) 0 0 ≡ get_or bytes 0 0 = get_or-take n bytes 0 0 (omega arith) in
    let second : get_or (take n bytes) 1 0 ≡ get_or bytes 1 0 = get_or-take n bytes 1 0 (omega arith) in (
      record {
        sized = ap length t.first ∙ length-take-le n bytes t.fits;
        mark = rw (t.first, first, second) (front-marked bytes p rest e);
      },
      subst Bytes (sym t.first) (All-take (λ b. b < 256) n bytes small),
      rw (t.first, t.behind) (take-append-drop n bytes),
      subst Bytes (sym t.behind) (All-drop (λ b. b < 256) n bytes small),
    )

finished-same : (c : Content) (at : Place) (d : Content) → finished c at ≡ Ok d → d ≡ c
finished-same c at d e = sym (granted' (eqb (length c.stations) 0) e)
  where
    granted' : (b : Bool) → cond b (Err (NoStation at)) (Ok c) ≡ Ok d → c ≡ d
    granted' true h = grind arith
    granted' false h = cc

-- reading the rest puts its bytes behind those of what was read
ends_written : (c : Content) (at : Place) (bytes : List ℕ) (d : Content) → length bytes ≡ 0 → finished c at ≡ Ok d → written d ≡ written c ++ bytes
ends_written c at bytes d e h = rw (nil_from_length bytes e, append-nil) (ap written (finished-same c at d h))

onto-written : (n : ℕ) (c : Content) (at : Place) (bytes : List ℕ) (d : Content) → length bytes ≤ n → Bytes bytes → onto n c at bytes ≡ Ok d → written d ≡ written c ++ bytes
unfolding onto
onto-written zero c at bytes d le small e = ends_written c at bytes d (omega arith) e
onto-written (suc n) c at bytes d le small e =
    elim (step n c at bytes (Ok d) e) [
      | ended z h ↦ ends_written c at bytes d z h
      | broken f h ↦ grind arith
      | flawed p rest g f a h ↦ grind arith
      | further p rest c' f a h ↦
          let b = front_bears bytes p rest small f in
          let one = added-written c p.sort p.bytes at c' b.0 b.1 a in
          let fewer : length rest ≤ n = omega (arith, length_front bytes p rest f, size_least p.sort) in
          onto-written n c' (next_place at (whole p rest)) rest d fewer b.3 h
          ∙ rw (one, append_assoc, b.2)
    ]

pub written_back : (c : Content) → WrittenBack c
unfolding reading written
written_back c bytes small e = onto-written (length bytes) nothing start bytes c (omega arith) small e
