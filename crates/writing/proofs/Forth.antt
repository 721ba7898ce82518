-- Every valid sheet is read back from the bytes by which it is written.
use Rattle.std.proofs.Common.{◌≡◌, ℕ, suc, ◌+◌, ◌-◌, ◌*◌, ◌/◌, ◌%◌, ◌^◌, ◌<◌, ◌≤◌, true, false, eqb, ltb, leb, List, [], ◌∷◌, ◌++◌, length, get_or, take, drop, ℤ, pos, negsuc, Some, Ok, Option, Result, refl, ap, ◌∙◌, arith, w16, to_z, of_z}
use lib.Signed.{le_z}
use Rattle.std.proofs.lemmas.List.{append_assoc, append-nil, length-append, get_or_append_left, take_at, drop_at, get_or_at}
use Rattle.std.proofs.lemmas.Bool.{and_parts, leb-true}
use Rattle.std.proofs.lemmas.Bool.Decides.{nat_tests}
use Rattle.std.proofs.lemmas.Int.{ints, to_z-of_z}
use Rattle.std.specs.List.{flat_map}
use Rattle.faults.specs.declared.Place.{Place}
use Rattle.faults.specs.declared.SheetFault.{SheetFault}
use Rattle.records.specs.Records.{Sort, station, node, rule, Part, whole, size, front}
use Rattle.records.specs.Handed.{start, next_place, offered}
use Rattle.records.proofs.Fronts.{size_least}
use Rattle.sheet.specs.declared.form.Form.{Form}
use Rattle.sheet.specs.declared.form.Shape.{Shape}
use Rattle.sheet.specs.declared.form.Fields.{Fields}
use Rattle.sheet.specs.declared.form.Node.{Node}
use Rattle.sheet.specs.declared.form.Rule.{Rule}
use Rattle.sheet.specs.declared.form.Rule.TheVariants.{Plain, Conditional}
use Rattle.sheet.specs.Content.{Content, Valid, content}
use Rattle.sheet.specs.declared.valid.Sheet.{Sheet}
use Rattle.sheet.proofs.Types.{valid, some_station}
use Rattle.sheet.proofs.Rows.{Row, row_of}
use Rattle.sheet.specs.Kinds.{form_of, shape_of, fields_of}
use Rattle.sheet.specs.Sound.{within, sound_node, sound_rule, missing_node, missing_rule}
use Rattle.reading.specs.Decoding.{byte, word, node_fields, node_of_row, node_of_form, node_of_kind, node_of, rule_of_kind, rule_of}
use Rattle.reading.specs.Reading.{with_station, with_node, with_rule, put, added, reading}
use Rattle.reading.proofs.Onto.{Still, still_starts, still_ends, still_added}
use Rattle.writing.proofs.Marks.{Marked}
use Rattle.writing.specs.Written.{station_bytes, fields_bytes, node_bytes, rule_bytes, written, Words, ReadBack}

-- such a record stands at the front of bytes that begin with it
front_whole : (s : Sort) (x tail : List ℕ) → Marked s x → front (x ++ tail) ≡ whole (record { sort = s; bytes = x }) tail
unfolding front
front_whole s x tail m =
    let least = size_least s in
    let long : length (x ++ tail) ≡ size s + length tail = length-append x tail ∙ ap (λ n. n + length tail) m.sized in
    let zero' : byte (x ++ tail) 0 ≡ byte x 0 = get_or_append_left x tail 0 0 (omega (arith, m.sized)) in
    let one : byte (x ++ tail) 1 ≡ byte x 1 = get_or_append_left x tail 0 1 (omega (arith, m.sized)) in
    let some : eqb (length (x ++ tail)) 0 ≡ false = grind (arith, nat_tests) in
    let two : ltb (length (x ++ tail)) 2 ≡ false = grind (arith, nat_tests) in
    let all : ltb (length (x ++ tail)) (size s) ≡ false = grind (arith, nat_tests) in
    let first : take (size s) (x ++ tail) ≡ x = take_at x tail (size s) m.sized in
    let rest : drop (size s) (x ++ tail) ≡ tail = drop_at x tail (size s) m.sized in
    rw (some, two, zero', one, m.mark, all, first, rest)

-- one record read
still_record : (c : Content) (at : Place) (s : Sort) (x tail : List ℕ) (r : Result Content SheetFault) (d : Content) → Marked s x → added c s x at ≡ Ok d → Still c at (x ++ tail) r → (next : Place) × Still d next tail r
still_record c at s x tail r d m e h =
    let f = front_whole s x tail m in
    let p : Part = record { sort = s; bytes = x } in
    let given : Ok (record { part = p; place = at }) ≡ offered at (front (x ++ tail)) = rw f in
    let next = still_added c at (x ++ tail) r (record { part = p; place = at }) h d given e in
    (next_place at (whole p tail), rw f at next)

-- a station's record
word_forth : (y : ℕ) → y < 2 ^ 64 → word (station_bytes y) ≡ y
word_forth y h = omega arith

station_forth : (c : Content) (at : Place) (y : ℕ) → c.nodes ≡ [] → c.rules ≡ [] → length c.stations < 32 → 0 < y → y < 2 ^ 64 → added c station (station_bytes y) at ≡ Ok (with_station c y)
station_forth c at y no-nodes no-rules few some small =
    let n : ltb 0 (length c.nodes) ≡ false = rw no-nodes in
    let r : ltb 0 (length c.rules) ≡ false = rw no-rules in
    let l : leb 32 (length c.stations) ≡ false = grind (arith, nat_tests) in
    let z : eqb y 0 ≡ false = grind (arith, nat_tests) in
    rw (word_forth y small, n, r, l, z)

-- a node's record
-- a node is the one with its own fields, and the limits of its kind lie within those of all
form_forth : (x : Form) → (form_of (fields_of x) ≡ Some x) × (le_z (negsuc 999) (shape_of x).least ≡ true) × (le_z (shape_of x).greatest (pos 1000) ≡ true)
form_forth x = grind arith

narrower : (low high k : ℤ) → le_z (negsuc 999) low ≡ true → le_z high (pos 1000) ≡ true → within low high k ≡ true → within (negsuc 999) (pos 1000) k ≡ true
narrower low high k l h w = grind (arith, ints)

-- a number within those limits is its two bytes
number_forth : (k : ℤ) → within (negsuc 999) (pos 1000) k ≡ true → to_z w16 (of_z w16 k / 256 % 256 * 256 + of_z w16 k % 256) ≡ k
number_forth (pos n) w =
    let small : n ≤ 1000 = leb-true n 1000 w in
    let e : n / 256 % 256 * 256 + n % 256 ≡ n = omega arith in
    rw e (to_z-of_z w16 (pos n) (record { sfits = omega arith }))
number_forth (negsuc n) w =
    let small : n ≤ 999 = leb-true n 999 (and_parts (leb n 999) true w).0 in
    let m = 65536 - suc n in
    let e : m / 256 % 256 * 256 + m % 256 ≡ m = omega arith in
    rw e (to_z-of_z w16 (negsuc n) (record { sfits = omega arith }))

fields_forth : (f : Fields) → within (negsuc 999) (pos 1000) f.k ≡ true → node_fields (fields_bytes f) ≡ f
fields_forth f w = rw (number_forth f.k w)

row_forth : (n : ℕ) (before : List Node) (x : Node) (row : Shape) (f : Fields) → Row n before x.depth row f → within (negsuc 999) (pos 1000) f.k ≡ true → node_of_row n before x.form row f ≡ Ok x
row_forth n before x row f r w = grind (arith, nat_tests)

node_forth : (c : Content) (at : Place) (x : Node) → c.rules ≡ [] → length c.nodes < 255 → sound_node (length c.stations) c.nodes x ≡ true → added c node (node_bytes x) at ≡ Ok (with_node c x)
node_forth c at x no-rules few sound =
    let r = row_of (length c.stations) c.nodes x.depth (shape_of x.form) (fields_of x.form) sound in
    let k = form_forth x.form in
    let w = narrower (shape_of x.form).least (shape_of x.form).greatest (fields_of x.form).k k.1 k.2 r.limits in
    let n : ltb 0 (length c.rules) ≡ false = rw no-rules in
    let l : leb 255 (length c.nodes) ≡ false = grind (arith, nat_tests) in
    let kind : node_of_kind (length c.stations) c.nodes (node_bytes x) ≡ Ok x =
    ap (λ (f : Fields). node_of_form (length c.stations) c.nodes (form_of f) f) (fields_forth (fields_of x.form) w)
    ∙ ap (λ (o : Option Form). node_of_form (length c.stations) c.nodes o (fields_of x.form)) k.0
    ∙ row_forth (length c.stations) c.nodes x (shape_of x.form) (fields_of x.form) r w in
    let all : node_of c (node_bytes x) ≡ Ok x = rw (n, l) kind in
    ap (put (with_node c) at) all

-- a rule's record
kind_forth : (n : ℕ) (nodes : List Node) (x : Rule) → sound_rule n nodes x ≡ true → rule_of_kind n nodes (rule_bytes x) ≡ Ok x
kind_forth n nodes x e = grind (arith, nat_tests)

rule_forth : (c : Content) (at : Place) (x : Rule) → length c.rules < 255 → sound_rule (length c.stations) c.nodes x ≡ true → added c rule (rule_bytes x) at ≡ Ok (with_rule c x)
rule_forth c at x few sound =
    let l : leb 255 (length c.rules) ≡ false = grind (arith, nat_tests) in
    let all : rule_of c (rule_bytes x) ≡ Ok x = rw l (kind_forth (length c.stations) c.nodes x sound) in
    ap (put (with_rule c) at) all

-- each record bears its mark
station_marked : (y : ℕ) → Marked station (station_bytes y)
station_marked y = record { sized = refl; mark = refl }

node_marked : (x : Node) → Marked node (node_bytes x)
node_marked x = record { sized = refl; mark = refl }

rule_marked : (x : Rule) → Marked rule (rule_bytes x)
rule_marked (Plain c) = record { sized = refl; mark = refl }
rule_marked (Conditional c d) = record { sized = refl; mark = refl }

-- many records of one sort, read one after another: each of them is put in where its turn comes
module _
    {X : Type 0} (s : Sort) (f : X → List ℕ) (marked-so : (x : X) → Marked s (f x)) (so_far : List X → Content)
    (r : Result Content SheetFault) (all : List X)
    (each : (xs : List X) (x : X) (ys : List X) (at : Place) → all ≡ xs ++ x ∷ ys → added (so_far xs) s (f x) at ≡ Ok (so_far (xs ++ x ∷ []))) where
  run : (xs ys : List X) (at : Place) (tail : List ℕ) → all ≡ xs ++ ys → Still (so_far xs) at (flat_map f ys ++ tail) r → (next : Place) × Still (so_far all) next tail r
  run xs [] at tail e h = (at, rw (e, append-nil) h)
  run xs (y ∷ ys) at tail e h =
      let one = still_record (so_far xs) at s (f y) (flat_map f ys ++ tail) r (so_far (xs ++ y ∷ [])) (marked-so y) (each xs y ys at e) (rw append_assoc at h) in
      run (xs ++ y ∷ []) ys one.0 tail (rw append_assoc e) one.1

-- the whole sheet
module _ (c : Content) (v : Valid c) (some : 0 < length c.stations) (words : Words c.stations) where
  each_station :
      (xs : List ℕ) (x : ℕ) (ys : List ℕ) (at : Place) → c.stations ≡ xs ++ x ∷ ys
      → added (record { stations = xs; nodes = []; rules = [] }) station (station_bytes x) at ≡ Ok (record { stations = xs ++ x ∷ []; nodes = []; rules = [] })
  each_station xs x ys at e =
      let here : get_or c.stations (length xs) 0 ≡ x = rw e (get_or_at xs x ys 0 (length xs) refl) in
      let below : length xs < length c.stations = omega (arith, ap length e, length-append xs (x ∷ ys)) in
      station_forth (record { stations = xs; nodes = []; rules = [] }) at x refl refl (omega (arith, v.few_stations))
      (rw here at (v.channels (length xs) below)) (rw here at (words (length xs) below))

  each_node :
      (xs : List Node) (x : Node) (ys : List Node) (at : Place) → c.nodes ≡ xs ++ x ∷ ys
      → added (record { stations = c.stations; nodes = xs; rules = [] }) node (node_bytes x) at ≡ Ok (record { stations = c.stations; nodes = xs ++ x ∷ []; rules = [] })
  each_node xs x ys at e =
      let here : get_or c.nodes (length xs) missing_node ≡ x = rw e (get_or_at xs x ys missing_node (length xs) refl) in
      let before : take (length xs) c.nodes ≡ xs = rw e (take_at xs (x ∷ ys) (length xs) refl) in
      let below : length xs < length c.nodes = omega (arith, ap length e, length-append xs (x ∷ ys)) in
      node_forth (record { stations = c.stations; nodes = xs; rules = [] }) at x refl (omega (arith, v.few_nodes))
      (rw (before, here) at (v.nodes_sound (length xs) below))

  each_rule :
      (xs : List Rule) (x : Rule) (ys : List Rule) (at : Place) → c.rules ≡ xs ++ x ∷ ys
      → added (record { stations = c.stations; nodes = c.nodes; rules = xs }) rule (rule_bytes x) at ≡ Ok (record { stations = c.stations; nodes = c.nodes; rules = xs ++ x ∷ [] })
  each_rule xs x ys at e =
      let here : get_or c.rules (length xs) missing_rule ≡ x = rw e (get_or_at xs x ys missing_rule (length xs) refl) in
      let below : length xs < length c.rules = omega (arith, ap length e, length-append xs (x ∷ ys)) in
      rule_forth (record { stations = c.stations; nodes = c.nodes; rules = xs }) at x (omega (arith, v.few_rules))
      (rw here at (v.rules_sound (length xs) below))

  pub read_back : reading (written c) ≡ Ok c
  unfolding written
  read_back =
      let r = reading (written c) in
      let nodes = flat_map node_bytes c.nodes in
      let rules = flat_map rule_bytes c.rules in
      let a = run station station_bytes station_marked (λ xs. record { stations = xs; nodes = []; rules = [] }) r c.stations each_station
      [] c.stations start (nodes ++ rules) refl (still_starts (written c)) in
      let b = run node node_bytes node_marked (λ xs. record { stations = c.stations; nodes = xs; rules = [] }) r c.nodes each_node
      [] c.nodes a.0 rules refl a.1 in
      let d = run rule rule_bytes rule_marked (λ xs. record { stations = c.stations; nodes = c.nodes; rules = xs }) r c.rules each_rule
      [] c.rules b.0 [] refl (rw append-nil b.1) in
      let one : eqb (length c.stations) 0 ≡ false = grind (arith, nat_tests) in
      rw one at (still_ends c d.0 [] r d.1 refl)

-- so is every sheet
pub sheet_forth : (s : Sheet) → ReadBack (content s)
sheet_forth s = read_back (content s) (valid s) (some_station s)
