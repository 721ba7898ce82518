-- What is read so far stays valid with each record more.
use Rattle.std.proofs.Common.{◌≡◌, ℕ, ◌<◌, ◌≤◌, Bool, true, false, cond, not, ◌&&◌, ◌||◌, eqb, ltb, leb, List, [], ◌∷◌, ◌++◌, length, get_or, take, pos, negsuc, Some, None, Ok, Err, Option, Result, sym, refl, subst, ⊎_elim, arith}
use Rattle.std.proofs.lemmas.List.{length_push, take-append-le, take_at, get_or_append_left, get_or_push}
use Rattle.std.proofs.lemmas.Bool.{cases_lt, and_parts, and_from, or_parts, leb-false, ltb-false}
use Rattle.std.proofs.lemmas.Bool.Decides.{nat_tests}
use Rattle.faults.specs.declared.Flaw.{Flaw}
use Rattle.faults.specs.declared.Flaw.TheVariants.{OutOfOrder, TooMany, NoChannel, UnknownKind, NumberOutside, NotThere, WrongSort, TooDeep}
use Rattle.faults.specs.declared.Place.{Place}
use Rattle.sheet.specs.declared.form.Form.{Form}
use Rattle.sheet.specs.declared.form.Fields.{Fields}
use Rattle.sheet.specs.declared.form.Slot.{Slot}
use Rattle.sheet.specs.declared.form.Slot.TheVariants as slot
use Rattle.sheet.specs.declared.form.Shape.{Shape}
use Rattle.sheet.specs.declared.form.Node.{Node}
use Rattle.sheet.specs.declared.form.Claim.{Claim}
use Rattle.sheet.specs.declared.form.Rule.{Rule}
use Rattle.sheet.specs.declared.form.Rule.TheVariants.{Plain, Conditional}
use Rattle.sheet.specs.Content.{Content, Valid}
use Rattle.sheet.specs.Kinds.{form_of, shape_of}
use Rattle.sheet.specs.Sound.{missing_node, missing_rule, there, of_sort, within, depth_of, sound_row, sound_node, sound_claim, sound_rule}
use Rattle.reading.specs.Decoding.{word, number_fits, node_fields, station_of, node_of_row, node_of_form, node_of, rule_of_slots, rule_of, first_claim, second_claim}
use Rattle.reading.specs.Reading.{with_station, with_node, with_rule, put}
use Rattle.reading.proofs.Fields.{fields_same}

-- what it says that a node passes the checks of its kind
pub record Passed (n : ℕ) (before : List Node) (form : Form) (row : Shape) (f : Fields) (x : Node) : Type 0 where
  pub fits : within row.least row.greatest f.k ≡ true
  pub all_there : (there n before row.a f.a && there n before row.b f.b) ≡ true
  pub all_sorted : (of_sort before row.a f.a && of_sort before row.b f.b) ≡ true
  pub shallow : depth_of before row f.a f.b ≤ 8
  pub same : x ≡ record { form = form; depth = depth_of before row f.a f.b }

-- a chain of tests ends well only where each passes
chain :
    {X : Type 0} (a b c d : Bool) (e₁ e₂ e₃ e₄ : Flaw) (x y : X)
    → cond (not a) (Err e₁) (cond (not b) (Err e₂) (cond (not c) (Err e₃) (cond d (Err e₄) (Ok x)))) ≡ Ok y
    → (a ≡ true) × (b ≡ true) × (c ≡ true) × (d ≡ false) × (y ≡ x)
chain a b c d e₁ e₂ e₃ e₄ x y h = grind arith

-- the checks of a node's row
pub row_passed : (n : ℕ) (before : List Node) (form : Form) (row : Shape) (f : Fields) (x : Node) → node_of_row n before form row f ≡ Ok x → Passed n before form row f x
row_passed n before form row f x e =
    let c = chain
    (number_fits row f.k)
    (there n before row.a f.a && there n before row.b f.b)
    (of_sort before row.a f.a && of_sort before row.b f.b)
    (ltb 8 (depth_of before row f.a f.b))
    NumberOutside NotThere WrongSort TooDeep (record { form = form; depth = depth_of before row f.a f.b }) x e in
    record {
      fits = (and_parts (within (negsuc 999) (pos 1000) f.k) (within row.least row.greatest f.k) c.0).1;
      all_there = c.1;
      all_sorted = c.2;
      shallow = ltb-false 8 (depth_of before row f.a f.b) c.3;
      same = c.4;
    }

row_sound : (n : ℕ) (before : List Node) (form : Form) (row : Shape) (f : Fields) (x : Node) → Passed n before form row f x → sound_row n before (depth_of before row f.a f.b) row f ≡ true
row_sound n before form row f x p = grind (arith, nat_tests)

-- a node that was read may stand behind the nodes before it
form_sound : (n : ℕ) (before : List Node) (o : Option Form) (f : Fields) (x : Node) → form_of f ≡ o → node_of_form n before o f ≡ Ok x → sound_node n before x ≡ true
form_sound n before None f x s e = grind arith
form_sound n before (Some form) f x s e =
    let p = row_passed n before form (shape_of form) f x e in
    let same = fields_same n before f form s p.all_there p.fits in
    subst (λ (y : Node). sound_node n before y ≡ true) (sym p.same)
    (subst (λ (g : Fields). sound_row n before (depth_of before (shape_of form) f.a f.b) (shape_of form) g ≡ true) (sym same)
    (row_sound n before form (shape_of form) f x p))

-- what holds of each item and those before it holds with one item more
module _ {X : Type 0} (d : X) (P : List X → X → Type 0) (xs : List X) (x : X) where
  each_more :
      ((i : ℕ) → i < length xs → P (take i xs) (get_or xs i d)) → P xs x
      → (i : ℕ) → i < length (xs ++ x ∷ []) → P (take i (xs ++ x ∷ [])) (get_or (xs ++ x ∷ []) i d)
  each_more h new i lt =
      ⊎_elim
      (λ below. rw (take-append-le i xs (x ∷ []) (omega arith), get_or_append_left xs (x ∷ []) d i below) (h i below))
      (λ past.
      let e : length xs ≡ i = omega (arith, length_push xs x) in
      rw (take_at xs (x ∷ []) i e, get_or_push xs x d i e) new)
      (cases_lt i (length xs))

-- what it says that a rule passes the checks of its slots
pub slots_passed :
    (n : ℕ) (nodes : List Node) (first : Claim) (s r : Slot) (second : Claim) (x y : Rule)
    → rule_of_slots n nodes first s r second x ≡ Ok y
    → (sound_claim n nodes first ≡ true)
    × ((there n nodes s second.station && there n nodes r second.range) ≡ true)
    × (of_sort nodes r second.range ≡ true)
    × (y ≡ x)
slots_passed n nodes first s r second x y e = grind (arith, nat_tests)

-- a rule that was read names what is there
kind_sound : (n : ℕ) (nodes : List Node) (a b : Bool) (part : List ℕ) (y : Rule)
    → cond a
    (rule_of_slots n nodes (first_claim part) slot.Nothing slot.Nothing (second_claim part) (Plain (first_claim part)))
    (cond b
    (rule_of_slots n nodes (first_claim part) slot.Station slot.Range (second_claim part) (Conditional (first_claim part) (second_claim part)))
    (Err UnknownKind)) ≡ Ok y
    → sound_rule n nodes y ≡ true
kind_sound n nodes true b part y e =
    let p = slots_passed n nodes (first_claim part) slot.Nothing slot.Nothing (second_claim part) (Plain (first_claim part)) y e in rw p.3 p.0
kind_sound n nodes false true part y e =
    let p = slots_passed n nodes (first_claim part) slot.Station slot.Range (second_claim part) (Conditional (first_claim part) (second_claim part)) y e in
    rw p.3 (and_from (sound_claim n nodes (first_claim part)) (sound_claim n nodes (second_claim part)) p.0 (and_from _ _ p.1 p.2))
kind_sound n nodes false false part y e = grind arith

-- two tests before a record's own
pub guarded : {X : Type 0} (a b : Bool) (e₁ e₂ : Flaw) (r : Result X Flaw) (y : X) → cond a (Err e₁) (cond b (Err e₂) r) ≡ Ok y → (a ≡ false) × (b ≡ false) × (r ≡ Ok y)
guarded a b e₁ e₂ r y h = grind arith

granted_word : (part : List ℕ) (x : ℕ) → cond (eqb (word part) 0) (Err NoChannel) (Ok (word part)) ≡ Ok x → 0 < x
granted_word part x e = by_word (word part) e
  where
    by_word : (w : ℕ) → cond (eqb w 0) (Err NoChannel) (Ok w) ≡ Ok x → 0 < x
    by_word w h = grind (arith, nat_tests)

pub station_valid : (c : Content) (part : List ℕ) (x : ℕ) → Valid c → station_of c part ≡ Ok x → Valid (with_station c x)
station_valid c part x v e =
    let g = guarded (ltb 0 (length c.nodes) || ltb 0 (length c.rules)) (leb 32 (length c.stations)) OutOfOrder TooMany _ x e in
    let none = or_parts (ltb 0 (length c.nodes)) (ltb 0 (length c.rules)) g.0 in
    let no-nodes = ltb-false 0 (length c.nodes) none.0 in
    let no-rules = ltb-false 0 (length c.rules) none.1 in
    record {
      few_stations = omega (arith, length_push c.stations x, leb-false 32 (length c.stations) g.1);
      channels = each_more 0 (λ _ w. 0 < w) c.stations x v.channels (granted_word part x g.2);
      few_nodes = v.few_nodes;
      few_rules = v.few_rules;
      nodes_sound = λ i lt. absurd (omega arith);
      rules_sound = λ i lt. absurd (omega arith);
    }

pub node_valid : (c : Content) (part : List ℕ) (x : Node) → Valid c → node_of c part ≡ Ok x → Valid (with_node c x)
node_valid c part x v e =
    let g = guarded (ltb 0 (length c.rules)) (leb 255 (length c.nodes)) OutOfOrder TooMany _ x e in
    let no-rules = ltb-false 0 (length c.rules) g.0 in
    record {
      few_stations = v.few_stations;
      channels = v.channels;
      few_nodes = omega (arith, length_push c.nodes x, leb-false 255 (length c.nodes) g.1);
      few_rules = v.few_rules;
      nodes_sound =
          each_more missing_node (λ before y. sound_node (length c.stations) before y ≡ true) c.nodes x v.nodes_sound
          (form_sound (length c.stations) c.nodes (form_of (node_fields part)) (node_fields part) x refl g.2);
      rules_sound = λ i lt. absurd (omega arith);
    }

pub rule_valid : (c : Content) (part : List ℕ) (x : Rule) → Valid c → rule_of c part ≡ Ok x → Valid (with_rule c x)
rule_valid c part x v e =
    let g = guarded false (leb 255 (length c.rules)) OutOfOrder TooMany _ x e in
    record {
      few_stations = v.few_stations;
      channels = v.channels;
      few_nodes = v.few_nodes;
      few_rules = omega (arith, length_push c.rules x, leb-false 255 (length c.rules) g.1);
      nodes_sound = v.nodes_sound;
      rules_sound =
          each_more missing_rule (λ _ y. sound_rule (length c.stations) c.nodes y ≡ true) c.rules x v.rules_sound
          (kind_sound (length c.stations) c.nodes (eqb (get_or part 2 0) 0) (eqb (get_or part 2 0) 1) part x g.2);
    }

pub put_granted : {X : Type 0} (more : X → Content) (at : Place) (r : Result X Flaw) (d : Content) → put more at r ≡ Ok d → (x : X) × (r ≡ Ok x) × (d ≡ more x)
put_granted more at (Ok x) d e = (x, refl, cc)
put_granted more at (Err f) d e = grind arith
