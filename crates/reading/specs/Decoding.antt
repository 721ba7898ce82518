-- What a record says on a sheet of which some part was read before it, or what is wrong with it.
use Rattle.std.specs.Prelude.{ℕ, ◌+◌, ◌*◌, Bool, cond, not, ◌&&◌, ◌||◌, List, length, ℤ, pos, negsuc, Some, None, Ok, Err, Option, Result, ◌==◌, nat_le, nat_lt, slice_index}
use Rattle.std.proofs.Common.{to_z}
use Rattle.std.specs.Int.{w16}
use Rattle.faults.specs.declared.Flaw.{Flaw}
use Rattle.faults.specs.declared.Flaw.TheVariants.{OutOfOrder, TooMany, NoChannel, UnknownKind, NumberOutside, NotThere, WrongSort, TooDeep}
use Rattle.sheet.specs.declared.form.Form.{Form}
use Rattle.sheet.specs.declared.form.Slot.{Slot}
use Rattle.sheet.specs.declared.form.Slot.TheVariants as slot
use Rattle.sheet.specs.declared.form.Shape.{Shape}
use Rattle.sheet.specs.declared.form.Fields.{Fields}
use Rattle.sheet.specs.declared.form.Node.{Node}
use Rattle.sheet.specs.declared.form.Claim.{Claim}
use Rattle.sheet.specs.declared.form.Rule.{Rule}
use Rattle.sheet.specs.declared.form.Rule.TheVariants.{Plain, Conditional}
use Rattle.sheet.specs.Content.{Content}
use Rattle.sheet.specs.Limits.{most_stations, most_nodes, most_rules, deepest}
use Rattle.sheet.specs.Kinds.{form_of, shape_of}
use Rattle.sheet.specs.Sound.{within, there, of_sort, depth_of}

-- byte i of a record
abbrev pub byte : List ℕ → ℕ → ℕ
byte part i = slice_index part i

-- a station's set of channels: eight bytes behind the mark, the high one first; channel c is the bit of weight 2 ^ c
abbrev pub word : List ℕ → ℕ
word part =
    byte part 2 * 72057594037927936 + byte part 3 * 281474976710656 + byte part 4 * 1099511627776 + byte part 5 * 4294967296
    + byte part 6 * 16777216 + byte part 7 * 65536 + byte part 8 * 256 + byte part 9

-- a node's fields: kind, a and b, then k in two bytes, the high one first, signed
abbrev pub node_fields : List ℕ → Fields
node_fields part = record { kind = byte part 2; a = byte part 3; b = byte part 4; k = to_z w16 (byte part 5 * 256 + byte part 6) }

-- stations come before nodes and rules, each with a channel
abbrev pub station_of : Content → List ℕ → Result ℕ Flaw
station_of c part =
    cond (nat_lt 0 (length c.nodes) || nat_lt 0 (length c.rules)) (Err OutOfOrder)
    (cond (nat_le most_stations (length c.stations)) (Err TooMany)
    (cond (word part == 0) (Err NoChannel) (Ok (word part))))

-- a number is held against -1000 to 1000 first, and then against the limits of its kind
abbrev pub number_fits : Shape → ℤ → Bool
number_fits row k = within (negsuc 999) (pos 1000) k && within row.least row.greatest k

-- a node of a known kind
abbrev pub node_of_row : ℕ → List Node → Form → Shape → Fields → Result Node Flaw
node_of_row n before x row f =
    cond (not (number_fits row f.k)) (Err NumberOutside)
    (cond (not (there n before row.a f.a && there n before row.b f.b)) (Err NotThere)
    (cond (not (of_sort before row.a f.a && of_sort before row.b f.b)) (Err WrongSort)
    (cond (nat_lt deepest (depth_of before row f.a f.b)) (Err TooDeep)
    (Ok (record { form = x; depth = depth_of before row f.a f.b })))))

-- the same of any kind
abbrev pub node_of_form : ℕ → List Node → Option Form → Fields → Result Node Flaw
node_of_form n before None f = Err UnknownKind
node_of_form n before (Some x) f = node_of_row n before x (shape_of x) f

-- a node by its record
abbrev pub node_of_kind : ℕ → List Node → List ℕ → Result Node Flaw
node_of_kind n before part = node_of_form n before (form_of (node_fields part)) (node_fields part)

-- nodes come before rules
abbrev pub node_of : Content → List ℕ → Result Node Flaw
node_of c part =
    cond (nat_lt 0 (length c.rules)) (Err OutOfOrder)
    (cond (nat_le most_nodes (length c.nodes)) (Err TooMany)
    (node_of_kind (length c.stations) c.nodes part))

-- a rule's first claim: a station and a node
abbrev pub first_claim : List ℕ → Claim
first_claim part = record { station = byte part 3; range = byte part 4 }

-- its second claim
abbrev pub second_claim : List ℕ → Claim
second_claim part = record { station = byte part 5; range = byte part 6 }

-- a rule whose first claim is a station and a range, and whose second claim's bytes stand for what is given
abbrev pub rule_of_slots : ℕ → List Node → Claim → Slot → Slot → Claim → Rule → Result Rule Flaw
rule_of_slots n nodes first s r second x =
    cond
    (not ((there n nodes slot.Station first.station && there n nodes slot.Range first.range)
    && (there n nodes s second.station && there n nodes r second.range)))
    (Err NotThere)
    (cond (not (of_sort nodes slot.Range first.range && of_sort nodes r second.range)) (Err WrongSort) (Ok x))

-- kind 0 is a plain rule, whose last two bytes are 0, and kind 1 a conditional one
abbrev pub rule_of_kind : ℕ → List Node → List ℕ → Result Rule Flaw
rule_of_kind n nodes part =
    cond (byte part 2 == 0)
    (rule_of_slots n nodes (first_claim part) slot.Nothing slot.Nothing (second_claim part) (Plain (first_claim part)))
    (cond (byte part 2 == 1)
    (rule_of_slots n nodes (first_claim part) slot.Station slot.Range (second_claim part) (Conditional (first_claim part) (second_claim part)))
    (Err UnknownKind))

-- rules come last
abbrev pub rule_of : Content → List ℕ → Result Rule Flaw
rule_of c part =
    cond (nat_le most_rules (length c.rules)) (Err TooMany) (rule_of_kind (length c.stations) c.nodes part)
