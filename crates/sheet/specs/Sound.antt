-- When the nodes and rules of a sheet name only what is there, of the right sort and not too deep.
use Rattle.std.specs.Prelude.{◌≡◌, ℕ, suc, ◌<◌, max, Bool, true, not, ◌&&◌, List, length, get_or, take, ℤ, pos, ◌==◌, int_le, nat_le, nat_lt, slice_index, slice_index_or}
use Rattle.sheet.specs.Limits.{deepest}
use Rattle.sheet.specs.Kinds.{shape_of, fields_of, is_term}
use Rattle.sheet.specs.declared.form.Form.TheVariants.{Number}
use Rattle.sheet.specs.declared.form.Slot.{Slot}
use Rattle.sheet.specs.declared.form.Slot.TheVariants as slot
use Rattle.sheet.specs.declared.form.Shape.{Shape}
use Rattle.sheet.specs.declared.form.Fields.{Fields}
use Rattle.sheet.specs.declared.form.Node.{Node}
use Rattle.sheet.specs.declared.form.Claim.{Claim}
use Rattle.sheet.specs.declared.form.Rule.{Rule}
use Rattle.sheet.specs.declared.form.Rule.TheVariants.{Plain, Conditional}

-- the node read where a number is past the last one
abbrev pub missing_node : Node
missing_node = record { form = Number (pos 0); depth = 0 }

-- the rule read where a number is past the last one
abbrev pub missing_rule : Rule
missing_rule = Plain (record { station = 0; range = 0 })

-- a number k lies within limits, both included
abbrev pub within : ℤ → ℤ → ℤ → Bool
within low high k = int_le low k && int_le k high

-- what a byte names is there, among n stations and the nodes before; a byte that names nothing is 0
abbrev pub there : ℕ → List Node → Slot → ℕ → Bool
there n before slot.Nothing v = v == 0
there n before slot.Station v = nat_lt v n
there n before slot.Term v = nat_lt v (length before)
there n before slot.Range v = nat_lt v (length before)

-- what a byte names is of the sort wanted
abbrev pub of_sort : List Node → Slot → ℕ → Bool
of_sort before slot.Nothing v = true
of_sort before slot.Station v = true
of_sort before slot.Term v = is_term (get_or before v missing_node).form
of_sort before slot.Range v = not (is_term (get_or before v missing_node).form)

-- how deep what a byte names goes: a node's depth, and 0 for anything else
abbrev pub depth_below : List Node → Slot → ℕ → ℕ
depth_below before slot.Nothing v = 0
depth_below before slot.Station v = 0
depth_below before slot.Term v = (get_or before v missing_node).depth
depth_below before slot.Range v = (get_or before v missing_node).depth

-- a node is one deeper than the deepest node it names
abbrev pub depth_of : List Node → Shape → ℕ → ℕ → ℕ
depth_of before row a b = suc (max (depth_below before row.a a) (depth_below before row.b b))

-- the same of a node's row in the table of kinds and its fields
abbrev pub sound_row : ℕ → List Node → ℕ → Shape → Fields → Bool
sound_row n before depth row f =
    within row.least row.greatest f.k
    && (there n before row.a f.a && there n before row.b f.b)
    && (of_sort before row.a f.a && of_sort before row.b f.b)
    && (depth == depth_of before row f.a f.b && nat_le depth deepest)

-- a node may stand behind the nodes before it, on a sheet of n stations
abbrev pub sound_node : ℕ → List Node → Node → Bool
sound_node n before x = sound_row n before x.depth (shape_of x.form) (fields_of x.form)

-- a claim names a station and a range that are there
abbrev pub sound_claim : ℕ → List Node → Claim → Bool
sound_claim n nodes c =
    (nat_lt c.station n && nat_lt c.range (length nodes)) && not (is_term (get_or nodes c.range missing_node).form)

-- so does each claim of a rule
abbrev pub sound_rule : ℕ → List Node → Rule → Bool
sound_rule n nodes (Plain c) = sound_claim n nodes c
sound_rule n nodes (Conditional c d) = sound_claim n nodes c && sound_claim n nodes d

-- each station has a channel
abbrev pub Filled : List ℕ → Type 0
Filled stations = (i : ℕ) → i < length stations → 0 < slice_index stations i

-- each node may stand behind those before it
abbrev pub SoundNodes : ℕ → List Node → Type 0
SoundNodes n nodes = (i : ℕ) → i < length nodes → sound_node n (take i nodes) (slice_index_or nodes i missing_node) ≡ true

-- each rule names what is there
abbrev pub SoundRules : ℕ → List Node → List Rule → Type 0
SoundRules n nodes rules = (i : ℕ) → i < length rules → sound_rule n nodes (slice_index_or rules i missing_rule) ≡ true
