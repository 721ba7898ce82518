-- The bytes by which a sheet is written.
use Rattle.std.specs.Prelude.{◌≡◌, ℕ, ◌/◌, ◌%◌, ◌^◌, ◌<◌, List, [], ◌∷◌, ◌++◌, length, Ok, slice_index}
use Rattle.std.proofs.Common.{of_z}
use Rattle.std.specs.Int.{w16}
use Rattle.std.specs.List.{flat_map, AllByRecursion}
use Rattle.sheet.specs.declared.form.Fields.{Fields}
use Rattle.sheet.specs.declared.form.Node.{Node}
use Rattle.sheet.specs.declared.form.Rule.{Rule}
use Rattle.sheet.specs.declared.form.Rule.TheVariants.{Plain, Conditional}
use Rattle.sheet.specs.Content.{Content}
use Rattle.sheet.specs.Kinds.{fields_of}
use Rattle.reading.specs.Reading.{reading}

-- ST and a word of eight bytes, the high one first
abbrev pub station_bytes : ℕ → List ℕ
station_bytes w =
    83 ∷ 84
    ∷ w / 72057594037927936 % 256 ∷ w / 281474976710656 % 256 ∷ w / 1099511627776 % 256 ∷ w / 4294967296 % 256
    ∷ w / 16777216 % 256 ∷ w / 65536 % 256 ∷ w / 256 % 256 ∷ w % 256 ∷ []

-- ND, kind, a and b, and k in two bytes, signed
abbrev pub fields_bytes : Fields → List ℕ
fields_bytes f = 78 ∷ 68 ∷ f.kind ∷ f.a ∷ f.b ∷ of_z w16 f.k / 256 % 256 ∷ of_z w16 f.k % 256 ∷ []

-- a node by its fields
abbrev pub node_bytes : Node → List ℕ
node_bytes x = fields_bytes (fields_of x.form)

-- RU, kind and two claims; a plain rule's second one is 0
abbrev pub rule_bytes : Rule → List ℕ
rule_bytes (Plain c) = 82 ∷ 85 ∷ 0 ∷ c.station ∷ c.range ∷ 0 ∷ 0 ∷ []
rule_bytes (Conditional c d) = 82 ∷ 85 ∷ 1 ∷ c.station ∷ c.range ∷ d.station ∷ d.range ∷ []

-- all stations, then all nodes, then all rules
unfoldable pub written : Content → List ℕ
written c = flat_map station_bytes c.stations ++ (flat_map node_bytes c.nodes ++ flat_map rule_bytes c.rules)

-- a byte is below 256
abbrev pub Bytes : List ℕ → Type 0
Bytes bs = AllByRecursion (λ b. b < 256) bs

-- a station's word is below 2 ^ 64
abbrev pub Words : List ℕ → Type 0
Words stations = (i : ℕ) → i < length stations → slice_index stations i < 2 ^ 64

-- whatever bytes were read as a sheet, the sheet is written as those bytes
abbrev pub WrittenBack : Content → Type 0
WrittenBack c = (bytes : List ℕ) → Bytes bytes → reading bytes ≡ Ok c → written c ≡ bytes

-- and a sheet is read from the bytes as which it is written
abbrev pub ReadBack : Content → Type 0
ReadBack c = Words c.stations → reading (written c) ≡ Ok c
