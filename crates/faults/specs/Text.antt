-- How a fault is printed.
use Rattle.std.specs.Prelude.{ℕ, List, [], ◌++◌, Some, None, Option, codes}
use Rattle.std.specs.Fmt.{decimal}
use Rattle.faults.specs.declared.Place.{Place}
use Rattle.faults.specs.declared.Layer.{Layer}
use Rattle.faults.specs.declared.Layer.TheVariants.{Bytes, Sheet, Plan, Machine}
use Rattle.faults.specs.declared.Told.{Told}

-- a layer's name
abbrev pub layer_text : Layer → List ℕ
layer_text Bytes = codes "bytes"
layer_text Sheet = codes "sheet"
layer_text Plan = codes "plan"
layer_text Machine = codes "machine"

-- a place: its record and its byte
abbrev pub place_text : Place → List ℕ
place_text p = codes "record " ++ (decimal p.«record» ++ (codes " byte " ++ decimal p.byte))

-- a place behind other text, if there is one
abbrev pub text_behind : Option Place → List ℕ
text_behind (Some p) = codes " " ++ place_text p
text_behind None = []

-- what a fault is told as: its number, its layer, and its place if it has one
abbrev pub told_text : Told → List ℕ
told_text t = decimal t.number ++ (codes " layer " ++ (layer_text t.layer ++ text_behind t.place))
