-- What was read so far, in the code.
use Rattle.std.specs.Prelude.{◌≡◌, Ok, Err, vec_items, Result}
use Rattle.faults.specs.declared.SheetFault.{SheetFault}
use Rattle.sheet.specs.Content.{Content}
use Rattle.reading.specs.declared.draft.Draft.{Draft}

-- what a draft holds
abbrev pub drafted : Draft → Content
drafted d = record { stations = vec_items d.stations; nodes = vec_items d.nodes; rules = vec_items d.rules }

-- an answer to one record more, and what was read then
abbrev pub Adds : Result Content SheetFault → Result (Unit {0}) SheetFault → Draft → Type 0
Adds x (Ok _) d = x ≡ Ok (drafted d)
Adds x (Err e) d = x ≡ Err e
