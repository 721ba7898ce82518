-- What each fault is told as: its number and layer, and for the layers bytes and sheet its place.
use Rattle.std.specs.Prelude.{ℕ, Some, None}
use Rattle.faults.specs.declared.Place.{Place}
use Rattle.faults.specs.declared.Layer.{Layer}
use Rattle.faults.specs.declared.Layer.TheVariants as layer
use Rattle.faults.specs.declared.Told.{Told}
use Rattle.faults.specs.declared.BytesFault.{BytesFault}
use Rattle.faults.specs.declared.BytesFault.TheVariants.{Cut, UnknownMark}
use Rattle.faults.specs.declared.Flaw.{Flaw}
use Rattle.faults.specs.declared.Flaw.TheVariants.{OutOfOrder, TooMany, NoChannel, UnknownKind, NumberOutside, NotThere, WrongSort, TooDeep}
use Rattle.faults.specs.declared.SheetFault.{SheetFault}
use Rattle.faults.specs.declared.SheetFault.TheVariants.{Bytes, Record, NoStation, Memory}
use Rattle.faults.specs.declared.PlanFault.{PlanFault}
use Rattle.faults.specs.declared.PlanFault.TheVariants.{Sheet, TooShort}

-- a number of a layer, at a place
abbrev pub told_at : ℕ → Layer → Place → Told
told_at n l p = record { number = n; layer = l; place = Some p }

-- 1: a record is cut off; 2: its mark is unknown
abbrev pub told_bytes : BytesFault → Told
told_bytes (Cut p) = told_at 1 layer.Bytes p
told_bytes (UnknownMark p) = told_at 2 layer.Bytes p

-- the number of what is wrong with a whole record
abbrev pub number_of : Flaw → ℕ
number_of OutOfOrder = 3
number_of TooMany = 4
number_of NoChannel = 5
number_of UnknownKind = 6
number_of NumberOutside = 7
number_of NotThere = 8
number_of WrongSort = 9
number_of TooDeep = 10

-- 11: no station by the end. Want of memory is no fault of the input, and has the number 0
abbrev pub told_sheet : SheetFault → Told
told_sheet (Bytes f) = told_bytes f
told_sheet (Record f p) = told_at (number_of f) layer.Sheet p
told_sheet (NoStation p) = told_at 11 layer.Sheet p
told_sheet Memory = record { number = 0; layer = layer.Machine; place = None }

-- 17: the caller's bytes are too short
abbrev pub told_plan : PlanFault → Told
told_plan (Sheet f) = told_sheet f
told_plan TooShort = record { number = 17; layer = layer.Plan; place = None }
