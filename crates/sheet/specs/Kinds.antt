-- The table of kinds: for each kind of node what its bytes a and b stand for, and the limits of its number k.
use Rattle.std.specs.Prelude.{ℕ, Bool, true, false, cond, List, pos, negsuc, Some, None, Option, Result, ◌++◌, ◌==◌, codes}
use Rattle.std.specs.Fmt.{decimal}
use Rattle.std.specs.Option.{ok_or}
use Rattle.sheet.specs.declared.form.Form.{Form}
use Rattle.sheet.specs.declared.form.Form.TheVariants.{Number, Station, Sum, Difference, Multiple, Quotient, Remainder, Between, AtLeast, AtMost, Channels, Union, Intersection, Complement, Shift}
use Rattle.sheet.specs.declared.form.Slot.{Slot}
use Rattle.sheet.specs.declared.form.Slot.TheVariants as slot
use Rattle.sheet.specs.declared.form.Shape.{Shape}
use Rattle.sheet.specs.declared.form.Fields.{Fields}
use Rattle.sheet.specs.declared.kinds.UnknownKind.{UnknownKind}

-- what bytes a and b stand for, where k is 0
abbrev row : Slot → Slot → Shape
row a b = record { a = a; b = b; least = pos 0; greatest = pos 0 }

-- the row of a node's kind
abbrev pub shape_of : Form → Shape
shape_of (Number k) = record { a = slot.Nothing; b = slot.Nothing; least = negsuc 999; greatest = pos 1000 }
shape_of (Station s) = row slot.Station slot.Nothing
shape_of (Sum a b) = row slot.Term slot.Term
shape_of (Difference a b) = row slot.Term slot.Term
shape_of (Multiple k a) = record { a = slot.Term; b = slot.Nothing; least = negsuc 15; greatest = pos 16 }
shape_of (Quotient a k) = record { a = slot.Term; b = slot.Nothing; least = pos 1; greatest = pos 64 }
shape_of (Remainder a k) = record { a = slot.Term; b = slot.Nothing; least = pos 1; greatest = pos 64 }
shape_of (Between a b) = row slot.Term slot.Term
shape_of (AtLeast a) = row slot.Term slot.Nothing
shape_of (AtMost a) = row slot.Term slot.Nothing
shape_of (Channels s) = row slot.Station slot.Nothing
shape_of (Union a b) = row slot.Range slot.Range
shape_of (Intersection a b) = row slot.Range slot.Range
shape_of (Complement a) = row slot.Range slot.Nothing
shape_of (Shift a b) = row slot.Range slot.Term

-- the fields by which a node is written
abbrev pub fields_of : Form → Fields
fields_of (Number k) = record { kind = 0; a = 0; b = 0; k = k }
fields_of (Station s) = record { kind = 1; a = s; b = 0; k = pos 0 }
fields_of (Sum a b) = record { kind = 2; a = a; b = b; k = pos 0 }
fields_of (Difference a b) = record { kind = 3; a = a; b = b; k = pos 0 }
fields_of (Multiple k a) = record { kind = 4; a = a; b = 0; k = k }
fields_of (Quotient a k) = record { kind = 5; a = a; b = 0; k = k }
fields_of (Remainder a k) = record { kind = 6; a = a; b = 0; k = k }
fields_of (Between a b) = record { kind = 16; a = a; b = b; k = pos 0 }
fields_of (AtLeast a) = record { kind = 17; a = a; b = 0; k = pos 0 }
fields_of (AtMost a) = record { kind = 18; a = a; b = 0; k = pos 0 }
fields_of (Channels s) = record { kind = 19; a = s; b = 0; k = pos 0 }
fields_of (Union a b) = record { kind = 20; a = a; b = b; k = pos 0 }
fields_of (Intersection a b) = record { kind = 21; a = a; b = b; k = pos 0 }
fields_of (Complement a) = record { kind = 22; a = a; b = 0; k = pos 0 }
fields_of (Shift a b) = record { kind = 23; a = a; b = b; k = pos 0 }

-- whether a node is a term; the others are ranges
abbrev pub is_term : Form → Bool
is_term (Number k) = true
is_term (Station s) = true
is_term (Sum a b) = true
is_term (Difference a b) = true
is_term (Multiple k a) = true
is_term (Quotient a k) = true
is_term (Remainder a k) = true
is_term (Between a b) = false
is_term (AtLeast a) = false
is_term (AtMost a) = false
is_term (Channels s) = false
is_term (Union a b) = false
is_term (Intersection a b) = false
is_term (Complement a) = false
is_term (Shift a b) = false

-- the node whose record has some fields, if its kind is known
abbrev pub form_of : Fields → Option Form
form_of f =
    cond (f.kind == 0) (Some (Number f.k))
    (cond (f.kind == 1) (Some (Station f.a))
    (cond (f.kind == 2) (Some (Sum f.a f.b))
    (cond (f.kind == 3) (Some (Difference f.a f.b))
    (cond (f.kind == 4) (Some (Multiple f.k f.a))
    (cond (f.kind == 5) (Some (Quotient f.a f.k))
    (cond (f.kind == 6) (Some (Remainder f.a f.k))
    (cond (f.kind == 16) (Some (Between f.a f.b))
    (cond (f.kind == 17) (Some (AtLeast f.a))
    (cond (f.kind == 18) (Some (AtMost f.a))
    (cond (f.kind == 19) (Some (Channels f.a))
    (cond (f.kind == 20) (Some (Union f.a f.b))
    (cond (f.kind == 21) (Some (Intersection f.a f.b))
    (cond (f.kind == 22) (Some (Complement f.a))
    (cond (f.kind == 23) (Some (Shift f.a f.b)) None))))))))))))))

-- that node, or that its kind is unknown
abbrev pub known_form : Fields → Result Form UnknownKind
known_form f = ok_or (form_of f) (record { 0 = f.kind })

-- how an unknown kind is printed
abbrev pub unknown_text : UnknownKind → List ℕ
unknown_text u = codes "no kind of node has the number " ++ decimal u.0
