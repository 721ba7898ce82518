-- From a sheet's soundness to what is known of a rule.
use Rattle.std.proofs.Common.{◌≡◌, ℕ, true, List}
use Rattle.sheet.specs.Sound.{sound_claim, sound_rule}
use Rattle.sheet.specs.declared.form.Claim.{Claim}
use Rattle.sheet.specs.declared.form.Node.{Node}
use Rattle.sheet.specs.declared.form.Rule.{Rule}
use Rattle.sheet.specs.declared.form.Rule.TheVariants.{Plain, Conditional}
use Rattle.std.proofs.lemmas.Bool.{and_from, and_parts, ltb-true}
use Rattle.verdicts.specs.Placed.{Placed, PlacedRule}

pub placed : (n : ℕ) (nodes : List Node) (k : Claim) → sound_claim n nodes k ≡ true → Placed n nodes k
placed n nodes k e =
    let p = and_parts _ _ e in
    let q = and_parts _ _ p.0 in
    record { station = ltb-true _ _ q.0; range = and_from _ _ q.1 p.1 }

pub placed_rule : (n : ℕ) (nodes : List Node) (r : Rule) → sound_rule n nodes r ≡ true → PlacedRule n nodes r
placed_rule n nodes (Plain k) e = placed n nodes k e
placed_rule n nodes (Conditional c d) e = let p = and_parts _ _ e in (placed n nodes c p.0, placed n nodes d p.1)
