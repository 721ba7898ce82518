-- How many bytes a sheet has.
use Rattle.std.proofs.Common.{◌≡◌, ℕ, ◌+◌, ◌*◌, List, [], ◌∷◌, ◌++◌, length, refl, mul-add, arith}
use Rattle.std.proofs.lemmas.List.{length-append}
use Rattle.std.specs.List.{flat_map}
use Rattle.sheet.specs.declared.form.Rule.{Rule}
use Rattle.sheet.specs.declared.form.Rule.TheVariants.{Plain, Conditional}
use Rattle.sheet.specs.Content.{Content}
use Rattle.writing.specs.Written.{station_bytes, node_bytes, rule_bytes, written}

-- items of one size
length-joined : {X : Type 0} (f : X → List ℕ) (n : ℕ) → ((x : X) → length (f x) ≡ n) → (xs : List X) → length (flat_map f xs) ≡ n * length xs
length-joined f n each [] = omega arith
length-joined f n each (x ∷ xs) =
    omega (arith, length-append (f x) (flat_map f xs), each x, length-joined f n each xs, mul-add n 1 (length xs))

rule_size : (x : Rule) → length (rule_bytes x) ≡ 7
rule_size (Plain c) = refl
rule_size (Conditional c d) = refl

-- the bytes of the whole are those of the three sorts
pub written-length : (c : Content) → length (written c) ≡ length (flat_map station_bytes c.stations) + (length (flat_map node_bytes c.nodes) + length (flat_map rule_bytes c.rules))
unfolding written
written-length c =
    omega (
      arith,
      length-append (flat_map station_bytes c.stations) (flat_map node_bytes c.nodes ++ flat_map rule_bytes c.rules),
      length-append (flat_map node_bytes c.nodes) (flat_map rule_bytes c.rules),
    )

pub written-size : (c : Content) → length (written c) ≡ 10 * length c.stations + 7 * length c.nodes + 7 * length c.rules
written-size c =
    omega (
      arith,
      written-length c,
      length-joined station_bytes 10 (λ x. refl) c.stations,
      length-joined node_bytes 7 (λ x. refl) c.nodes,
      length-joined rule_bytes 7 rule_size c.rules,
    )
