-- What a table of channels says of claims and rules, and what a rule leaves of it.
use Rattle.std.specs.Prelude.{◌≡◌, ℕ, ◌<◌, Bool, true, false, cond, not, ◌&&◌, ◌||◌, ◌⊎◌, List, pos}
use Rattle.judging.specs.Judged.{possible, certain, possible_among}
use Rattle.judging.specs.Nodes.{range_of}
use Rattle.masks.specs.Sets.{channels, every, has, Subset}
use Rattle.masks.specs.Tables.{at}
use Rattle.sheet.specs.declared.form.Claim.{Claim}
use Rattle.sheet.specs.declared.form.Node.{Node}
use Rattle.sheet.specs.declared.form.Rule.{Rule}
use Rattle.sheet.specs.declared.form.Rule.TheVariants.{Plain, Conditional}
use Rattle.verdicts.specs.declared.values.Narrowed.{Narrowed}
use Rattle.verdicts.specs.declared.values.Verdict.{Verdict}
use Rattle.verdicts.specs.declared.values.Verdict.TheVariants.{Sure, Open, Broken}

-- every channel of the claim's station is certain in its range
abbrev pub AllCertain : List Node → List ℕ → Claim → Type 0
AllCertain nodes D k = (c : ℕ) → has (at D k.station) c ≡ true → certain D (range_of nodes k.range) (pos c) ≡ true

-- no channel of the claim's station is possible in its range
abbrev pub NonePossible : List Node → List ℕ → Claim → Type 0
NonePossible nodes D k = (c : ℕ) → has (at D k.station) c ≡ true → possible D (range_of nodes k.range) (pos c) ≡ false

-- when a rule is sure: a conditional one is where its condition is broken or its consequence sure
abbrev pub IsSure : List Node → List ℕ → Rule → Type 0
IsSure nodes D (Plain k) = AllCertain nodes D k
IsSure nodes D (Conditional c d) = NonePossible nodes D c ⊎ AllCertain nodes D d

-- when a rule is broken: a conditional one is where its condition is sure and its consequence broken
abbrev pub IsBroken : List Node → List ℕ → Rule → Type 0
IsBroken nodes D (Plain k) = NonePossible nodes D k
IsBroken nodes D (Conditional c d) = AllCertain nodes D c × NonePossible nodes D d

-- what each verdict means of a rule in a store
abbrev pub Means : Verdict → List Node → List ℕ → Rule → Type 0
Means Sure nodes D ρ = IsSure nodes D ρ
Means Broken nodes D ρ = IsBroken nodes D ρ
Means Open nodes D ρ = (IsSure nodes D ρ → ⊥) × (IsBroken nodes D ρ → ⊥)

-- the test of every channel being certain
abbrev pub all_certain : List Node → List ℕ → Claim → Bool
all_certain nodes D k = every channels (λ c. not (has (at D k.station) c) || certain D (range_of nodes k.range) (pos c))

-- the test of no channel being possible
abbrev pub none_possible : List Node → List ℕ → Claim → Bool
none_possible nodes D k = every channels (λ c. not (has (at D k.station) c && possible D (range_of nodes k.range) (pos c)))

-- the verdict on a claim; one about a station without channels, which no store has, counts as sure
abbrev pub claim_verdict : List Node → List ℕ → Claim → Verdict
claim_verdict nodes D k = cond (all_certain nodes D k) Sure (cond (none_possible nodes D k) Broken Open)

-- the verdict on a conditional rule, by those on its condition and its consequence
abbrev pub conditional : Verdict → Verdict → Verdict
conditional Broken Sure = Sure
conditional Broken Open = Sure
conditional Broken Broken = Sure
conditional Sure Sure = Sure
conditional Sure Open = Open
conditional Sure Broken = Broken
conditional Open Sure = Sure
conditional Open Open = Open
conditional Open Broken = Open

-- the verdict on a rule
abbrev pub rule_verdict : List Node → List ℕ → Rule → Verdict
rule_verdict nodes D (Plain k) = claim_verdict nodes D k
rule_verdict nodes D (Conditional c d) = conditional (claim_verdict nodes D c) (claim_verdict nodes D d)

-- a claim leaves its station the channels that are possible in its range
abbrev pub claim_leaves : List Node → List ℕ → Claim → Narrowed
claim_leaves nodes D k = record { station = k.station; channels = possible_among D (range_of nodes k.range) (at D k.station) }

-- what a rule leaves the station that it narrows: a conditional one narrows by its consequence, and only where its condition is sure
abbrev pub leaves : List Node → List ℕ → Rule → Narrowed
leaves nodes D (Plain k) = claim_leaves nodes D k
leaves nodes D (Conditional c d) = cond (all_certain nodes D c) (claim_leaves nodes D d) (record { station = d.station; channels = at D d.station })

-- the station is one of n, and the channels are among those that it has
pub record Within (n : ℕ) (D : List ℕ) (r : Narrowed) : Type 0 where
  pub station : r.station < n
  pub subset : Subset r.channels (at D r.station)
