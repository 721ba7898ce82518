-- The laws of rules, from those of claims.
use Rattle.std.proofs.Common.{◌≡◌, ℕ, Bool, true, false, cond, List, sym, refl, ap, ◌∙◌, ap₂, inl, inr, ⊎_elim}
use Rattle.judging.proofs.Laws.{judging_laws}
use Rattle.judging.specs.Laws.{RangeLaws}
use Rattle.judging.specs.Nodes.{has_range, range_of}
use Rattle.masks.proofs.Tables.{fixed_store}
use Rattle.masks.specs.Tables.{at, Inside, Store, Fixed}
use Rattle.sheet.specs.Content.{Content, Valid}
use Rattle.sheet.specs.declared.form.Claim.{Claim}
use Rattle.sheet.specs.declared.form.Node.{Node}
use Rattle.sheet.specs.declared.form.Rule.{Rule}
use Rattle.sheet.specs.declared.form.Rule.TheVariants.{Plain, Conditional}
use Rattle.std.proofs.lemmas.Bool.{both_ways, cases_Bool, or_left, or_right, true≢false}
use Rattle.verdicts.proofs.Claims as claims
use Rattle.verdicts.proofs.Placed.{placed_rule}
use Rattle.verdicts.specs.Laws.{RuleLaws, VerdictLaws, claim_names, rule_names}
use Rattle.verdicts.specs.Placed.{Placed, PlacedRule}
use Rattle.verdicts.specs.Rules.{AllCertain, NonePossible, Means, all_certain, none_possible, claim_verdict, conditional, rule_verdict}
use Rattle.verdicts.specs.declared.values.Verdict.{Verdict}
use Rattle.verdicts.specs.declared.values.Verdict.TheVariants.{Sure, Open, Broken}

-- w keeps what v tells: where v is open, it tells nothing
abbrev Keeps : Verdict → Verdict → Type 0
Keeps Sure w = w ≡ Sure
Keeps Broken w = w ≡ Broken
Keeps Open w = Unit {0}

after_broken : (w : Verdict) → conditional Broken w ≡ Sure
after_broken Sure = refl
after_broken Open = refl
after_broken Broken = refl

before_sure : (v : Verdict) → conditional v Sure ≡ Sure
before_sure Sure = refl
before_sure Open = refl
before_sure Broken = refl

conditional_keeps : (v x w y : Verdict) → Keeps v x → Keeps w y → Keeps (conditional v w) (conditional x y)
conditional_keeps Sure x Sure y e f = ap (conditional x) f ∙ before_sure x
conditional_keeps Sure x Open y e f = tt
conditional_keeps Sure x Broken y e f = ap₂ conditional e f
conditional_keeps Open x Sure y e f = ap (conditional x) f ∙ before_sure x
conditional_keeps Open x Open y e f = tt
conditional_keeps Open x Broken y e f = tt
conditional_keeps Broken x Sure y e f = ap (conditional x) f ∙ before_sure x
conditional_keeps Broken x Open y e f = ap (λ (z : Verdict). conditional z y) e ∙ after_broken y
conditional_keeps Broken x Broken y e f = ap (λ (z : Verdict). conditional z y) e ∙ after_broken y

-- a rule of claims that are not open is not open
abbrev told : Verdict → Bool
told Sure = true
told Open = false
told Broken = true

conditional_decided : (v w : Verdict) → (v ≡ Open → ⊥) → (w ≡ Open → ⊥) → conditional v w ≡ Open → ⊥
conditional_decided Sure Sure f g e = f e
conditional_decided Sure Open f g e = g refl
conditional_decided Sure Broken f g e = g e
conditional_decided Open w f g e = f refl
conditional_decided Broken w f g e = true≢false (ap told (sym (after_broken w) ∙ e))

-- the verdict on a claim, by its two tests
keeps_by : (a b : Bool) (w : Verdict) → (a ≡ true → w ≡ Sure) → (b ≡ true → w ≡ Broken) → Keeps (cond a Sure (cond b Broken Open)) w
keeps_by true b w f g = f refl
keeps_by false true w f g = g refl
keeps_by false false w f g = tt

is_broken : (a b : Bool) → a ≡ false → b ≡ true → cond a Sure (cond b Broken Open) ≡ Broken
is_broken a b e f = ap₂ (λ (x y : Bool). cond x Sure (cond y Broken Open)) e f

not_open : (a b : Bool) → (a ≡ false → b ≡ true) → cond a Sure (cond b Broken Open) ≡ Open → ⊥
not_open true b f e = true≢false (ap told e)
not_open false b f e = true≢false (ap told (sym (ap (λ (y : Bool). cond y Broken Open) (f refl)) ∙ e))

-- what a verdict means of a claim
abbrev Tells : Verdict → List Node → List ℕ → Claim → Type 0
Tells Sure nodes D k = AllCertain nodes D k
Tells Broken nodes D k = NonePossible nodes D k
Tells Open nodes D k = (AllCertain nodes D k → ⊥) × (NonePossible nodes D k → ⊥)

tells_by : (nodes : List Node) (D : List ℕ) (k : Claim) (a b : Bool) → (a ≡ true → AllCertain nodes D k) → (b ≡ true → NonePossible nodes D k)
    → (a ≡ false → AllCertain nodes D k → ⊥) → (b ≡ false → NonePossible nodes D k → ⊥) → Tells (cond a Sure (cond b Broken Open)) nodes D k
tells_by nodes D k true b f g p q = f refl
tells_by nodes D k false true f g p q = g refl
tells_by nodes D k false false f g p q = (p refl, q refl)

-- and of a conditional rule
module _ (nodes : List Node) (D : List ℕ) (c d : Claim)
    (condition : AllCertain nodes D c → NonePossible nodes D c → ⊥) (consequence : AllCertain nodes D d → NonePossible nodes D d → ⊥) where
  conditional_means : (v w : Verdict) → Tells v nodes D c → Tells w nodes D d → Means (conditional v w) nodes D (Conditional c d)
  conditional_means Sure Sure p q = inr q
  conditional_means Sure Open p q = (λ s. ⊎_elim (condition p) q.0 s, λ b. q.1 b.1)
  conditional_means Sure Broken p q = (p, q)
  conditional_means Open Sure p q = inr q
  conditional_means Open Open p q = (λ s. ⊎_elim p.1 q.0 s, λ b. p.0 b.0)
  conditional_means Open Broken p q = (λ s. ⊎_elim p.1 (λ a. consequence a q) s, λ b. p.0 b.0)
  conditional_means Broken Sure p q = inl p
  conditional_means Broken Open p q = inl p
  conditional_means Broken Broken p q = inl p

module _ (n : ℕ) (nodes : List Node) (ranges : (i : ℕ) → has_range nodes i ≡ true → RangeLaws n (range_of nodes i)) where
  module _ (k : Claim) (p : Placed n nodes k) where
    laws : RangeLaws n (range_of nodes k.range)
    laws = ranges k.range p.range

    claim_keeps : (D E : List ℕ) → Store n D → Inside D E → Keeps (claim_verdict nodes E k) (claim_verdict nodes D k)
    claim_keeps D E store inside =
        let here = claims.certain_all n nodes k p.station laws D store in
        keeps_by _ _ _
        (λ e. ap (λ (x : Bool). cond x Sure (cond (none_possible nodes D k) Broken Open)) (claims.sure_stays n nodes k p.station laws D E store inside e))
        (λ e. let b = claims.broken_stays n nodes k p.station laws D E store inside e in
        is_broken _ _ (⊎_elim (λ t. absurd (claims.not_twice n nodes k p.station laws D store (here t) (claims.possible_none n nodes k p.station laws D store b))) (λ t. t) (cases_Bool (all_certain nodes D k))) b)

    claim_decided : (D : List ℕ) → Fixed n D → claim_verdict nodes D k ≡ Open → ⊥
    claim_decided D f = not_open _ _ (claims.decided n nodes k p.station laws D f)

    claim_framed : (D E : List ℕ) → ((s : ℕ) → claim_names nodes k s ≡ true → at D s ≡ at E s) → claim_verdict nodes D k ≡ claim_verdict nodes E k
    claim_framed D E f =
        ap₂ (λ (x y : Bool). cond x Sure (cond y Broken Open)) (claims.sure_framed n nodes k p.station laws D E f) (claims.broken_framed n nodes k p.station laws D E f)

    claim_tells : (D : List ℕ) → Store n D → Tells (claim_verdict nodes D k) nodes D k
    claim_tells D store =
        tells_by nodes D k _ _ (claims.certain_all n nodes k p.station laws D store) (claims.possible_none n nodes k p.station laws D store)
        (λ e a. both_ways _ e (claims.all_tested n nodes k p.station laws D store a)) (λ e a. both_ways _ e (claims.none_tested n nodes k p.station laws D store a))

  rule_keeps : (ρ : Rule) → PlacedRule n nodes ρ → (D E : List ℕ) → Store n D → Inside D E → Keeps (rule_verdict nodes E ρ) (rule_verdict nodes D ρ)
  rule_keeps (Plain k) p D E store inside = claim_keeps k p D E store inside
  rule_keeps (Conditional c d) p D E store inside =
      conditional_keeps _ _ _ _ (claim_keeps c p.0 D E store inside) (claim_keeps d p.1 D E store inside)

  rule_decided : (ρ : Rule) → PlacedRule n nodes ρ → (D : List ℕ) → Fixed n D → rule_verdict nodes D ρ ≡ Open → ⊥
  rule_decided (Plain k) p D f = claim_decided k p D f
  rule_decided (Conditional c d) p D f = conditional_decided _ _ (claim_decided c p.0 D f) (claim_decided d p.1 D f)

  rule_framed : (ρ : Rule) → PlacedRule n nodes ρ → (D E : List ℕ) → ((s : ℕ) → rule_names nodes ρ s ≡ true → at D s ≡ at E s) → rule_verdict nodes D ρ ≡ rule_verdict nodes E ρ
  rule_framed (Plain k) p D E f = claim_framed k p D E f
  rule_framed (Conditional c d) p D E f =
      ap₂ conditional (claim_framed c p.0 D E (λ s h. f s (or_left _ _ h))) (claim_framed d p.1 D E (λ s h. f s (or_right _ _ h)))

  -- a verdict in a store means what it should
  pub rule_means : (ρ : Rule) → PlacedRule n nodes ρ → (D : List ℕ) → Store n D → Means (rule_verdict nodes D ρ) nodes D ρ
  rule_means (Plain k) p D store = claim_means _ (claim_tells k p D store)
    where
      claim_means : (v : Verdict) → Tells v nodes D k → Means v nodes D (Plain k)
      claim_means Sure t = t
      claim_means Open t = t
      claim_means Broken t = t
  rule_means (Conditional c d) p D store =
      conditional_means nodes D c d (claims.not_twice n nodes c p.0.station (laws c p.0) D store) (claims.not_twice n nodes d p.1.station (laws d p.1) D store)
      _ _ (claim_tells c p.0 D store) (claim_tells d p.1 D store)

  -- a verdict that is kept
  still : (v w : Verdict) → Keeps v w → (v ≡ Sure → w ≡ Sure) × (v ≡ Broken → w ≡ Broken)
  still Sure w k = (λ e. k, λ e. k ∙ e)
  still Broken w k = (λ e. k ∙ e, λ e. k)
  still Open w k = (λ e. absurd (true≢false (ap told (sym e))), λ e. absurd (true≢false (ap told (sym e))))

  pub rule_laws : (ρ : Rule) → PlacedRule n nodes ρ → RuleLaws n nodes ρ
  rule_laws ρ p =
      record {
        sure_stays_sure = λ D E s i. (still _ _ (rule_keeps ρ p D E s i)).0;
        broken_stays_broken = λ D E s i. (still _ _ (rule_keeps ρ p D E s i)).1;
        sure_at_every_choice = λ D P c. (still _ _ (rule_keeps ρ p P D (fixed_store n P c.fixed) c.inside)).0;
        fixed_decides = λ D f. rule_decided ρ p D f;
        frame = λ D E f. rule_framed ρ p D E f;
      }

pub verdict_laws : (s : Content) → Valid s → VerdictLaws s
verdict_laws s v i h = rule_laws _ _ (judging_laws s v).ranges _ (placed_rule _ _ _ (v.rules_sound i h))
