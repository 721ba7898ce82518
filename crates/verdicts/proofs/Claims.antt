-- The laws of judging, for claims.
use Rattle.std.proofs.Common.{◌≡◌, ℕ, ◌<◌, Bool, true, false, not, ◌&&◌, ◌||◌, List, ℤ, pos, sym, refl, ap, ◌∙◌, subst, ap₂, ⊎_elim}
use Rattle.judging.specs.Judged.{possible, certain}
use Rattle.judging.specs.Laws.{RangeLaws}
use Rattle.judging.specs.Nodes.{range_of}
use Rattle.masks.proofs.Sets.{every-at, every_from, every_fails, every-same, has_one, member_below, some_member}
use Rattle.masks.specs.Sets.{channels, has}
use Rattle.masks.specs.Tables.{at, Inside, Store, Fixed}
use Rattle.sheet.specs.declared.form.Claim.{Claim}
use Rattle.sheet.specs.declared.form.Node.{Node}
use Rattle.std.proofs.lemmas.Bool.{both_ways, cases_Bool, or_cases, or_left, or_parts, or_right, not-true, not-false, not_from_false, eq-eqb, eqb-true}
use Rattle.verdicts.specs.Laws.{claim_names}
use Rattle.verdicts.specs.Rules.{AllCertain, NonePossible, all_certain, none_possible}

-- a channel that a passed test speaks of
either_way : (x y : Bool) → (not x || y) ≡ true → x ≡ true → y ≡ true
either_way x y h e = ⊎_elim (λ n. absurd (both_ways x (not-true x n) e)) (λ t. t) (or_cases (not x) y h)

not_both : (x y : Bool) → not (x && y) ≡ true → x ≡ true → y ≡ false
not_both true y h e = not-true y h
not_both false y h e = absurd (both_ways false refl e)

sooner : (x y : Bool) → (x ≡ true → y ≡ true) → (not x || y) ≡ true
sooner true y f = f refl
sooner false y f = refl

neither : (x y : Bool) → (x ≡ true → y ≡ false) → not (x && y) ≡ true
neither true y f = not_from_false y (f refl)
neither false y f = refl

module _ (n : ℕ) (nodes : List Node) (k : Claim) (station : k.station < n) (laws : RangeLaws n (range_of nodes k.range)) where
  module _ (D : List ℕ) (store : Store n D) where
    below : (c : ℕ) → has (at D k.station) c ≡ true → c < channels
    below c h = member_below channels (at D k.station) c (store k.station station).below h

    -- the tests say what they test
    pub certain_all : all_certain nodes D k ≡ true → AllCertain nodes D k
    certain_all e c h = either_way _ _ (every-at channels _ e c (below c h)) h

    pub all_tested : AllCertain nodes D k → all_certain nodes D k ≡ true
    all_tested f = every_from channels _ (λ c l. sooner _ _ (f c))

    pub possible_none : none_possible nodes D k ≡ true → NonePossible nodes D k
    possible_none e c h = not_both _ _ (every-at channels _ e c (below c h)) h

    pub none_tested : NonePossible nodes D k → none_possible nodes D k ≡ true
    none_tested f = every_from channels _ (λ c l. neither _ _ (f c))

    -- a claim in a store is not both sure and broken
    pub not_twice : AllCertain nodes D k → NonePossible nodes D k → ⊥
    not_twice f g =
        let m = some_member (at D k.station) (store k.station station).some in
        both_ways _ (g m.0 m.1) (laws.certain_is_possible D store (pos m.0) (f m.0 m.1))

  -- in a smaller store a sure claim is sure, and a broken one broken
  module _ (D E : List ℕ) (store : Store n D) (inside : Inside D E) where
    pub sure_stays : all_certain nodes E k ≡ true → all_certain nodes D k ≡ true
    sure_stays e = every_from channels _ (λ c l. sooner _ _ (λ h. laws.certain_grows D E store inside (pos c) (either_way _ _ (every-at channels _ e c l) (inside k.station c h))))

    pub broken_stays : none_possible nodes E k ≡ true → none_possible nodes D k ≡ true
    broken_stays e = every_from channels _ (λ c l. neither _ _ (λ h. ⊎_elim
        (λ t. absurd (both_ways _ (not_both _ _ (every-at channels _ e c l) (inside k.station c h)) (laws.possible_shrinks D E store inside (pos c) t)))
        (λ t. t) (cases_Bool (possible D (range_of nodes k.range) (pos c)))))

  -- where each station has one channel, a claim that is not sure is broken
  pub decided : (D : List ℕ) → Fixed n D → all_certain nodes D k ≡ false → none_possible nodes D k ≡ true
  decided D f e =
      let r = range_of nodes k.range in
      let o = f k.station station in
      let w = every_fails channels _ e in
      let q = or_parts _ _ w.2 in
      let alone : (c : ℕ) → has (at D k.station) c ≡ true → o.0 ≡ c =
      λ c h. eqb-true o.0 c (sym (has_one o.0 c) ∙ ap (λ (m : ℕ). has m c) (sym o.2) ∙ h) in
      let same : (c : ℕ) → has (at D k.station) c ≡ true → w.0 ≡ c = λ c h. sym (alone w.0 (not-false _ q.0)) ∙ alone c h in
      every_from channels _ (λ c l. neither _ _ (λ h. laws.fixed_agrees D f (pos c) ∙ subst (λ (x : ℕ). certain D r (pos x) ≡ false) (same c h) q.1))

  -- only the stations that a claim names are looked at
  module _ (D E : List ℕ) (agree : (s : ℕ) → claim_names nodes k s ≡ true → at D s ≡ at E s) where
    there : at D k.station ≡ at E k.station
    there = agree k.station (or_left _ _ (eq-eqb k.station k.station refl))

    within : (v : ℤ) → (possible D (range_of nodes k.range) v ≡ possible E (range_of nodes k.range) v) × (certain D (range_of nodes k.range) v ≡ certain E (range_of nodes k.range) v)
    within = laws.frame D E (λ s h. agree s (or_right _ _ h))

    pub sure_framed : all_certain nodes D k ≡ all_certain nodes E k
    sure_framed = every-same channels _ _ (λ c l. ap₂ (λ (m : ℕ) (y : Bool). not (has m c) || y) there (within (pos c)).1)

    pub broken_framed : none_possible nodes D k ≡ none_possible nodes E k
    broken_framed = every-same channels _ _ (λ c l. ap₂ (λ (m : ℕ) (y : Bool). not (has m c && y)) there (within (pos c)).0)
