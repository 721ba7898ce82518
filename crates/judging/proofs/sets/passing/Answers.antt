use Rattle.std.proofs.Common.{◌≡◌, ℕ, Bool, true, false, ◌&&◌, sym, ap, ◌∙◌, ap₂, arith, rules}
use Rattle.judging.proofs.Among.{none_yet, with_channel, without_channel, all_seen}
use Rattle.judging.proofs.sets.passing.Goals as goal
use Rattle.judging.proofs.sets.passing.Goals.{then-has+then-test, else-has, else-has-via-then-has+else-test, else-has-via-else-has}
use Rattle.masks.specs.Sets.{has}

pub loop-c-init : goal.loop-c-init
loop-c-init g c p f = none_yet _

pub loop-c-preserved : goal.loop-c-preserved
loop-c-preserved g c p f =
    let k = c.loop-c.c in
    let word = c.args.word in
    let q : ℕ → Bool = λ x. has word x && p x in
    elim c.if-has.branch [
      | then-has+then-test w ↦
          let h : true ≡ has word k = search rules in
          let t : true ≡ p k = sym w.if-test.true ∙ f k w.test.result c.loop-c-test.true w.test.ensures in
          w.set-is ∙ with_channel q k c.loop-c.set c.loop-c-test.true (c.loop-c.invariant p f) (ap₂ (λ a b. a && b) h t)
      | else-has w ↦
          let no : false ≡ q k = elim w.else-has.branch [
            | else-has-via-then-has+else-test w' ↦
                let h : true ≡ has word k = search rules in
                let t : false ≡ p k = sym w'.if-test.false ∙ f k w'.test.result c.loop-c-test.true w'.test.ensures in
                ap₂ (λ a b. a && b) h t
            | else-has-via-else-has w' ↦ let h : false ≡ has word k = search rules in ap (λ a. a && p k) h
          ] in
          w.set-is ∙ without_channel q k c.loop-c.set (c.loop-c.invariant p f) no
    ]

pub returns : goal.returns
returns g c p f = all_seen _ c.loop-c.c _ (omega arith) (c.loop-c.invariant p f)
