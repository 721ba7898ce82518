-- Narrowing one station, narrowing again and again, and that a smaller store has a smaller sum.
use Rattle.std.proofs.Common.{◌≡◌, ℕ, suc, ◌<◌, ◌≤◌, List, [], ◌∷◌, length, get_or, set, sym, refl, ◌∙◌, subst, ap₂, ⊎_elim, arith, length-set, get_or-set_other, get_or-set_same}
use Rattle.std.proofs.Math.Seq.{set_out}
use Rattle.std.proofs.lemmas.Bool.{cases_eq, cases_lt}
use Rattle.masks.proofs.Sets.{subset_le}
use Rattle.masks.proofs.Tables.{inside_self, inside_through}
use Rattle.masks.specs.Sets.{Subset, SomeChannels}
use Rattle.masks.specs.Tables.{at, Inside}
use Rattle.settling.specs.Store.{Narrows, total}

-- what holds of a changed place and of the others holds of each
by_place : (P : ℕ → ℕ → Type 0) (D : List ℕ) (s w : ℕ) → s < length D → P s w → ((t : ℕ) → P t (get_or D t 0)) → (t : ℕ) → P t (get_or (set D s w) t 0)
by_place P D s w h p q t =
    ⊎_elim (λ e. subst (λ (u : ℕ). P u (get_or (set D s w) u 0)) (sym e) (subst (P s) (sym (get_or-set_same D s w 0 h)) p))
    (λ ne. subst (P t) (sym (get_or-set_other D s t w 0 ne)) (q t)) (cases_eq t s)

pub narrows_self : (n : ℕ) (D : List ℕ) → Narrows n D D
narrows_self n D = record { long = refl; inside = inside_self D; filled = λ f. f }

-- one station's set becomes a part of what it was, and not empty; a table without that station stays as it is
pub narrows_one : (n : ℕ) (D : List ℕ) (s w : ℕ) → Subset w (at D s) → SomeChannels w → Narrows n D (set D s w)
narrows_one n D s w part some =
    ⊎_elim
    (λ h. record {
      long = length-set D s w;
      inside = by_place (λ (t x : ℕ). Subset x (at D t)) D s w h part (inside_self D);
      filled = λ f. by_place (λ (t x : ℕ). t < n → SomeChannels x) D s w h (λ _. some) f;
    })
    (λ out. subst (Narrows n D) (sym (set_out D s w out)) (narrows_self n D))
    (cases_lt s (length D))

pub narrows_through : (n : ℕ) (C D E : List ℕ) → Narrows n C D → Narrows n D E → Narrows n C E
narrows_through n C D E p q =
    record { long = q.long ∙ p.long; inside = inside_through E D C q.inside p.inside; filled = λ f. q.filled (p.filled f) }

total-le : (xs ys : List ℕ) → length xs ≡ length ys → ((s : ℕ) → get_or ys s 0 ≤ get_or xs s 0) → total ys ≤ total xs
unfolding total
total-le [] [] l h = omega arith
total-le [] (y ∷ ys) l h = absurd (omega arith)
total-le (x ∷ xs) [] l h = absurd (omega arith)
total-le (x ∷ xs) (y ∷ ys) l h = omega (arith, h 0, total-le xs ys (omega arith) (λ s. h (suc s)))

total-lt : (xs ys : List ℕ) → length xs ≡ length ys → ((s : ℕ) → get_or ys s 0 ≤ get_or xs s 0) → (ys ≡ xs → ⊥) → total ys < total xs
unfolding total
total-lt [] [] l h ne = absurd (ne refl)
total-lt [] (y ∷ ys) l h ne = absurd (omega arith)
total-lt (x ∷ xs) [] l h ne = absurd (omega arith)
total-lt (x ∷ xs) (y ∷ ys) l h ne =
    ⊎_elim (λ e. omega (arith, total-lt xs ys (omega arith) (λ s. h (suc s)) (λ f. ne (ap₂ (λ (a : ℕ) (b : List ℕ). a ∷ b) e f))))
    (λ n. omega (arith, h 0, n, total-le xs ys (omega arith) (λ s. h (suc s)))) (cases_eq y x)

-- a store inside another that is not the same has a smaller sum
pub total_falls : (D E : List ℕ) → length D ≡ length E → Inside E D → (E ≡ D → ⊥) → total E < total D
total_falls D E l i ne = total-lt D E l (λ s. subset_le (at E s) (at D s) (i s)) ne
