-- A list with zeros behind it reads as the list alone.
use Rattle.std.proofs.Common.{◌≡◌, ℕ, ◌-◌, List, ◌++◌, drop, length, get_or, replicate, sym, refl, ap, ◌∙◌, ⊎_elim, arith}
use Rattle.std.proofs.lemmas.List.{drop-replicate, length-replicate, get_or_append_left, get_or-append_right, get_or_past, get_or-replicate}
use Rattle.std.proofs.lemmas.Bool.{cases_lt}

zeros : (n i : ℕ) → let r : ℕ = get_or {A = ℕ} (replicate n 0) i 0 in r ≡ 0
zeros n i = ⊎_elim (λ h. get_or-replicate n i 0 0 h) (λ h. get_or_past (replicate n 0) i 0 (omega (arith, length-replicate {A = ℕ} n 0))) (cases_lt i n)

pub before_zeros : (xs : List ℕ) (m n i : ℕ) → get_or (xs ++ drop m (replicate n 0)) i 0 ≡ get_or xs i 0
before_zeros xs m n i =
    ap (λ (ys : List ℕ). get_or (xs ++ ys) i 0) (drop-replicate m n 0)
    ∙ ⊎_elim (λ h. get_or_append_left xs _ 0 i h)
    (λ h. get_or-append_right xs _ (length xs) i 0 refl h ∙ zeros (n - m) (i - length xs) ∙ sym (get_or_past xs i 0 h))
    (cases_lt i (length xs))
