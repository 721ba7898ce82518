-- A set made channel by channel of those that pass a test.
use Rattle.std.proofs.Common.{◌≡◌, ℕ, ◌+◌, ◌*◌, ◌%◌, ◌^◌, ◌<◌, Bool, true, false, sym, refl, ap, ◌∙◌, ap₂, add-one}
use lib.Bits.{bit_or}
use Rattle.masks.proofs.Sets.{those_with, those_without}
use Rattle.masks.specs.Sets.{channels, those}
use Rattle.std.proofs.lemmas.Nat.{one_shl}

pub none_yet : (p : ℕ → Bool) → 0 ≡ those 0 p
unfolding those
none_yet p = refl

module _ (p : ℕ → Bool) (c m : ℕ) where
  pub with_channel : c < 64 → m ≡ those c p → true ≡ p c → bit_or m ((1 * 2 ^ c) % 2 ^ 64) ≡ those (c + 1) p
  with_channel h e t = ap₂ bit_or e (one_shl c 64 h) ∙ those_with c p (sym t) ∙ ap (λ (k : ℕ). those k p) (sym (add-one c))

  pub without_channel : m ≡ those c p → false ≡ p c → m ≡ those (c + 1) p
  without_channel e t = e ∙ those_without c p (sym t) ∙ ap (λ (k : ℕ). those k p) (sym (add-one c))

  pub all_seen : c ≡ channels → m ≡ those c p → m ≡ those channels p
  all_seen h e = e ∙ ap (λ (k : ℕ). those k p) h
