-- The channels of a set that pass a test.
use Rattle.std.specs.Prelude.{◌≡◌, ℕ, ◌<◌, Bool, ◌&&◌}
use Rattle.masks.specs.Sets.{channels, has, those}

-- the channels of a set that pass a test
abbrev pub passing : ℕ → (ℕ → Bool) → ℕ
passing m p = those channels (λ c. has m c && p c)

-- a relation of channels and answers computes a test
abbrev pub Computes : (ℕ → Bool → Type 0) → (ℕ → Bool) → Type 0
Computes answers p = (c : ℕ) (r : Bool) → c < channels → answers c r → r ≡ p c
