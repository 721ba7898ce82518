-- Tables: a set of channels for each station.
use Rattle.std.specs.Prelude.{◌≡◌, ℕ, ◌^◌, ◌<◌, List, slice_index}
use Rattle.masks.specs.Sets.{channels, Subset, SomeChannels}

-- the channels of station s; none where the table has no such station
abbrev pub at : List ℕ → ℕ → ℕ
at D s = slice_index D s

-- every channel of D at a station is one of E's there
abbrev pub Inside : List ℕ → List ℕ → Type 0
Inside D E = (s : ℕ) → Subset (at D s) (at E s)

-- a store for n stations: each of them has some channels
abbrev pub Store : ℕ → List ℕ → Type 0
Store n D = (s : ℕ) → s < n → SomeChannels (at D s)

-- each of n stations has just one channel
abbrev pub Fixed : ℕ → List ℕ → Type 0
Fixed n D = (s : ℕ) → s < n → (c : ℕ) × (c < channels) × (at D s ≡ 2 ^ c)

-- P picks one of D's channels for each of n stations
pub record Choice (n : ℕ) (D P : List ℕ) : Type 0 where
  pub inside : Inside P D
  pub fixed : Fixed n P
