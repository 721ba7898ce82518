-- Sets of channels, as numbers: channel c is in the set where the bit of weight 2 ^ c is set.
use Rattle.std.specs.Prelude.{◌≡◌, ℕ, zero, suc, ◌+◌, ◌/◌, ◌%◌, ◌^◌, ◌<◌, ◌≤◌, Bool, true, false, cond, ◌&&◌, ℤ, pos, negsuc, ◌==◌, nat_lt}

-- how many channels there are; they are numbered from 0
abbrev pub channels : ℕ
channels = 64

-- whether a whole number is a channel's
abbrev pub is_channel : ℤ → Bool
is_channel (pos c) = nat_lt c channels
is_channel (negsuc c) = false

-- whether channel c is in the set
unfoldable pub has : ℕ → ℕ → Bool
has m c = m / 2 ^ c % 2 == 1

-- whether a whole number is in the set: a negative one never is
abbrev pub holds : ℕ → ℤ → Bool
holds m (pos c) = has m c
holds m (negsuc c) = false

-- whether a whole number is the only one in the set
abbrev pub holds_only : ℕ → ℤ → Bool
holds_only m (pos c) = m == 2 ^ c
holds_only m (negsuc c) = false

-- everything in a is in b
abbrev pub Subset : ℕ → ℕ → Type 0
Subset a b = (c : ℕ) → has a c ≡ true → has b c ≡ true

-- a set of channels that is not empty
pub record SomeChannels (m : ℕ) : Type 0 where
  pub some : 0 < m
  pub below : m < 2 ^ channels

-- the lowest of the first k channels that is in the set; k where none is
unfoldable pub lowest : ℕ → ℕ → ℕ
lowest zero m = 0
lowest (suc k) m = cond (nat_lt (lowest k m) k) (lowest k m) (cond (has m k) k (suc k))

-- the highest of the first k channels that is in the set; 0 where none is
unfoldable pub highest : ℕ → ℕ → ℕ
highest zero m = 0
highest (suc k) m = cond (has m k) k (highest k m)

-- c is in the set, and nothing lower is
pub record LowestIn (m c : ℕ) : Type 0 where
  pub member : has m c ≡ true
  pub least : (d : ℕ) → has m d ≡ true → c ≤ d

-- c is in the set, and nothing higher is
pub record HighestIn (m c : ℕ) : Type 0 where
  pub member : has m c ≡ true
  pub greatest : (d : ℕ) → has m d ≡ true → d ≤ c

-- whether each of the first k channels passes a test
unfoldable pub every : ℕ → (ℕ → Bool) → Bool
every zero p = true
every (suc k) p = every k p && p k

-- the set of those among the first k channels that pass a test
unfoldable pub those : ℕ → (ℕ → Bool) → ℕ
those zero p = 0
those (suc k) p = cond (p k) (2 ^ k + those k p) (those k p)
