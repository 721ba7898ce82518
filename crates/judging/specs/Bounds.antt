-- How far a term's values can lie from 0.
use Rattle.std.specs.Prelude.{ℕ, ◌-◌, ◌*◌, ◌^◌, ◌≤◌, unsigned_abs}
use Rattle.judging.specs.declared.values.Ends.{Ends}

-- the bound on a term of depth d: a number lies within 1000, and each step up takes at most 16 times as much
unfoldable pub bound : ℕ → ℕ
bound d = 1000 * 16 ^ (d - 1)

-- both ends lie within m of 0
pub record Bounded (m : ℕ) (e : Ends) : Type 0 where
  pub low : unsigned_abs e.least ≤ m
  pub high : unsigned_abs e.greatest ≤ m

-- so do 16 times both ends
pub record Sixteenth (m : ℕ) (e : Ends) : Type 0 where
  pub low : 16 * unsigned_abs e.least ≤ m
  pub high : 16 * unsigned_abs e.greatest ≤ m
