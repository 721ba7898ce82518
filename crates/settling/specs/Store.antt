-- What narrowing does to a table.
use Rattle.std.specs.Prelude.{◌≡◌, ℕ, ◌+◌, List, [], ◌∷◌, length}
use Rattle.masks.specs.Tables.{Inside, Store}

-- D is E with channels taken away, though not a station's last
pub record Narrows (n : ℕ) (E D : List ℕ) : Type 0 where
  pub long : length D ≡ length E
  pub inside : Inside D E
  pub filled : Store n E → Store n D

-- the sum of the sets as numbers
unfoldable pub total : List ℕ → ℕ
total [] = 0
total (x ∷ xs) = x + total xs
