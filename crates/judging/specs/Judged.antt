-- What a table of channels says of a term and of a range.
-- A station with several channels has no one value, so a term has a least and a greatest value, and a whole number is possible in a range, certain in it, or neither.
use Rattle.std.specs.Prelude.{ℕ, Bool, cond, not, ◌&&◌, ◌||◌, List, ℤ, pos, ◌+ℤ◌, ◌-ℤ◌, ◌*ℤ◌, int_le, int_lt}
use Rattle.std.specs.Int.{int_div_euclid, int_rem_euclid}
use Rattle.masks.specs.Sets.{channels, has, holds, holds_only, lowest, highest, those}
use Rattle.masks.specs.Tables.{at}
use Rattle.judging.specs.Trees.{Term, number, station, sum, difference, multiple, quotient, remainder}
use Rattle.judging.specs.Trees.{Range, between, at_least, at_most, channels_of, union, intersection, complement, shift}

-- whether two whole numbers are the same
abbrev pub same : ℤ → ℤ → Bool
same x y = int_le x y && int_le y x

-- a negative factor swaps the ends; quotients are rounded down; a remainder is known where its term has one value, and otherwise runs from 0 to k - 1
abbrev mutual
  -- the least value that a term may take
  pub least : List ℕ → Term → ℤ
  least D (number k) = k
  least D (station s) = pos (lowest channels (at D s))
  least D (sum a b) = least D a +ℤ least D b
  least D (difference a b) = least D a -ℤ greatest D b
  least D (multiple k a) = cond (int_lt k (pos 0)) (k *ℤ greatest D a) (k *ℤ least D a)
  least D (quotient a k) = int_div_euclid (least D a) k
  least D (remainder a k) = cond (same (least D a) (greatest D a)) (int_rem_euclid (least D a) k) (pos 0)

  -- the greatest value that a term may take
  pub greatest : List ℕ → Term → ℤ
  greatest D (number k) = k
  greatest D (station s) = pos (highest channels (at D s))
  greatest D (sum a b) = greatest D a +ℤ greatest D b
  greatest D (difference a b) = greatest D a -ℤ least D b
  greatest D (multiple k a) = cond (int_lt k (pos 0)) (k *ℤ least D a) (k *ℤ greatest D a)
  greatest D (quotient a k) = int_div_euclid (greatest D a) k
  greatest D (remainder a k) = cond (same (least D a) (greatest D a)) (int_rem_euclid (least D a) k) (k -ℤ pos 1)

-- whether a term has one value
abbrev pub fixed : List ℕ → Term → Bool
fixed D t = same (least D t) (greatest D t)

-- in a complement, what is not certain inside is possible, and what is not possible inside is certain; where the shift is not known, everything is possible and nothing certain
abbrev mutual
  -- whether v may turn out to be in the range
  pub possible : List ℕ → Range → ℤ → Bool
  possible D (between a b) v = int_le (least D a) v && int_le v (greatest D b)
  possible D (at_least a) v = int_le (least D a) v
  possible D (at_most a) v = int_le v (greatest D a)
  possible D (channels_of s) v = holds (at D s) v
  possible D (union a b) v = possible D a v || possible D b v
  possible D (intersection a b) v = possible D a v && possible D b v
  possible D (complement a) v = not (certain D a v)
  possible D (shift a b) v = not (fixed D b) || possible D a (v -ℤ least D b)

  -- whether v is in the range whatever becomes of the channels
  pub certain : List ℕ → Range → ℤ → Bool
  certain D (between a b) v = int_le (greatest D a) v && int_le v (least D b)
  certain D (at_least a) v = int_le (greatest D a) v
  certain D (at_most a) v = int_le v (least D a)
  certain D (channels_of s) v = holds_only (at D s) v
  certain D (union a b) v = certain D a v || certain D b v
  certain D (intersection a b) v = certain D a v && certain D b v
  certain D (complement a) v = not (possible D a v)
  certain D (shift a b) v = fixed D b && certain D a (v -ℤ least D b)

-- the channels of a set that are possible in a range
abbrev pub possible_among : List ℕ → Range → ℕ → ℕ
possible_among D r m = those channels (λ c. has m c && possible D r (pos c))

-- the channels of a set that are certain in a range
abbrev pub certain_among : List ℕ → Range → ℕ → ℕ
certain_among D r m = those channels (λ c. has m c && certain D r (pos c))
