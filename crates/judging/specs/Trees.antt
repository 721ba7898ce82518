-- Terms and ranges as trees: what a sheet's nodes are about, apart from their numbers.
use Rattle.std.specs.Prelude.{ℕ, Bool, false, ◌||◌, ℤ, ◌==◌}

-- a term: an expression for a whole number
pub data Term : Type 0 where
  number : ℤ → Term
  station : ℕ → Term
  sum : Term → Term → Term
  difference : Term → Term → Term
  multiple : ℤ → Term → Term
  quotient : Term → ℤ → Term
  remainder : Term → ℤ → Term

-- a range: an expression for a set of whole numbers
pub data Range : Type 0 where
  between : Term → Term → Range
  at_least : Term → Range
  at_most : Term → Range
  channels_of : ℕ → Range
  union : Range → Range → Range
  intersection : Range → Range → Range
  complement : Range → Range
  shift : Range → Term → Range

-- whether a term names station s
abbrev pub term_names : Term → ℕ → Bool
term_names (number k) s = false
term_names (station z) s = z == s
term_names (sum a b) s = term_names a s || term_names b s
term_names (difference a b) s = term_names a s || term_names b s
term_names (multiple k a) s = term_names a s
term_names (quotient a k) s = term_names a s
term_names (remainder a k) s = term_names a s

-- whether a range names station s
abbrev pub names : Range → ℕ → Bool
names (between a b) s = term_names a s || term_names b s
names (at_least a) s = term_names a s
names (at_most a) s = term_names a s
names (channels_of z) s = z == s
names (union a b) s = names a s || names b s
names (intersection a b) s = names a s || names b s
names (complement a) s = names a s
names (shift a b) s = names a s || term_names b s
