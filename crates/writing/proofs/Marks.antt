-- Records that bear the mark of their sort.
use Rattle.std.proofs.Common.{◌≡◌, ℕ, List, length, Some, arith}
use Rattle.std.proofs.lemmas.Bool.Decides.{nat_tests}
use Rattle.records.specs.Records.{Sort, station, node, rule, size, marked}
use Rattle.reading.specs.Decoding.{byte}

-- a record of its sort's size that bears its mark
pub record Marked (s : Sort) (x : List ℕ) : Type 0 where
  pub sized : length x ≡ size s
  pub mark : marked (byte x 0) (byte x 1) ≡ Some s

-- the two letters of a mark
abbrev pub letters : Sort → ℕ × ℕ
letters station = (83, 84)
letters node = (78, 68)
letters rule = (82, 85)

pub mark_bytes : (a b : ℕ) (s : Sort) → marked a b ≡ Some s → (a ≡ (letters s).0) × (b ≡ (letters s).1)
mark_bytes a b station e = grind (arith, nat_tests)
mark_bytes a b node e = grind (arith, nat_tests)
mark_bytes a b rule e = grind (arith, nat_tests)
