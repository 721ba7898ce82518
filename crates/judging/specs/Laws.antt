-- The laws of judging. What settles, tries and lists channels rests on these, not on what least, greatest, possible and certain are.
use Rattle.std.specs.Prelude.{◌≡◌, ℕ, ◌≤◌, true, List, length, ℤ, pos, ◌+ℤ◌, ◌*ℤ◌, ◌≤ℤ◌, ◌<ℤ◌}
use Rattle.masks.specs.Tables.{at, Inside, Store, Fixed}
use Rattle.sheet.specs.Content.{Content}
use Rattle.std.specs.Int.{int_div_euclid, int_rem_euclid}
use Rattle.judging.specs.Answers.{ends_of}
use Rattle.judging.specs.Bounds.{Bounded}
use Rattle.judging.specs.Judged.{least, greatest, possible, certain}
use Rattle.judging.specs.Nodes.{has_term, has_range, term_of, range_of}
use Rattle.judging.specs.Trees.{Term, Range, term_names, names}

-- the laws of a term on a sheet of n stations
pub record TermLaws (n : ℕ) (t : Term) : Type 0 where
  -- in a smaller store the least value is no lower
  pub least_rises : (D E : List ℕ) → Store n D → Inside D E → least E t ≤ℤ least D t
  -- and the greatest no higher
  pub greatest_falls : (D E : List ℕ) → Store n D → Inside D E → greatest D t ≤ℤ greatest E t
  -- in a store the least value is not above the greatest
  pub ends_in_order : (D : List ℕ) → Store n D → least D t ≤ℤ greatest D t
  -- where each station has one channel, they are the same
  pub fixed_agrees : (D : List ℕ) → Fixed n D → least D t ≡ greatest D t
  -- only the stations that the term names are looked at
  pub frame : (D E : List ℕ) → ((s : ℕ) → term_names t s ≡ true → at D s ≡ at E s) → (least D t ≡ least E t) × (greatest D t ≡ greatest E t)

-- the laws of a range on a sheet of n stations
pub record RangeLaws (n : ℕ) (r : Range) : Type 0 where
  -- in a smaller store fewer numbers are possible
  pub possible_shrinks : (D E : List ℕ) → Store n D → Inside D E → (v : ℤ) → possible D r v ≡ true → possible E r v ≡ true
  -- and more are certain
  pub certain_grows : (D E : List ℕ) → Store n D → Inside D E → (v : ℤ) → certain E r v ≡ true → certain D r v ≡ true
  -- in a store what is certain is possible
  pub certain_is_possible : (D : List ℕ) → Store n D → (v : ℤ) → certain D r v ≡ true → possible D r v ≡ true
  -- where each station has one channel, the two agree
  pub fixed_agrees : (D : List ℕ) → Fixed n D → (v : ℤ) → possible D r v ≡ certain D r v
  -- only the stations that the range names are looked at
  pub frame : (D E : List ℕ) → ((s : ℕ) → names r s ≡ true → at D s ≡ at E s) → (v : ℤ) → (possible D r v ≡ possible E r v) × (certain D r v ≡ certain E r v)

-- what quotients and remainders are, for negative numbers too: x is k times the quotient and the remainder over, which is one of 0 to k - 1
pub record Division (x : ℤ) (k : ℕ) : Type 0 where
  pub sum : x ≡ (pos k *ℤ int_div_euclid x (pos k)) +ℤ int_rem_euclid x (pos k)
  pub low : pos 0 ≤ℤ int_rem_euclid x (pos k)
  pub high : int_rem_euclid x (pos k) <ℤ pos k

-- the laws of all terms and ranges of a sheet
pub record JudgingLaws (s : Content) : Type 0 where
  pub terms : (i : ℕ) → has_term s.nodes i ≡ true → TermLaws (length s.stations) (term_of s.nodes i)
  pub ranges : (i : ℕ) → has_range s.nodes i ≡ true → RangeLaws (length s.stations) (range_of s.nodes i)
  -- no term of a sheet leaves these limits, whatever the channels
  pub bounded : (i : ℕ) → has_term s.nodes i ≡ true → (D : List ℕ) → Bounded 268435456000 (ends_of D (term_of s.nodes i))
  pub division : (x : ℤ) (k : ℕ) → 1 ≤ k → Division x k
