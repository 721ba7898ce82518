-- What is answered when a node of a sheet is asked about.
use Rattle.std.specs.Prelude.{ℕ, Bool, true, false, List, ℤ, Some, None, Option}
use Rattle.sheet.specs.Content.{Content}
use Rattle.judging.specs.Judged.{least, greatest, possible, certain, possible_among, certain_among}
use Rattle.judging.specs.Nodes.{has_term, has_range, term_of, range_of}
use Rattle.judging.specs.Trees.{Term}
use Rattle.judging.specs.declared.values.Ends.{Ends}

-- an answer where there is one to give
abbrev pub answer_if : {A : Type 0} → Bool → A → Option A
answer_if true x = Some x
answer_if false x = None

-- both ends of a term
abbrev pub ends_of : List ℕ → Term → Ends
ends_of D t = record { least = least D t; greatest = greatest D t }

-- the ends of node i, if it is a term
abbrev pub ends_on : Content → List ℕ → ℕ → Option Ends
ends_on s D i = answer_if (has_term s.nodes i) (ends_of D (term_of s.nodes i))

-- whether v is possible in node i, if it is a range
abbrev pub possible_on : Content → List ℕ → ℕ → ℤ → Option Bool
possible_on s D i v = answer_if (has_range s.nodes i) (possible D (range_of s.nodes i) v)

-- whether v is certain in node i, if it is a range
abbrev pub certain_on : Content → List ℕ → ℕ → ℤ → Option Bool
certain_on s D i v = answer_if (has_range s.nodes i) (certain D (range_of s.nodes i) v)

-- the channels of a set that are possible in node i, if it is a range
abbrev pub possible_among_on : Content → List ℕ → ℕ → ℕ → Option ℕ
possible_among_on s D i m = answer_if (has_range s.nodes i) (possible_among D (range_of s.nodes i) m)

-- the channels of a set that are certain in node i, if it is a range
abbrev pub certain_among_on : Content → List ℕ → ℕ → ℕ → Option ℕ
certain_among_on s D i m = answer_if (has_range s.nodes i) (certain_among D (range_of s.nodes i) m)
