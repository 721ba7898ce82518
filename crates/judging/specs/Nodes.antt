-- The tree that a node of a sheet stands for.
use Rattle.std.specs.Prelude.{ℕ, zero, suc, Bool, not, ◌&&◌, List, length, pos, nat_lt, slice_index_or}
use Rattle.sheet.specs.Kinds.{is_term}
use Rattle.sheet.specs.Sound.{missing_node}
use Rattle.sheet.specs.declared.form.Node.{Node}
use Rattle.sheet.specs.declared.form.Form.{Form}
use Rattle.sheet.specs.declared.form.Form.TheVariants.{Number, Station, Sum, Difference, Multiple, Quotient, Remainder, Between, AtLeast, AtMost, Channels, Union, Intersection, Complement, Shift}
use Rattle.judging.specs.Trees.{Term, number, station, sum, difference, multiple, quotient, remainder}
use Rattle.judging.specs.Trees.{Range, between, at_least, at_most, channels_of, union, intersection, complement, shift}

-- read where a range is taken for a term
abbrev pub no_term : Term
no_term = number (pos 0)

-- read where a term is taken for a range
abbrev pub no_range : Range
no_range = at_least no_term

-- the term that a node says, by the terms of the nodes that it names
abbrev pub as_term : (ℕ → Term) → Form → Term
as_term t (Number k) = number k
as_term t (Station s) = station s
as_term t (Sum a b) = sum (t a) (t b)
as_term t (Difference a b) = difference (t a) (t b)
as_term t (Multiple k a) = multiple k (t a)
as_term t (Quotient a k) = quotient (t a) k
as_term t (Remainder a k) = remainder (t a) k
as_term t (Between a b) = no_term
as_term t (AtLeast a) = no_term
as_term t (AtMost a) = no_term
as_term t (Channels s) = no_term
as_term t (Union a b) = no_term
as_term t (Intersection a b) = no_term
as_term t (Complement a) = no_term
as_term t (Shift a b) = no_term

-- the range that a node says, by the terms and the ranges of the nodes that it names
abbrev pub as_range : (ℕ → Term) → (ℕ → Range) → Form → Range
as_range t r (Number k) = no_range
as_range t r (Station s) = no_range
as_range t r (Sum a b) = no_range
as_range t r (Difference a b) = no_range
as_range t r (Multiple k a) = no_range
as_range t r (Quotient a k) = no_range
as_range t r (Remainder a k) = no_range
as_range t r (Between a b) = between (t a) (t b)
as_range t r (AtLeast a) = at_least (t a)
as_range t r (AtMost a) = at_most (t a)
as_range t r (Channels s) = channels_of s
as_range t r (Union a b) = union (r a) (r b)
as_range t r (Intersection a b) = intersection (r a) (r b)
as_range t r (Complement a) = complement (r a)
as_range t r (Shift a b) = shift (r a) (t b)

-- node i as a term, looking at most f nodes deep
unfoldable pub term_within : ℕ → List Node → ℕ → Term
term_within zero nodes i = no_term
term_within (suc f) nodes i = as_term (term_within f nodes) (slice_index_or nodes i missing_node).form

-- the term that node i stands for; it names only nodes before it, so i + 1 is deep enough
unfoldable pub term_of : List Node → ℕ → Term
term_of nodes i = term_within (suc i) nodes i

-- node i as a range, looking at most f nodes deep
unfoldable pub range_within : ℕ → List Node → ℕ → Range
range_within zero nodes i = no_range
range_within (suc f) nodes i = as_range (term_of nodes) (range_within f nodes) (slice_index_or nodes i missing_node).form

-- the range that node i stands for
unfoldable pub range_of : List Node → ℕ → Range
range_of nodes i = range_within (suc i) nodes i

-- the depth of node i
abbrev pub depth_at : List Node → ℕ → ℕ
depth_at nodes i = (slice_index_or nodes i missing_node).depth

-- whether node i is a term; the others are ranges
abbrev pub term_at : List Node → ℕ → Bool
term_at nodes i = is_term (slice_index_or nodes i missing_node).form

-- whether the sheet has a node i that is a term
abbrev pub has_term : List Node → ℕ → Bool
has_term nodes i = nat_lt i (length nodes) && term_at nodes i

-- whether the sheet has a node i that is a range
abbrev pub has_range : List Node → ℕ → Bool
has_range nodes i = nat_lt i (length nodes) && not (term_at nodes i)
