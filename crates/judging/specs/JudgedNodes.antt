-- A node of a judged sheet: what the code holds of it, in the words of the definitions.
use Rattle.std.specs.Prelude.{◌≡◌, ℕ, Bool, true, false, List, Option, MatchOption, vec_items, vec_len, slice_index_or}
use Rattle.judging.specs.Known.{Known}
use Rattle.judging.specs.Nodes as at
use Rattle.judging.specs.Trees.{Term, Range}
use Rattle.judging.specs.declared.values.Judge.{Judge}
use Rattle.judging.specs.declared.node.JudgedNode.{JudgedNode}
use Rattle.sheet.specs.Sound.{missing_node}
use Rattle.sheet.specs.declared.form.Form.{Form}
use Rattle.sheet.specs.declared.form.Node.{Node}

-- the nodes of the judged sheet
abbrev pub nodes_of : Judge → List Node
nodes_of j = vec_items j.sheet.now.nodes

-- what the node says
abbrev pub node_form : JudgedNode → Form
node_form x = (slice_index_or (nodes_of x.judge.now) x.number missing_node).form

-- what a sheet promises of the node, if this is what it says
abbrev pub Promised : JudgedNode → Form → Type 0
Promised x form = Known (vec_len x.judge.now.sheet.now.stations) (nodes_of x.judge.now) x.number form

-- whether the node is a term
abbrev pub node_is_term : JudgedNode → Bool
node_is_term x = at.term_at (nodes_of x.judge.now) x.number

-- how deep the node goes
abbrev pub node_depth : JudgedNode → ℕ
node_depth x = at.depth_at (nodes_of x.judge.now) x.number

-- the term that the node stands for
abbrev pub node_term : JudgedNode → Term
node_term x = at.term_of (nodes_of x.judge.now) x.number

-- the range that the node stands for
abbrev pub node_range : JudgedNode → Range
node_range x = at.range_of (nodes_of x.judge.now) x.number

-- the term that the node stands for, if it is a term that says this
abbrev pub term_saying : JudgedNode → Form → Term
term_saying x form = at.as_term (at.term_of (nodes_of x.judge.now)) form

-- the range that the node stands for, if it is a range that says this
abbrev pub range_saying : JudgedNode → Form → Range
range_saying x form = at.as_range (at.term_of (nodes_of x.judge.now)) (at.range_of (nodes_of x.judge.now)) form

-- the answer is node i of a judged sheet where there is one as wanted, and else nothing
abbrev pub Finds : Bool → Judge → ℕ → Option JudgedNode → Type 0
Finds wanted j i r = MatchOption r (wanted ≡ false) (λ x. (wanted ≡ true) × (x.judge.now ≡ j) × (x.number ≡ i))
