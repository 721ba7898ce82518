use Rattle.std.proofs.Common.{◌≡◌, ◌<◌, length, sym, subst, arith, rules}
use borrow.Author.Rules.{get_or_read}
use Rattle.sheet.specs.Sound.{missing_node}
use Rattle.sheet.specs.declared.form.Node.{Node}
use Rattle.judging.specs.JudgedNodes.{Promised, node_term, node_range, term_saying, range_saying}
use Rattle.judging.proofs.Nodes.{known}
use Rattle.judging.proofs.Trees.{term_step, range_step}
use Rattle.judging.proofs.node.JudgedNode.form.Goals as goal

pub returns : goal.returns
returns c =
    let x = c.args.self in
    let s = x.judge.now.sheet.now in
    let nodes = s.nodes.items in
    let h : x.number < length nodes = omega (arith, s.nodes.ok) in
    let k = known s.stations.len nodes s.few_stations s.nodes_sound in
    let e = sym (get_or_read nodes x.number c.index.result.now h c.index.ensures missing_node) in
    record {
      value = search rules;
      promised = subst (λ (y : Node). Promised x y.form) e (k x.number h);
      term = subst (λ (y : Node). node_term x ≡ term_saying x y.form) e (term_step s.stations.len nodes k x.number h);
      range = subst (λ (y : Node). node_range x ≡ range_saying x y.form) e (range_step s.stations.len nodes k x.number h);
    }
