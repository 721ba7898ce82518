use Rattle.std.proofs.Common.{◌≡◌, ◌+◌, ◌++◌, length, arith}
use Rattle.std.proofs.lemmas.List.{length-append, append_assoc}
use Rattle.std.specs.List.{flat_map}
use Rattle.sheet.specs.Content.{content}
use Rattle.writing.specs.Written.{station_bytes, node_bytes, rule_bytes, written}
use Rattle.writing.proofs.Puts.{room_behind, put_behind}
use Rattle.writing.proofs.Sizes.{written-length}
use Rattle.writing.proofs.write.Goals as goal

pub put_all-nodes_at-requires : goal.put_all-nodes_at-requires
put_all-nodes_at-requires c = rw c.deref.ensures.value (omega (arith, written-length (content c.args.sheet.now)))

pub put_all-requires : goal.put_all-requires
put_all-requires c =
    let sheet = content c.args.sheet.now in
    let first = rw c.deref.ensures.value at c.put_all-nodes_at.ensures in
    rw c.deref-2.ensures.value
    (room_behind (flat_map station_bytes sheet.stations) (flat_map node_bytes sheet.nodes) _ _ _ first.end (omega (arith, written-length sheet)) first.put)

pub put_all-requires-2 : goal.put_all-requires-2
put_all-requires-2 c =
    let sheet = content c.args.sheet.now in
    let stations = flat_map station_bytes sheet.stations in
    let nodes = flat_map node_bytes sheet.nodes in
    let first = rw c.deref.ensures.value at c.put_all-nodes_at.ensures in
    let second = rw c.deref-2.ensures.value at c.put_all.ensures in
    let two = put_behind stations nodes _ _ _ first.end (omega (arith, written-length sheet)) first.put _ second.put in
    let here : c.put_all-nodes_at.result + c.put_all.result ≡ length (stations ++ nodes) = omega (arith, first.end, second.end, length-append stations nodes) in
    rw c.deref-3.ensures.value
    (room_behind (stations ++ nodes) (flat_map rule_bytes sheet.rules) _ _ _ here (omega (arith, written-length sheet, length-append stations nodes)) two)

pub returns-clause-writes : goal.returns-clause-writes
unfolding written
returns-clause-writes c =
    let sheet = content c.args.sheet.now in
    let stations = flat_map station_bytes sheet.stations in
    let nodes = flat_map node_bytes sheet.nodes in
    let rules = flat_map rule_bytes sheet.rules in
    let first = rw c.deref.ensures.value at c.put_all-nodes_at.ensures in
    let second = rw c.deref-2.ensures.value at c.put_all.ensures in
    let third = rw c.deref-3.ensures.value at c.put_all-2.ensures in
    let two = put_behind stations nodes _ _ _ first.end (omega (arith, written-length sheet)) first.put _ second.put in
    let here : c.put_all-nodes_at.result + c.put_all.result ≡ length (stations ++ nodes) = omega (arith, first.end, second.end, length-append stations nodes) in
    let three = put_behind (stations ++ nodes) rules _ _ _ here (omega (arith, written-length sheet, length-append stations nodes)) two _ third.put in
    let n : c.put_all-nodes_at.result + c.put_all.result + c.put_all-2.result ≡ length (written sheet) = omega (arith, written-length sheet, first.end, second.end, third.end) in
    let all : (stations ++ nodes) ++ rules ≡ written sheet = append_assoc stations nodes rules in
    (n, rw n (rw all at three))
