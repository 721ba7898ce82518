use Rattle.std.proofs.Common.{rules, arith}
use Rattle.writing.proofs.Puts.{joined_room, length-joined_take, put_more}
use Rattle.writing.proofs.entry.put_all.Goals as goal

pub record-record-requires : goal.record-record-requires
record-record-requires g c =
    omega (arith, joined_room g.T.Entry.bytes _ _ _ c.loop-item-test.true c.item-item.is, g.met.T.Entry.sized c.item-item.result)

pub overflow_add-end : goal.overflow_add-end
overflow_add-end g c =
    omega (arith, joined_room g.T.Entry.bytes _ _ _ c.loop-item-test.true c.item-item.is, g.met.T.Entry.sized c.item-item.result)

pub slice_bounds-copy_from_slice-end : goal.slice_bounds-copy_from_slice-end
slice_bounds-copy_from_slice-end g c =
    let room = joined_room g.T.Entry.bytes _ _ _ c.loop-item-test.true c.item-item.is in
    let size = g.met.T.Entry.sized c.item-item.result in
    search rules

pub loop-item-preserved : goal.loop-item-preserved
loop-item-preserved g c =
    let room = joined_room g.T.Entry.bytes _ _ _ c.loop-item-test.true c.item-item.is in
    let more = length-joined_take g.T.Entry.bytes _ _ _ c.loop-item-test.true c.item-item.is in
    let size = g.met.T.Entry.sized c.item-item.result in
    record {
      put =
          rw (c.copy_from_slice.ensures.after, c.record-record.ensures, c.loop-item.invariant.put)
          (put_more _ _ _ _ _ _ _ c.loop-item-test.true c.item-item.is size c.loop-item.invariant.ended (omega arith));
      ended = omega arith;
    }
