-- One pool more is made, and the table is kept at the end.
use Rattle.std.proofs.Common.{◌≤◌, arith, length}
use Rattle.hp_segs.proofs.NewLemmas.{kept_new, made_list, made_more}
use Rattle.hp_segs.proofs.table.Table.new.Goals as goal

pub add_list-requires-clause-few : goal.add_list-requires-clause-few
add_list-requires-clause-few c =
    (made_list c.list_after-info.result _ c.loop-line.invariant c.requires c.loop-line-test.true c.list_after-info.ensures).0

pub add_list-requires-clause-placed : goal.add_list-requires-clause-placed
add_list-requires-clause-placed c =
    (made_list c.list_after-info.result _ c.loop-line.invariant c.requires c.loop-line-test.true c.list_after-info.ensures).1

pub add_list-requires-clause-slots : goal.add_list-requires-clause-slots
add_list-requires-clause-slots c =
    (made_list c.list_after-info.result _ c.loop-line.invariant c.requires c.loop-line-test.true c.list_after-info.ensures).2

pub loop-line-preserved : goal.loop-line-preserved
loop-line-preserved c =
    let made = c.in_ok-add_list.ensures in
    rw (made.lists, made.masks, made.kept, c.from.ensures)
    (made_more
    c.add_pool.new.counts
    c.list_after-info.result
    _
    c.loop-line.invariant
    c.requires
    c.loop-line-test.true
    c.list_after-info.ensures
    c.in_ok-add_pool.ensures)

pub invariant_of-result : goal.invariant_of-result
invariant_of-result c =
    let past : length c.args.pools.now ≤ c.loop-line.line-index = omega arith in
    rw (c.in_ok-from_slice.ensures.items, c.new-3.ensures.items, c.in_ok-totals.ensures.ok) (kept_new c.loop-line.line-index c.loop-line.invariant c.requires past)
