-- The run lies in its list.
use Rattle.std.proofs.Common.{arith}
use Rattle.hp_segs.specs.SegsView.{rows_in}
use Rattle.hp_segs.proofs.SlotFacts.PlanLemmas.{slot_fits}
use Rattle.hp_segs.proofs.segs.plan.plan_slots.Goals as goal

pub overflow_cast-start : goal.overflow_cast-start
overflow_cast-start c =
    let fits =
    slot_fits c.args.table.now.pools (rows_in c.args.table.now.segments) c.args.list c.args.info.now c.args.need c.in-Found.start c.free_run.result
    c.requires.listed c.requires.fit c.requires.some c.free_run.ensures c.in-Found.is in
    omega arith

pub overflow_cast-need : goal.overflow_cast-need
overflow_cast-need c =
    let fits =
    slot_fits c.args.table.now.pools (rows_in c.args.table.now.segments) c.args.list c.args.info.now c.args.need c.in-Found.start c.free_run.result
    c.requires.listed c.requires.fit c.requires.some c.free_run.ensures c.in-Found.is in
    omega arith

pub run_at-requires : goal.run_at-requires
run_at-requires c =
    let fits =
    slot_fits c.args.table.now.pools (rows_in c.args.table.now.segments) c.args.list c.args.info.now c.args.need c.in-Found.start c.free_run.result
    c.requires.listed c.requires.fit c.requires.some c.free_run.ensures c.in-Found.is in
    fits.start

pub judged-requires-clause-end : goal.judged-requires-clause-end
judged-requires-clause-end c =
    let fits =
    slot_fits c.args.table.now.pools (rows_in c.args.table.now.segments) c.args.list c.args.info.now c.args.need c.in-Found.start c.free_run.result
    c.requires.listed c.requires.fit c.requires.some c.free_run.ensures c.in-Found.is in
    rw c.run_at.ensures fits.end
