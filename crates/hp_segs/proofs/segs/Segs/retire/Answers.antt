-- There is room for the run, and its row states keep the value sound.
use Rattle.std.proofs.Common.{arith}
use Rattle.hp_segs.proofs.RowTables.KeptSteps.{kept_retired, room_to_retire}
use Rattle.hp_segs.specs.SegsLayout.{view_of}
use Rattle.hp_segs.proofs.RowTables.TableRuns.{counted_run}
use Rattle.hp_segs.proofs.segs.Segs.retire.Goals as goal

pub retire-requires : goal.retire-requires
retire-requires c =
    let s = c.self.inside.parts.value in
    let owns = rw (← c.self.view_is) at c.requires.owned in
    rw c.deref_mut-parts.ensures.value
    (record {
      counted = counted_run (view_of s.table s.asks s.retiring.items s.retired s.growth s.roster s.armed.value s.ranges.items s.spare) c.self.invariant.sound c.args.heap
          c.args.run.now owns;
    })

pub insert_run-requires-clause-room : goal.insert_run-requires-clause-room
insert_run-requires-clause-room c =
    let owns = rw (← c.self.view_is) at c.requires.owned in
    let room = room_to_retire c.args.heap c.args.run.now c.self.invariant owns in
    rw c.deref_mut-parts.ensures.value (omega (arith, room, c.self.inside.parts.value.retiring.ok))

pub insert_run-requires-clause-rising : goal.insert_run-requires-clause-rising
insert_run-requires-clause-rising c = rw c.deref_mut-parts.ensures.value c.self.invariant.sound.rows.rising

pub invariant_of-self : goal.invariant_of-self
invariant_of-self c =
    let owns = rw (← c.self.view_is) at c.requires.owned in
    rw (c.retire.ensures, c.insert_run.ensures.runs, c.with.ensures, c.deref_mut-parts.ensures.value)
    (kept_retired c.args.heap c.args.run.now (rw c.deref_mut-parts.ensures.value at c.insert_run.ensures.room) c.self.invariant owns)
