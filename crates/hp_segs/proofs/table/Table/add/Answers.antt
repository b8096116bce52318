-- The run fits its list and its pool, and the table is kept with it.
use Rattle.std.proofs.Common.{◌≡◌, ◌+◌, ◌-◌, ◌++◌, ◌∷◌, [], map, subst, arith, length, length-append, vec_capacity}
use Rattle.hp_base.specs.declared.row.Run.{Run}
use Rattle.hp_log.specs.Log.{table_of}
use Rattle.hp_log.specs.Rows.{rows_of}
use Rattle.hp_log.specs.declared.log_record.LogRecord.{LogRecord}
use Rattle.hp_log.specs.declared.log_record.LogRecord.TheVariants.{Add}
use Rattle.hp_segs.specs.Slots.{changed_slots, kept_segments, stamped_slots}
use Rattle.hp_segs.specs.Steps.{segment_of}
use Rattle.hp_segs.specs.Table.{TableView}
use Rattle.hp_segs.specs.declared.row_state.RowState.TheVariants.{Opened}
use Rattle.hp_segs.proofs.RowTables.KeptSlots.{rows_kept, run_stamped}
use Rattle.hp_segs.proofs.RowTables.KeptTable.{kept_added, run_kept, same_table, segments_added}
use Rattle.hp_segs.proofs.RowTables.TableUse.{run_fits, enough_pages}
use Rattle.hp_segs.proofs.table.Table.add.Goals as goal

pub take_pages-requires : goal.take_pages-requires
take_pages-requires c =
    let kept = c.self.invariant in
    let listed = rw (← c.self.view_is) at c.requires.listed in
    let pages = rw (← c.self.view_is, rows_kept c.self.inside.kept.items (table_of c.self.inside.log.items)) at c.requires.pages in
    rw c.from.ensures (enough_pages kept.laid c.args.run.now listed pages)

pub mark_list-requires : goal.mark_list-requires
mark_list-requires c =
    let listed = rw (← c.self.view_is) at c.requires.listed in
    let fits = run_fits c.self.invariant.laid c.args.run.now listed in
    record { list = fits.list; within = fits.within; slots = fits.slots }

pub stamp_slots-requires : goal.stamp_slots-requires
stamp_slots-requires c =
    let listed = rw (← c.self.view_is) at c.requires.listed in
    record { run = run_kept c.self.invariant c.args.run.now listed }

pub change_slots-requires : goal.change_slots-requires
change_slots-requires c =
    let listed = rw (← c.self.view_is) at c.requires.listed in
    record {
      run = rw c.stamp_slots.ensures
          (run_stamped c.self.inside.kept.items c.args.run.now (c.len.result + 1) (run_kept c.self.invariant c.args.run.now listed));
    }

pub invariant_of-self : goal.invariant_of-self
invariant_of-self c =
    let listed = rw (← c.self.view_is) at c.requires.listed in
    let unused = rw (← c.self.view_is, rows_kept c.self.inside.kept.items (table_of c.self.inside.log.items)) at c.requires.unused in
    let stamp : c.len.result + 1 ≡ length c.self.inside.log.items + 1 = omega (arith, c.len.ensures, c.self.inside.log.ok) in
    let takes = rw c.from.ensures at c.take_pages.ensures in
    rw (c.push_reserved.ensures.items, c.change_slots.ensures, c.stamp_slots.ensures, stamp)
    (kept_added c.args.run.now c.args.heap listed unused takes c.mark_list.ensures c.self.invariant)

pub returns : goal.returns
returns c =
    let listed = rw (← c.self.view_is) at c.requires.listed in
    let unused = rw (← c.self.view_is, rows_kept c.self.inside.kept.items (table_of c.self.inside.log.items)) at c.requires.unused in
    let stamp : c.len.result + 1 ≡ length c.self.inside.log.items + 1 = omega (arith, c.len.ensures, c.self.inside.log.ok) in
    let log = length-append c.self.inside.log.items (Add c.args.run.now c.args.heap ∷ []) in
    let room : vec_capacity c.push_reserved.new.self - length (c.self.inside.log.items ++ Add c.args.run.now c.args.heap ∷ [])
    ≡ vec_capacity c.self.inside.log - length c.self.inside.log.items - 1 =
    omega (arith, c.push_reserved.ensures.capacity, log) in
    let run : Run = c.args.run.now in
    let entry : LogRecord = Add run c.args.heap in
    let pools = c.self.inside.pools.items in
    let kept = changed_slots (stamped_slots c.self.inside.kept.items run (length c.self.inside.log.items + 1)) run Opened in
    let new : TableView = record {
      pools = pools;
      log = c.self.inside.log.items ++ entry ∷ [];
      segments = kept_segments kept (table_of (c.self.inside.log.items ++ entry ∷ []));
      room = vec_capacity c.push_reserved.new.self - length (c.self.inside.log.items ++ entry ∷ []);
    } in
    let same =
    subst
    (λ (t : TableView).
    new
    ≡ record t {
      log = t.log ++ entry ∷ [];
      segments = t.segments ++ map (segment_of Opened) (rows_of run (length t.log + 1));
      room = t.room - 1;
    })
    c.self.view_is
    (same_table pools (c.self.inside.log.items ++ entry ∷ []) _ _ _ _ (segments_added run c.args.heap listed unused c.self.invariant) room) in
    rw (c.push_reserved.ensures.items, c.change_slots.ensures, c.stamp_slots.ensures, stamp) same
