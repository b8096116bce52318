-- The run's pages are out, it fits its list, and the table is kept without it.
use Rattle.std.proofs.Common.{◌≡◌, ◌-◌, ◌++◌, ◌∷◌, [], arith, length, length-append, vec_capacity}
use Rattle.hp_log.specs.Log.{table_of}
use Rattle.hp_log.specs.declared.log_record.LogRecord.TheVariants.{Drop}
use Rattle.hp_segs.proofs.RowTables.KeptSlots.{rows_kept}
use Rattle.hp_segs.proofs.RowTables.KeptTable.{kept_removed, same_table, segments_dropped}
use Rattle.hp_segs.proofs.RowTables.TableUse.{run_fits, pages_out}
use Rattle.hp_segs.proofs.table.Table.remove.Goals as goal

pub give-requires : goal.give-requires
give-requires c =
    let listed = rw (← c.self.view_is) at c.requires.listed in
    let used = rw (← c.self.view_is, rows_kept c.self.inside.kept.items (table_of c.self.inside.log.items)) at c.requires.used in
    record { out = rw c.from.ensures (pages_out c.self.invariant.laid c.args.run.now listed used) }

pub mark_list-requires : goal.mark_list-requires
mark_list-requires c =
    let listed = rw (← c.self.view_is) at c.requires.listed in
    let fits = run_fits c.self.invariant.laid c.args.run.now listed in
    record { list = fits.list; within = fits.within; slots = fits.slots }

pub invariant_of-self : goal.invariant_of-self
invariant_of-self c =
    let listed = rw (← c.self.view_is) at c.requires.listed in
    let used = rw (← c.self.view_is, rows_kept c.self.inside.kept.items (table_of c.self.inside.log.items)) at c.requires.used in
    let uncounted = rw (← c.self.view_is) at c.requires.uncounted in
    let gives = rw c.from.ensures at c.give.ensures in
    rw c.push_reserved.ensures.items
    (kept_removed c.args.run.now listed used uncounted gives c.mark_list.ensures c.self.invariant)

pub returns : goal.returns
returns c =
    let log = length-append c.self.inside.log.items (Drop c.args.run.now ∷ []) in
    let room : vec_capacity c.push_reserved.new.self - length (c.self.inside.log.items ++ Drop c.args.run.now ∷ [])
    ≡ vec_capacity c.self.inside.log - length c.self.inside.log.items - 1 =
    omega (arith, c.push_reserved.ensures.capacity, log) in
    rw (← c.self.view_is, c.push_reserved.ensures.items)
    (same_table c.self.inside.pools.items (c.self.inside.log.items ++ Drop c.args.run.now ∷ []) _ _ _ _
    (segments_dropped c.self.inside.kept.items c.self.inside.log.items c.args.run.now) room)
