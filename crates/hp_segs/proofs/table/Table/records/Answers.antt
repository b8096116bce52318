-- The rows of the segments are the table of the log, whose runs are those of lists.
use Rattle.std.proofs.Common.{sym, subst}
use Rattle.hp_log.specs.Log.{table_of}
use Rattle.hp_segs.specs.Table.{IsTable}
use Rattle.hp_segs.proofs.RowTables.KeptSlots.{rows_kept}
use Rattle.hp_segs.proofs.RowTables.TableUse.{small_runs}
use Rattle.hp_segs.proofs.table.Table.records.Goals as goal

pub returns-clause-sound : goal.returns-clause-sound
returns-clause-sound c =
    rw (← c.self.view_is)
    (subst (IsTable c.self.inside.pools.items c.self.inside.log.items) (sym (rows_kept c.self.inside.kept.items (table_of c.self.inside.log.items)))
    c.self.invariant.laid.table)

pub returns-clause-small : goal.returns-clause-small
returns-clause-small c = rw (← c.self.view_is) (small_runs c.self.invariant.laid)
