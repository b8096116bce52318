-- The mask of the list is its used slots.
use Rattle.std.proofs.Common.{◌∙◌, ap, sym, arith}
use Rattle.hp_fbarray.specs.Answers.{free_run}
use Rattle.hp_log.specs.Log.{table_of}
use Rattle.hp_segs.specs.Lists.{slots_beside}
use Rattle.hp_segs.proofs.RowTables.KeptSlots.{rows_kept}
use Rattle.hp_segs.proofs.QueryLemmas.{mask_at, masks_long}
use Rattle.hp_segs.proofs.table.Table.free_run.Goals as goal

pub index-requires : goal.index-requires
index-requires c =
    let within = rw (← c.self.view_is) at c.requires in
    omega (arith, masks_long c.self.invariant.laid, c.self.inside.masks.ok, within)

pub returns : goal.returns
returns c =
    let within = rw (← c.self.view_is) at c.requires in
    let rows = sym (rows_kept c.self.inside.kept.items (table_of c.self.inside.log.items)) in
    rw (← c.self.view_is)
    (c.find_run.ensures.value
    ∙ (ap (λ m. free_run m c.args.n) (c.index.ensures ∙ mask_at c.self.invariant.laid c.args.list c.index.result.now within)
    ∙ ap (λ r. free_run (slots_beside c.self.inside.pools.items r c.args.list) c.args.n) rows))
