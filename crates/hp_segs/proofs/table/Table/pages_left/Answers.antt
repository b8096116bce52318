-- The count of the pool is what its rows leave.
use Rattle.std.proofs.Common.{◌∙◌, ap, sym, unwrap_or}
use Rattle.hp_log.specs.Log.{table_of}
use Rattle.hp_pool.specs.Pools.{free_pages}
use Rattle.hp_segs.specs.Lists.{pages_beside}
use Rattle.hp_segs.proofs.RowTables.KeptSlots.{rows_kept}
use Rattle.hp_segs.proofs.QueryLemmas.{count_at}
use Rattle.hp_segs.proofs.table.Table.pages_left.Goals as goal

pub returns : goal.returns
returns c =
    let within = rw (← c.self.view_is) at c.requires in
    let rows = sym (rows_kept c.self.inside.kept.items (table_of c.self.inside.log.items)) in
    rw (← c.self.view_is)
    (c.unwrap_or.ensures
    ∙ (ap (λ o. unwrap_or o 0) c.have_at.ensures
    ∙ (ap (λ line. unwrap_or (free_pages c.self.inside.counts line.socket line.page) 0) c.index-line.ensures
    ∙ (count_at c.self.invariant.laid c.args.pool c.index-line.result.now within
    ∙ ap (λ r. pages_beside c.self.inside.pools.items r c.args.pool) rows))))
