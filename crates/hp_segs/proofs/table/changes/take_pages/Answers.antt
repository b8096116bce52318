-- A pool with enough pages refuses none.
use Rattle.std.proofs.Common.{sym, ◌∙◌}
use Rattle.hp_segs.proofs.TakeLemmas.{enough_taken}
use Rattle.hp_segs.proofs.table.changes.take_pages.Goals as goal

pub unreachable-requires : goal.unreachable-requires
unreachable-requires c =
    enough_taken _ c.args.n c.take.result c.requires c.take.ensures.no_pool c.take.ensures.too_few
    (sym c.is_err.ensures.value ∙ c.if-is_err.true)
