use Rattle.std.proofs.Common.{◌≡◌, []}
use Rattle.crossbeam_queue.specs.Passes.{view}
use Rattle.hp_mempool.specs.Views.{first_view}
use Rattle.hp_mempool.proofs.filling.fill.Given as goal

abbrev pub invariant-loop-number : goal.invariant-loop-number
invariant-loop-number l = record {
  table : l.first.table_id ≡ l.queue.table.shared.table_id;
  out : l.first.me.1 ≡ [];
  filled : view l.first ≡ first_view l.number;
}
