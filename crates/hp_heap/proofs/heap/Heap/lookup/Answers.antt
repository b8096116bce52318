use Rattle.std.proofs.Common.{sym, ap, ◌∙◌}
use Rattle.hp_heap.specs.Boxed.{heap_at}
use Rattle.hp_heap.specs.History.{HeapView}
use Rattle.hp_heap.specs.Tiling.{range_at}
use Rattle.hp_heap.proofs.heap.Heap.lookup.Goals as goal

pub returns-in-Nowhere : goal.returns-in-Nowhere
unfolding range_at
returns-in-Nowhere c = ap (λ (heap : HeapView). range_at c.args.addr heap.plain) (ap heap_at (sym c.in-Nowhere.is) ∙ c.self.view_is)
