use Rattle.std.proofs.Common.{sym, ap, ◌∙◌}
use Rattle.hp_heap.specs.Boxed.{heap_at}
use Rattle.hp_heap.specs.History.{HeapView}
use Rattle.hp_heap.specs.Statistics.{statistics_of}
use Rattle.hp_heap.proofs.heap.Heap.summary.Goals as goal

pub returns-in-Nowhere : goal.returns-in-Nowhere
unfolding statistics_of
returns-in-Nowhere c = ap (λ (heap : HeapView). statistics_of heap.plain) (ap heap_at (sym c.in-Nowhere.is) ∙ c.self.view_is)
