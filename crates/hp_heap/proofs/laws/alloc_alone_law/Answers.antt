use Rattle.hp_heap.proofs.HistoryFacts.BusyLaw.{allocates_alone}
use Rattle.hp_heap.proofs.laws.alloc_alone_law.Goals as goal

pub returns : goal.returns
returns c = λ participant request tag heap tiled. allocates_alone participant request tag heap tiled
