use Rattle.hp_heap.proofs.HistoryFacts.StepLaw.{after-tiled}
use Rattle.hp_heap.proofs.laws.tiling_law.Goals as goal

pub returns : goal.returns
returns c = after-tiled
