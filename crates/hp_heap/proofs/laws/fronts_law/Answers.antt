use Rattle.hp_heap.proofs.HistoryFacts.FrontsLaw.{fronts_stand}
use Rattle.hp_heap.proofs.laws.fronts_law.Goals as goal

pub returns : goal.returns
returns c = fronts_stand
