use Rattle.hp_heap.proofs.HistoryFacts.HistoryLaw.{StandsFor-push}
use Rattle.hp_heap.proofs.laws.history_law.Goals as goal

pub returns : goal.returns
returns c = StandsFor-push
