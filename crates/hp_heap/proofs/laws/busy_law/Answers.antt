use Rattle.hp_heap.proofs.HistoryFacts.BusyLaw.{leaves_busy}
use Rattle.hp_heap.proofs.laws.busy_law.Goals as goal

pub returns : goal.returns
returns c = leaves_busy
