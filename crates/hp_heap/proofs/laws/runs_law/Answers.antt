use Rattle.hp_heap.proofs.FreeFacts.EntriesLaw.{calls_add_runs}
use Rattle.hp_heap.proofs.laws.runs_law.Goals as goal

pub returns : goal.returns
returns c = calls_add_runs
