use Rattle.hp_heap.proofs.FreeFacts.EntriesLaw.{entries_are_answered}
use Rattle.hp_heap.proofs.laws.answers_law.Goals as goal

pub returns : goal.returns
returns c = entries_are_answered
