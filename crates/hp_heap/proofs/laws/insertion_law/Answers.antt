use Rattle.hp_heap.proofs.FreeFacts.InsertLaw.{inserts_at_head}
use Rattle.hp_heap.proofs.laws.insertion_law.Goals as goal

pub returns : goal.returns
returns c = inserts_at_head
