use Rattle.hp_heap.proofs.FreeFacts.ListLaw.{sorted_same, sorted_falls}
use Rattle.hp_heap.proofs.laws.list_law.Goals as goal

pub returns : goal.returns
returns c = λ ranges. record { same = sorted_same ranges; falling = sorted_falls ranges }
