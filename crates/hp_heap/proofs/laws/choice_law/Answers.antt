use Rattle.hp_heap.proofs.AllocFacts.ChoiceLaw.{chosen-is_choice}
use Rattle.hp_heap.proofs.laws.choice_law.Goals as goal

pub returns : goal.returns
returns c = λ participant request heap. chosen-is_choice heap participant request
