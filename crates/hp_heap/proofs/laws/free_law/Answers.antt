use Rattle.hp_heap.proofs.FreeFacts.FreeLaw.{frees_alone}
use Rattle.hp_heap.proofs.laws.free_law.Goals as goal

pub returns : goal.returns
returns c = λ address zone heap tiled. frees_alone address zone heap tiled
