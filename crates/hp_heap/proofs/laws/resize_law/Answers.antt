use Rattle.hp_heap.proofs.ResizeFacts.ResizeLaw.{resizes_alone}
use Rattle.hp_heap.proofs.laws.resize_law.Goals as goal

pub returns : goal.returns
returns c = λ address size heap tiled can. resizes_alone address size heap tiled can
