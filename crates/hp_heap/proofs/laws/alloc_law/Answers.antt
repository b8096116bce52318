use Rattle.hp_heap.proofs.AllocFacts.AllocLaw.{allocated-is}
use Rattle.hp_heap.proofs.laws.alloc_law.Goals as goal

pub returns : goal.returns
returns c = λ participant request heap tiled. allocated-is heap participant request tiled
