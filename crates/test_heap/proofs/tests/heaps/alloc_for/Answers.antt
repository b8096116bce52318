use Rattle.std.proofs.Common.{sym, subst}
use Rattle.hp_heap.specs.Growing.{IsGrownTo}
use Rattle.hp_heap.specs.Step.{after}
use Rattle.hp_heap.proofs.Growths.{grown_alloc}
use Rattle.test_heap.proofs.tests.heaps.alloc_for.Goals as goal

pub returns-clause-grown : goal.returns-clause-grown
unfolding after
returns-clause-grown c = λ run grown. subst (λ h. IsGrownTo run h) (sym c.alloc.ensures.step.heap) (grown_alloc c.args.heap.now.plain run _ _ _ grown)
