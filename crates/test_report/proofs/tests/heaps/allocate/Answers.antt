-- Neither room for calls nor an allocation changes the pages.
use Rattle.std.proofs.Common.{sym, subst}
use Rattle.hp_heap.specs.Growing.{IsGrownTo}
use Rattle.hp_heap.specs.Step.{after}
use Rattle.hp_heap.proofs.Growths.{grown_alloc}
use Rattle.test_report.proofs.tests.heaps.allocate.Goals as goal

pub returns : goal.returns
unfolding after
returns c = record {
  grown = λ run grown.
      subst (λ heap. IsGrownTo run heap) (sym c.alloc.ensures.step.heap)
      (grown_alloc c.reserve.new.self.plain run _ _ _ (subst (λ heap. IsGrownTo run heap) (sym c.reserve.ensures.same.plain) grown));
}
