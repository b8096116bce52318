use Rattle.std.proofs.Common.{ℕ, List, [], ◌∷◌, ◌+◌, sym, subst, ◌∙◌, arith}
use Rattle.hp_heap.specs.History.{HeapView}
use Rattle.hp_zone.specs.Directory.{opening}
use Rattle.hp_board.specs.Served.{IsNamedIn}
use Rattle.test_board.proofs.Opened.{AreOpened, opened_push}
use Rattle.test_board.proofs.tests.opening.opening_heaps.Goals as goal

pub loop-index-preserved : goal.loop-index-preserved
loop-index-preserved c = (
  subst (λ (l : List HeapView). AreOpened l (c.loop-index.index + 1)) (sym c.push_reserved.ensures.items)
      (opened_push c.loop-index.heaps.items c.loop-index.index c.heap_at.result c.loop-index.invariant.0
      (c.heap_at.ensures.index ∙ omega arith) c.heap_at.ensures.empty (subst (λ (k : ℕ). IsNamedIn (opening (0 ∷ [])) k c.heap_at.result) (sym c.heap_at.ensures.index) c.heap_at.ensures.named)),
  omega (arith, c.push_reserved.ensures.capacity, c.loop-index.invariant.1),
)
