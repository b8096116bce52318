-- A heap that was taken may be given after a call of the taker, once its pair is published.
use Rattle.std.proofs.Common.{◌≡◌, ◌∙◌, ℕ, ◌+◌, Option, Some, None, refl, sym, ap}
use Rattle.hp_base.specs.declared.tag.Caller.{Caller}
use Rattle.hp_heap.specs.declared.entry.HeapCall.TheVariants as call
use Rattle.hp_heap.specs.History.{HeapView}
use Rattle.hp_heap.specs.PlainHeap.{PlainHeap}
use Rattle.hp_heap.specs.Step.{after}
use Rattle.hp_hall.specs.declared.kept.Kept.TheVariants.{Heap}
use Rattle.hp_hall.specs.Giving.{GivesHeap, Knows}
use Rattle.hp_hall.specs.HallCalls.{GivesOnceTold}
use Rattle.hp_hall.specs.HeapPairs.{ArePairsOf}
use Rattle.hp_hall.proofs.HeldPairs.{keeps_pen}
use Rattle.hp_stats.specs.StatViews.{PenView}

pub after_stats : (who : ℕ) (heap : PlainHeap) → after who call.Stats heap ≡ heap
unfolding after
after_stats who heap = refl

-- a heap of which nothing was published since it was taken
pub once_told : (knows : Knows) (index : ℕ) (taken given : HeapView) (pen : PenView) → knows.taken index ≡ Some (Heap taken pen)
    → taken.plain.index ≡ index → ArePairsOf taken pen → (knows.part index).told ≡ None → GivesHeap knows taken given
    → GivesOnceTold knows index (record { heap = given; pen = pen })
once_told knows index taken given pen out fits pairs untold gives = record {
  taken = record { heap = taken; pen = pen };
  out = out;
  index_is = gives.index ∙ fits;
  gives = gives;
  told = λ pair is.
      let wrong : None ≡ Some pair = sym untold ∙ is in
      absurd (cc);
  pen_is = keeps_pen taken given gives.own pen gives.index gives.serves gives.history pairs;
}
