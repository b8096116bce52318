-- What a hall may publish by the pen in hand.
use Rattle.std.proofs.Common.{◌≡◌, ⊎_elim, ℕ, ◌<◌, ◌≤◌, List, length, Some, sym, ap, subst, ◌∙◌, arith}
use Rattle.std.specs.List.{Contains, slice_get}
use Rattle.hp_base.specs.declared.limits.TheConstants.{MAX_HEAPS}
use Rattle.atomic_table.specs.Seated.{TableId}
use Rattle.hp_heap.specs.History.{HeapView}
use Rattle.hp_mail.specs.PassView.{MailboxView}
use Rattle.hp_stats.specs.Pairs.{newest_of, no_pair}
use Rattle.hp_stats.specs.StatViews.{PenView, last_count}
use Rattle.hp_stats.specs.declared.stat_pair.StatPair.{StatPair}
use Rattle.hp_stats.proofs.PairLemmas.{newest_among}
use Rattle.hp_hall.specs.HallCalls.{IsPublishable, MayPublish}
use Rattle.hp_hall.specs.HallState.{known_to}
use Rattle.hp_hall.specs.HeapPairs.{ArePairsOf}
use Rattle.hp_hall.specs.declared.kept.Kept.{Kept}
use Rattle.hp_hall.specs.declared.kept.Kept.TheVariants.{Heap, Names, Segments}
use Rattle.hp_board.specs.BoardView.{BoardView}
use Rattle.hp_chair.specs.ChairInside.{IsChair}
use Rattle.hp_chair.specs.ChairView.{ChairView, chair_state}
use Rattle.hp_chair.specs.Publishing.{MayTellOf}

-- of pairs of a heap none counts more than its entries
count_most : (heap : HeapView) (pen : PenView) → ArePairsOf heap pen → last_count pen ≤ length heap.history
count_most heap pen pairs =
    ⊎_elim
    (λ (none : newest_of pen.published ≡ no_pair).
    let zero : last_count pen ≡ 0 = ap (λ (p : StatPair). p.entries) none in
    omega (arith, zero))
    (λ (among : Contains pen.published (newest_of pen.published)). (pairs (newest_of pen.published) among).count)
    (newest_among pen.published)

-- what its caller may publish as a hall says it, it may by the pen in hand, and the heap is one of the board's
pub record TellsAt (cells : List TableId) (index : ℕ) (kept : Kept) : Type 0 where
  pub may : MayTellOf cells index kept
  pub below : index < MAX_HEAPS

module _ (me index : ℕ) (board : BoardView) (boxes : List MailboxView) (cells : List TableId) (chair : ChairView) (was : IsChair board boxes cells chair) where
  heap_tells : (heap : HeapView) (pen : PenView) → IsPublishable (known_to me (chair_state chair)) index heap pen
      → TellsAt cells index (Heap heap pen)
  heap_tells heap pen may =
      let at = (was.held index (Heap may.taken.heap may.taken.pen) may.out).at in
      record {
        may = record {
          its = subst (λ (l : List TableId). slice_get l index ≡ Some pen.cell) was.reads.opened (at.pen.cell ∙ ap Some (sym may.pen_is.cell));
          count = count_most heap pen may.pen_is.pairs;
        };
        below = at.heap.below;
      }

  tells_of : (kept : Kept) → MayPublish (known_to me (chair_state chair)) index kept → TellsAt cells index kept
  tells_of (Heap heap pen) may = heap_tells heap pen may
  tells_of (Segments segs) may = absurd may
  tells_of (Names names) may = absurd may

  pub tells_by : (value : ChairView) → chair ≡ value → (kept : Kept) → MayPublish (known_to me (chair_state value)) index kept → TellsAt cells index kept
  tells_by value is kept may =
      tells_of kept (subst (λ (v : ChairView). MayPublish (known_to me (chair_state v)) index kept) (sym is) may)
