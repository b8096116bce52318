-- The heaps of a closed board are those that its participants' lines leave.
use Rattle.std.proofs.Common.{◌≡◌, ◌∙◌, ℕ, ◌<◌, ◌≤◌, List, [], Option, Some, None, slice_get, unwrap_or, ⊎_elim, ap, sym, subst, arith}
use Rattle.std.specs.Prelude.{Contains}
use Rattle.std.proofs.lemmas.Bool.{cases_lt}
use Rattle.std.proofs.lemmas.Option.{get_or_from_slice_get, slice_get_within}
use Rattle.hp_board.specs.SeatView.{SeatView}
use Rattle.hp_board.specs.Views.{made_in}
use Rattle.hp_board.specs.declared.opening.Opening.{Opening}
use Rattle.hp_hall.specs.Holding.{HasPages}
use Rattle.hp_heap.specs.History.{HeapView, IsSound, entries_of}
use Rattle.hp_script.specs.declared.workload.Workload.{Workload}
use Rattle.hp_segs.specs.SegsView.{SegsView}
use Rattle.hp_segs.specs.Standing.{owned_by}
use Rattle.hp_stats.specs.StatViews.{PenView}
use Rattle.hp_proc.specs.Courses.{calls_in}
use Rattle.hp_proc.specs.Ends.{IsHeapAt, KeepsCalls, OwnsItsPages}
use Rattle.hp_proc.specs.Histories.{entries_for}
use Rattle.hp_proc.specs.LinesDone.{Course, trace_of}
use Rattle.thm_run.proofs.HallFacts.HallHeaps.{all_from_places}
use Rattle.thm_run.proofs.HallFacts.HallPages.{owns_pages}
use Rattle.thm_run.proofs.RunFacts.Opens.{few_sockets}
use Rattle.thm_run.proofs.PathSteps.Walked.{get_there}
use Rattle.thm_run.specs.ByRuns.{AreOfHeaps}
use Rattle.thm_moved.specs.ByClose.{HaveMade, IsClosedOver, IsOpeningOf, KeptByClose}
use Rattle.thm_together.specs.CameHome.{AreKeptAtLast}

-- an element at a place is among a list
pub at_a_place : {X : Type 0} (xs : List X) (place : ℕ) (x : X) → slice_get xs place ≡ Some x → Contains xs x
at_a_place xs place x there = (place, slice_get_within xs place x there, get_or_from_slice_get xs place x x there)

module _ (workload : Workload) (opening : Opening) (courses : ℕ → List Course) (seats : List SeatView) (heaps : List HeapView)
    (pens : List PenView) (segs : SegsView) (opens : IsOpeningOf workload opening) (made : HaveMade workload seats (λ who. trace_of (courses who)))
    (closed : IsClosedOver opening seats heaps pens segs) (none : (who : ℕ) → workload.participants ≤ who → courses who ≡ []) where
  heap_at : (place : ℕ) (heap : HeapView) → slice_get heaps place ≡ Some heap → IsHeapAt workload place heap.plain
  heap_at place heap there =
      let its = closed.heaps_are.at place heap there in
      record {
        index = its.index;
        serves = sym (ap (λ (serves : Option (Option ℕ)). unwrap_or serves None) its.serves) ∙ opens.serves place;
      }

  calls_kept : KeepsCalls (λ who. trace_of (courses who)) heaps
  calls_kept who index heap there =
      ⊎_elim
      (λ (below : who < workload.participants).
      let seat = get_there seats who (omega (arith, below, made.count)) in
      let kept = (closed.calls seat.0 (at_a_place seats who seat.0 seat.1)).own index heap there in
      subst (λ (other : ℕ). entries_of other heap.history ≡ made_in index seat.0.mine) (made.whose who seat.0 seat.1) kept
      ∙ made.made who index seat.0 seat.1)
      (λ (beyond : workload.participants ≤ who).
      closed.heaps_are.strange who index heap (omega (arith, beyond, opens.count)) there
      ∙ sym (ap (λ (own : List Course). entries_for who index 1 (calls_in (trace_of own))) (none who beyond)))
      (cases_lt who workload.participants)

  page_kept : (place : ℕ) (heap : HeapView) → slice_get heaps place ≡ Some heap → OwnsItsPages segs heap
  page_kept place heap there =
      owns_pages segs heap closed.segs_are.sound
      (subst (λ (index : ℕ). HasPages heap.plain.pages (owned_by index segs)) (sym (closed.heaps_are.at place heap there).index)
      (closed.owned.has place heap there).pages)

  pub kept : AreOfHeaps (λ who. trace_of (courses who)) heaps → AreKeptAtLast workload courses heaps segs
  kept within = record {
    are = record {
      all = omega (arith, few_sockets workload.pools.items, closed.heaps_are.count);
      each = heap_at;
    };
    sound = all_from_places IsSound heaps (λ place heap there. (closed.heaps_are.at place heap there).sound);
    calls = calls_kept;
    within = within;
    growth = closed.owned.growth;
    grown = λ index heap there. closed.owned.granted index heap there;
    owned = all_from_places (OwnsItsPages segs) heaps page_kept;
  }

pub kept_by_close : KeptByClose
kept_by_close workload opening courses seats heaps pens segs opens made closed none within =
    kept workload opening courses seats heaps pens segs opens made closed none within
