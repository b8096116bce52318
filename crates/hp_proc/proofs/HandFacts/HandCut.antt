-- Whole pages that are cut from a heap in hand, and given up; and calls that cut none.
use Rattle.std.proofs.Common.{◌≡◌, ◌≢◌, ◌∙◌, ℕ, Bool, true, false, List, [], ◌∷◌, ◌++◌, append-nil, Option, Some, None, refl, ap, sym, subst, ⊎_elim}
use Rattle.std.proofs.lemmas.Bool.Decides.{eqb_tells}
use Rattle.std.specs.Option.{option_map}
use Rattle.hp_base.specs.declared.row.Run.{Run}
use Rattle.hp_base.specs.declared.tag.Caller.{Caller}
use Rattle.hp_heap.proofs.FreeFacts.EntriesLaw.{calls_add_runs}
use Rattle.hp_hall.specs.Holding.{HasHolding, HeapPart, IsHeldWith}
use Rattle.hp_segs.specs.Standing.{Holding}
use Rattle.hp_heap.specs.Cut.{PageCut, after_cut, after_cut_of, cut_at, run_of}
use Rattle.hp_heap.specs.History.{HeapView, IsCall}
use Rattle.hp_heap.specs.Laws.{IsRunCut}
use Rattle.hp_heap.specs.PlainHeap.{PlainHeap}
use Rattle.hp_heap.specs.Freeing.{fault_answer}
use Rattle.hp_heap.specs.Step.{address_answer, after, answer_of, resize_answer, run_answer}
use Rattle.hp_heap.specs.declared.entry.HeapAnswer.{HeapAnswer}
use Rattle.hp_heap.specs.declared.entry.HeapAnswer.TheVariants as gives
use Rattle.hp_heap.specs.declared.entry.HeapCall.TheVariants as call
use Rattle.hp_heap.specs.declared.freeing.FreeFault.{FreeFault}
use Rattle.hp_heap.specs.declared.freeing.FreeFault.TheVariants as fault
use Rattle.hp_serve.specs.Asking.{GivesUp, IsCutFrom, without_run}
use Rattle.hp_heap.specs.HistoryLaws.{run_cut, runs_grown}
use Rattle.hp_proc.proofs.HandFacts.HandMoved.{IsSamePart}

left_whole : (heap : PlainHeap) (found : Option PageCut) → gives.Nothing ≡ run_answer (option_map run_of found) → after_cut_of found heap ≡ heap
left_whole heap None same = refl
left_whole heap (Some cut) same = cc

-- a cut that answers none leaves the heap
pub cut_nothing : (caller : Caller) (addr : ℕ) (old new : HeapView) → IsCall caller (call.Cut addr) gives.Nothing old new → new.plain ≡ old.plain
unfolding after answer_of after_cut
cut_nothing caller addr old new is = is.heap ∙ left_whole old.plain (cut_at addr old.plain) is.answered

-- what a cut leaves
pub cut_leaves : (caller : Caller) (addr : ℕ) (answer : HeapAnswer) (old new : HeapView) → IsCall caller (call.Cut addr) answer old new
    → new.plain ≡ after_cut addr old.plain
unfolding after
cut_leaves caller addr answer old new is = is.heap

-- a run that was cut from a heap in hand was cut from its own segments
pub cut_from_held : (addr index : ℕ) (run : Run) (heap : HeapView) (holding : Option Holding) → index ≡ heap.plain.index → IsHeldWith heap holding
    → IsRunCut addr heap.plain run
    → (owned : Holding) × (left : PlainHeap) × (holding ≡ Some owned) × IsCutFrom index run owned left
cut_from_held addr index run heap None same held cut = absurd held
cut_from_held addr index run heap (Some owned) same held cut = (
  owned,
  after_cut addr heap.plain,
  refl,
  record { whole = heap.plain; address = addr; its_index = sym same; pages = held.pages; cut = cut; left_is = refl },
)

-- once it is given up the heap has what its holding names: the pages of its own segments, and the run after those that it gave up before
pub held_behind_cut : (caller : Caller) (addr index : ℕ) (run : Run) (old new : HeapView) (before behind : HeapPart) → index ≡ old.plain.index
    → IsHeldWith old before.holding → IsRunCut addr old.plain run → IsCall caller (call.Cut addr) (gives.Pages run) old new
    → GivesUp index run before behind → IsHeldWith new behind.holding
held_behind_cut caller addr index run old new before behind same held cut step up =
    let whole : HasHolding old up.before = subst (IsHeldWith old) up.held held in
    let adds = calls_add_runs caller (call.Cut addr) (gives.Pages run) old new step in
    subst (IsHeldWith new) (ap (λ (part : HeapPart). part.holding) (sym up.left))
    (record {
      pages = up.pages new.plain (record {
        whole = old.plain;
        address = addr;
        its_index = sym same;
        pages = whole.pages;
        cut = cut;
        left_is = cut_leaves caller addr (gives.Pages run) old new step;
      });
      grown = adds.grown ∙ append-nil (runs_grown old.history) ∙ whole.grown;
      cut = adds.cut ∙ ap (λ (retired : List Run). retired ++ run ∷ []) whole.cut;
    })

-- what a search, a free and a resize answer names no run that was cut
pub found_whole : (found : Option ℕ) → run_cut (address_answer found) ≡ []
found_whole None = refl
found_whole (Some address) = refl

pub freed_whole : (fault : Option FreeFault) → run_cut (fault_answer fault) ≡ []
freed_whole None = refl
freed_whole (Some (fault.NotAnElement address)) = refl
freed_whole (Some (fault.IsZone tag)) = refl

pub resized_whole : (fits : Bool) → run_cut (resize_answer fits) ≡ []
resized_whole true = refl
resized_whole false = refl

module _ (index : ℕ) (run : Run) (old new : ℕ → HeapPart) (gives : GivesUp index run (old index) (new index))
    (apart : (other : ℕ) → other ≢ index → new other ≡ old other) where
  part_alone : (heap : ℕ) (same : heap ≡ index) → new heap ≡ record (old heap) { holding = Some (without_run run gives.before) }
  part_alone heap same =
      ap new same ∙ gives.left ∙ ap (λ (index : ℕ). record (old index) { holding = Some (without_run run gives.before) }) (sym same)

  -- what it made in heaps, their sockets and the armed ask stay
  pub given_up_part : (heap : ℕ) → IsSamePart (old heap) (new heap)
  given_up_part heap = ⊎_elim
      (λ here. record {
        entries = ap (λ (part : HeapPart). part.entries) (part_alone heap here.1);
        serves = ap (λ (part : HeapPart). part.serves) (part_alone heap here.1);
        told = ap (λ (part : HeapPart). part.told) (part_alone heap here.1);
        claims = ap (λ (part : HeapPart). part.claims) (part_alone heap here.1);
      })
      (λ there. record {
        entries = ap (λ (part : HeapPart). part.entries) (apart heap there.1);
        serves = ap (λ (part : HeapPart). part.serves) (apart heap there.1);
        told = ap (λ (part : HeapPart). part.told) (apart heap there.1);
        claims = ap (λ (part : HeapPart). part.claims) (apart heap there.1);
      })
      (eqb_tells heap index)

  pub given_up_armed : (heap : ℕ) → (new heap).armed ≡ (old heap).armed
  given_up_armed heap = ⊎_elim (λ here. ap (λ (part : HeapPart). part.armed) (part_alone heap here.1))
      (λ there. ap (λ (part : HeapPart). part.armed) (apart heap there.1)) (eqb_tells heap index)
