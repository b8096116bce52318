-- The state of a heap that a line is handed is the one that the lines before it leave.
use Rattle.std.proofs.Common.{◌≡◌, ◌∙◌, ℕ, ◌+◌, ◌<◌, List, [], ◌∷◌, ◌++◌, append-nil, arith, Option, Some, None, ap, sym, subst}
use Rattle.std.specs.Prelude.{Contains, slice_get}
use Rattle.hp_base.specs.declared.limits.TheConstants.{MAX_HEAPS}
use Rattle.hp_hall.specs.Values.{Fits, history_of}
use Rattle.hp_hall.specs.declared.kept.Kept.{Kept}
use Rattle.hp_hall.specs.declared.kept.Kept.TheVariants.{Heap, Names, Segments}
use Rattle.hp_heap.specs.declared.entry.Entry.{Entry}
use Rattle.hp_plain.proofs.Slotted.{value_at}
use Rattle.hp_plain.specs.HallView.{HallView, IsHall, SlotView, history_in, lines_at}
use Rattle.hp_proc.specs.Courses.{OwnCall, calls_in}
use Rattle.hp_proc.specs.Doing.{Done}
use Rattle.hp_proc.specs.Doing.Done.{HeapSeen}
use Rattle.hp_proc.specs.Ends.{history_by, none_made}
use Rattle.hp_proc.specs.LinesDone.{Course}
use Rattle.hp_script.specs.declared.answer.Answer.{Answer}
use Rattle.hp_script.specs.declared.line.Line.{Line}
use Rattle.hp_script.specs.declared.workload.Workload.{Workload}
use Rattle.hp_serve.specs.Party.{Party}
use Rattle.thm_run.proofs.CountedReads.HeapsSeen.{acts_seen, among_at, seen_held}
use Rattle.thm_run.proofs.GrownHeaps.GrownLines.{calls_made, history_append}
use Rattle.thm_run.proofs.InTurnByHolds.HeldCalls.{none_for}
use Rattle.thm_run.proofs.LineSteps.LineComes.{course_of, slot_along, trace}
use Rattle.thm_run.proofs.RunFacts.SoFarFacts.{IsAt, at_place}
use Rattle.thm_run.proofs.SlotAlong.{IsNoSegs, along_front}
use Rattle.thm_run.proofs.PickedFronts.{at}
use Rattle.thm_run.specs.EndLaws.{GoesBy, IsGiven, tells_one_more}
use Rattle.thm_run.specs.SoFar.{SoFar}

module _ (workload : Workload) (courses : List Course) (parties behind : List Party) (old new : HallView) (line : Line) (answer : Answer)
    (given : IsGiven workload) (is_hall : IsHall old) (so : SoFar workload courses parties old)
    (goes : GoesBy workload courses line answer parties behind old new) where
  -- the state of a heap that it is handed
  no_segs_at : (number : ℕ) (kept : Kept) → number < MAX_HEAPS → Fits number kept → IsNoSegs kept
  no_segs_at number (Heap heap pen) few fits = tt
  no_segs_at number (Segments segs) few fits = omega (arith, few, fits)
  no_segs_at number (Names names) few fits = tt

  nothing_in_hand : (heap : ℕ) → None ≡ Some heap → ⊥
  nothing_in_hand heap is = cc

  module _ (heap : ℕ) (history : List Entry) (first rest : List Done) (at_seen : (trace workload courses parties behind old new line answer given so goes) ≡ first ++ HeapSeen heap history ∷ rest) where
    pub took : Contains goes.does.does.held heap × (heap < MAX_HEAPS)
    took =
        seen_held workload.participants heap goes.does.does.does.acts history
        (subst (λ (trace : List Done). Contains trace (HeapSeen heap history)) (sym at_seen) (among_at first (HeapSeen heap history) rest))

    pub slot : IsAt old.slots heap
    slot = at_place old.slots heap (omega (arith, took.1, is_hall.slots))

    no_segs : IsNoSegs slot.it.kept
    no_segs = no_segs_at heap slot.it.kept took.1 (is_hall.fits heap slot.it slot.there)

    pub seen_is : (history ≡ history_of slot.it.kept) × ((own : OwnCall) → Contains (calls_in first) own → own.heap ≡ heap → ⊥)
    seen_is =
        let along =
        slot_along workload courses parties behind old new line answer given so goes heap slot.it.kept (value_at old heap slot.it slot.there)
        no_segs in
        acts_seen workload.participants heap took.1 line.participant slot.it.kept no_segs goes.does.does.does.acts (nothing_in_hand heap)
        goes.does.does.once along.last
        (along_front heap line.participant goes.does.does.does.steps (tells_one_more line.participant (lines_at old line.participant))
        slot.it.kept along.last (tt, (tt, tt)) along.along)
        first rest history at_seen

    pub seen_left : history ≡ history_by heap none_made (courses ++ at (course_of workload courses parties behind old new line answer given so goes) first ∷ [])
    seen_left =
        seen_is.0
        ∙ ap history_in (sym slot.there)
        ∙ so.in_order heap
        ∙ sym
        (history_append heap none_made courses (at (course_of workload courses parties behind old new line answer given so goes) first)
        ∙ ap (λ (entries : List Entry). history_by heap none_made courses ++ entries)
        (none_for line.participant heap (calls_made none_made line.participant courses + 1) (calls_in first) seen_is.1)
        ∙ append-nil (history_by heap none_made courses))
