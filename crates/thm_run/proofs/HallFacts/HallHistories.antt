-- The histories of the heaps of a hall of all participants: each one's entries are its own calls, in their order.
use Rattle.std.proofs.Common.{◌≡◌, ◌∙◌, ℕ, zero, suc, ◌<◌, ◌≤◌, ⊎_elim, List, [], ◌∷◌, length, Some, refl, ap, sym, arith}
use Rattle.std.specs.List.{slice_get}
use Rattle.std.proofs.lemmas.Bool.{cases_lt}
use Rattle.std.proofs.lemmas.List.{length-replicate}
use Rattle.std.proofs.lemmas.Option.{slice_get_within}
use Rattle.hp_base.specs.declared.limits.TheConstants.{MAX_HEAPS}
use Rattle.hp_plain.specs.HallSteps.{slots_of}
use Rattle.hp_plain.specs.HallView.{HallView, SlotView, history_in, slot_at}
use Rattle.hp_hall.specs.Mail.{steps_of}
use Rattle.hp_hall.specs.Own.{after_ack}
use Rattle.hp_plain.proofs.Opened.{opened_unused}
use Rattle.hp_plain.proofs.Walks.{idle_add_no_entries, undeclared_do_nothing}
use Rattle.hp_heap.specs.History.{HeapView, entries_of}
use Rattle.hp_script.specs.declared.workload.Workload.{Workload}
use Rattle.hp_hall.specs.Views.{HeldHeap}
use Rattle.hp_plain.specs.Opening.{HandsOut}
use Rattle.hp_segs.specs.SegsView.{SegsView}
use Rattle.hp_zone.specs.declared.names.Names.{Names as NamesView}
use Rattle.hp_proc.specs.Courses.{calls_in}
use Rattle.hp_proc.specs.Ends.{AreGrown, KeepsCalls, history_by, none_made}
use Rattle.hp_heap.specs.HistoryLaws.{runs_grown}
use Rattle.hp_proc.specs.Histories.{entries_for}
use Rattle.hp_proc.specs.LinesDone.{Course, courses_of, trace_of}
use Rattle.hp_serve.specs.Party.{Party}
use Rattle.thm_run.specs.SoFar.{SoFar, first_hall, first_names, first_segs}
use Rattle.thm_run.proofs.WhatWentBack.GoneSoFar.{none_of_others}
use Rattle.thm_run.proofs.HallFacts.HallEnds.{heaps_many, party_of}
use Rattle.thm_run.proofs.HallFacts.HallHeaps.{heap_home}
use Rattle.thm_run.proofs.RunFacts.SoFarFacts.{held_many}

pub none_in_none : (who : ℕ) → entries_of who [] ≡ []
unfolding entries_of
none_in_none who = refl

-- after the heaps there is no history
history_beyond : (held : List HeldHeap) (segs : SegsView) (names : NamesView) (index : ℕ) → length held ≤ index
    → history_in (slice_get (slots_of held segs names) index) ≡ []
history_beyond [] segs names zero beyond = refl
history_beyond [] segs names (suc zero) beyond = refl
history_beyond [] segs names (suc (suc index)) beyond = refl
history_beyond (one ∷ held) segs names zero beyond = absurd (omega (arith, beyond))
history_beyond (one ∷ held) segs names (suc index) beyond = history_beyond held segs names index (omega (arith, beyond))

module _ (workload : Workload) (courses : List Course) (parties : List Party) (hall : HallView)
    (so : SoFar workload courses parties hall) where
  -- who isn't declared made no step
  pub undeclared_idle : (who : ℕ) → workload.participants ≤ who → steps_of who so.course.steps ≡ []
  undeclared_idle who beyond =
      undeclared_do_nothing (first_hall workload so.held) hall so.course who
      (omega (arith, beyond, length-replicate workload.participants (after_ack 0)))

  -- and has no entry
  undeclared_none : (who : ℕ) → workload.participants ≤ who → (index : ℕ) → entries_of who (history_in (slot_at hall index)) ≡ []
  undeclared_none who beyond index =
      idle_add_no_entries (first_hall workload so.held) hall so.course who (undeclared_idle who beyond) index
      ∙ opened_unused (first_segs workload) (first_names workload) so.held workload.participants so.first_heaps.unused who index

  -- each one's entries in a slot are its own calls
  entries_there : (who index : ℕ)
      → entries_of who (history_in (slot_at hall index)) ≡ entries_for who index 1 (calls_in (trace_of (courses_of who courses)))
  entries_there who index =
      ⊎_elim
      (λ (below : who < workload.participants).
      let its = party_of workload courses parties hall so who below in
      (so.each who its.0 its.1).entries index)
      (λ (beyond : workload.participants ≤ who).
      undeclared_none who beyond index
      ∙ ap (λ (own : List Course). entries_for who index 1 (calls_in (trace_of own)))
      (sym (none_of_others workload.participants who courses beyond so.built)))
      (cases_lt who workload.participants)

  module _ (heaps : List HeapView) (segs : SegsView) (names : NamesView) (out : HandsOut hall.slots heaps segs names) where
    history_there : (index : ℕ) (heap : HeapView) → slice_get heaps index ≡ Some heap → history_in (slot_at hall index) ≡ heap.history
    history_there index heap at = ap history_in (heap_home workload courses parties hall so heaps segs names out index heap at).1

    -- the clause `calls`
    pub calls_are : KeepsCalls (λ who. trace_of (courses_of who courses)) heaps
    calls_are who index heap at = sym (ap (entries_of who) (history_there index heap at)) ∙ entries_there who index

    within_heaps : (index : ℕ) (heap : HeapView) → slice_get heaps index ≡ Some heap → index < MAX_HEAPS
    within_heaps index heap at =
        omega (arith, slice_get_within heaps index heap at, heaps_many workload courses parties hall so heaps segs names out)

    -- the clause `in_order`
    pub in_order : (index : ℕ) (heap : HeapView) → slice_get heaps index ≡ Some heap → heap.history ≡ history_by index none_made courses
    in_order index heap at = sym (history_there index heap at) ∙ so.in_order index

    -- the clause `grown`
    pub grown_are : AreGrown heaps so.now.segs
    grown_are index heap at = ap runs_grown (in_order index heap at) ∙ so.grown index (within_heaps index heap at)

    -- no call was of a heap that isn't there
    pub no_calls_beyond : (who index : ℕ) → length heaps ≤ index
        → entries_for who index 1 (calls_in (trace_of (courses_of who courses))) ≡ []
    no_calls_beyond who index beyond =
        let beyond_held : length out.held ≤ index =
        omega (arith, beyond, held_many out.held, ap (λ (heaps : List HeapView). length heaps) out.heaps_are) in
        sym (entries_there who index)
        ∙ (ap (λ (slots : List SlotView). entries_of who (history_in (slice_get slots index))) out.slots_are
        ∙ (ap (entries_of who) (history_beyond out.held segs names index beyond_held) ∙ none_in_none who))
