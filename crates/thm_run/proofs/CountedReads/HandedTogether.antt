-- Names and the state of a heap that a line is handed one after the other agree: the hall's do when the line begins.
use Rattle.std.proofs.Common.{◌≡◌, ◌∙◌, ◌==◌, ℕ, ◌<◌, List, [], ◌∷◌, ◌++◌, filter, map, Option, Some, None, ap, refl, sym, subst, arith}
use Rattle.std.specs.List.{slice_get}
use Rattle.std.specs.List.Sorted.{IsPermutation}
use Rattle.std.specs.Prelude.{Contains, unwrap_or}
use Rattle.hp_base.specs.declared.limits.TheConstants.{MAX_HEAPS}
use Rattle.hp_external.specs.Tie.{AreListed}
use Rattle.hp_hall.specs.AgreedNames.{directory_name, directory_range}
use Rattle.hp_hall.specs.Naming.{Naming, naming_of}
use Rattle.hp_hall.specs.Values.{Fits, history_of}
use Rattle.hp_hall.specs.declared.kept.Kept.{Kept}
use Rattle.hp_hall.specs.declared.kept.Kept.TheVariants.{Heap, Names, Segments}
use Rattle.hp_heap.specs.History.{HeapView}
use Rattle.hp_heap.specs.PlainHeap.{PlainHeap, opening_heap}
use Rattle.hp_heap.specs.declared.entry.Entry.{Entry}
use Rattle.hp_plain.specs.HallView.{HallView, IsHall, SlotView, naming_at, naming_in, slot_at}
use Rattle.hp_proc.specs.Doing.{Done}
use Rattle.hp_proc.specs.Doing.Done.{HeapSeen, NamesRead}
use Rattle.hp_proc.specs.Handing.{shared_of}
use Rattle.hp_proc.specs.LinesDone.{Course}
use Rattle.hp_proc.specs.NamesAtEnd.{AreHandedTogether, SaysOf, called, heap_by}
use Rattle.hp_proc.specs.SharedNames.{SharedNames, directory_in}
use Rattle.hp_script.specs.declared.answer.Answer.{Answer}
use Rattle.hp_script.specs.declared.line.Line.{Line}
use Rattle.hp_script.specs.declared.workload.Workload.{Workload}
use Rattle.hp_serve.specs.Party.{Party}
use Rattle.hp_stats.specs.StatViews.{PenView}
use Rattle.hp_zone.specs.Directory.{PlainDirectory, heap_at}
use Rattle.hp_zone.specs.declared.heap_name.HeapRange.{HeapRange}
use Rattle.thm_run.proofs.CountedReads.HandedNames.{read_first}
use Rattle.thm_run.proofs.CountedReads.HandedStates.{slot, seen_is, took}
use Rattle.thm_run.proofs.CountedReads.HomeHeaps.{home_heap, home_replay}
use Rattle.thm_run.proofs.LineSteps.LineComes.{course_of, names_left, trace}
use Rattle.thm_run.proofs.NamesEnd.AgreedAtEnd.{called_is, listed_so}
use Rattle.thm_run.proofs.NamesEnd.NamesHome.{agreed_so_far, directory_so_far}
use Rattle.thm_run.specs.EndLaws.{GoesBy, IsGiven}
use Rattle.thm_run.specs.SoFar.{SoFar}

module _ (workload : Workload) (courses : List Course) (parties behind : List Party) (old new : HallView) (line : Line) (answer : Answer)
    (given : IsGiven workload) (is_hall : IsHall old) (so : SoFar workload courses parties old)
    (goes : GoesBy workload courses line answer parties behind old new) where
  module _ (names : SharedNames) (index : ℕ) (history : List Entry) (rest : List Done)
      (is : trace workload courses parties behind old new line answer given so goes ≡ NamesRead names ∷ (HeapSeen index history ∷ rest)) where
    names_are : names ≡ shared_of so.names
    names_are =
        (read_first so.names (trace workload courses parties behind old new line answer given so goes) [] (HeapSeen index history ∷ rest) names
        (names_left workload courses parties behind old new line answer given so goes).1.reads is).its

    plain_is : directory_in workload.pools.items names ≡ so.names.heaps.plain
    plain_is = ap (directory_in workload.pools.items) names_are ∙ directory_so_far workload courses parties old so

    few : index < MAX_HEAPS
    few = (took workload courses parties behind old new line answer given is_hall so goes index history (NamesRead names ∷ []) rest is).1

    abbrev own_slot : SlotView
    own_slot = (slot workload courses parties behind old new line answer given is_hall so goes index history (NamesRead names ∷ []) rest is).it

    at_slot : slot_at old index ≡ Some own_slot
    at_slot = (slot workload courses parties behind old new line answer given is_hall so goes index history (NamesRead names ∷ []) rest is).there

    history_is : history ≡ history_of own_slot.kept
    history_is = (seen_is workload courses parties behind old new line answer given is_hall so goes index history (NamesRead names ∷ []) rest is).0

    of_heap : (heap : HeapView) (pen : PenView) → own_slot.kept ≡ Heap heap pen → SaysOf workload.pools.items names index history
    of_heap heap pen kept =
        let agreed = (agreed_so_far workload courses parties old so is_hall).each index few in
        let naming : naming_at old index ≡ naming_of heap.plain =
        ap (λ (slot : Option SlotView). unwrap_or (naming_in slot) (naming_of (opening_heap index None))) at_slot
        ∙ ap (λ (kept : Kept). unwrap_or (naming_in (Some (record own_slot { kept = kept }))) (naming_of (opening_heap index None))) kept in
        let state : heap.plain ≡ heap_by workload.pools.items index history =
        home_replay workload courses parties old so index own_slot heap pen at_slot kept
        ∙ ap (heap_by workload.pools.items index) (sym (history_is ∙ ap history_of kept)) in
        let its_index : heap.plain.index ≡ index = (home_heap workload courses parties old so index own_slot heap pen at_slot kept).index in
        record {
          called = ap (λ (plain : PlainDirectory). heap_at plain index) plain_is
              ∙ agreed.name
              ∙ ap directory_name naming
              ∙ called_is heap.plain
              ∙ ap called state;
          listed = subst (λ (plain : PlainDirectory). AreListed plain.ranges (heap_by workload.pools.items index history)) (sym plain_is)
              (subst (AreListed so.names.heaps.plain.ranges) state
              (listed_so so.names.heaps.plain.ranges index heap.plain its_index
              (subst (λ (naming : Naming). IsPermutation (filter (λ (range : HeapRange). range.index == index) so.names.heaps.plain.ranges)
              (map (directory_range index) naming.chunks)) naming agreed.ranges)));
        }

    says : SaysOf workload.pools.items names index history
    says = by_kept own_slot.kept refl (is_hall.fits index own_slot at_slot)
      where
        by_kept : (kept : Kept) → own_slot.kept ≡ kept → Fits index own_slot.kept → SaysOf workload.pools.items names index history
        by_kept (Heap heap pen) kept fits = of_heap heap pen kept
        by_kept (Segments segs) kept fits =
            let its : index ≡ MAX_HEAPS = subst (Fits index) kept fits in
            absurd (omega (arith, few, its))
        by_kept (Names names) kept fits =
            let its : Fits index (Names names) = subst (Fits index) kept fits in
            absurd (omega (arith, few, its))

  pub line_together : AreHandedTogether workload.pools.items (course_of workload courses parties behind old new line answer given so goes)
  line_together names index history rest is = says names index history rest is
