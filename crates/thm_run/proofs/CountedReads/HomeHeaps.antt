-- A heap in its slot of a hall that a workload was run in is the one of its place, and what its history leaves.
use Rattle.std.proofs.Common.{◌≡◌, ◌∙◌, ℕ, zero, suc, List, [], ◌∷◌, Option, Some, None, refl, ap, sym, subst}
use Rattle.std.specs.List.{slice_get}
use Rattle.std.specs.Option.{option_map}
use Rattle.std.proofs.lemmas.Option.{same_Some, slice_get-map}
use Rattle.hp_hall.specs.Later.{IsLaterKept}
use Rattle.hp_hall.specs.Views.{HeldHeap}
use Rattle.hp_hall.specs.declared.kept.Kept.{Kept}
use Rattle.hp_hall.specs.declared.kept.Kept.TheVariants.{Heap, Names, Segments}
use Rattle.hp_heap.specs.History.{HeapView, IsSound, replay}
use Rattle.hp_heap.specs.PlainHeap.{opening_heap}
use Rattle.hp_plain.proofs.Slotted.{value_at}
use Rattle.hp_plain.proofs.Walks.{values_stay_sound}
use Rattle.hp_plain.specs.Course.{IsLater}
use Rattle.hp_plain.specs.HallSteps.{heap_slot, home_slot, slots_of}
use Rattle.hp_plain.specs.HallView.{HallView, SlotView, slot_at}
use Rattle.hp_proc.specs.Ends.{IsHeapAt}
use Rattle.hp_proc.specs.Heaps.{sockets_of}
use Rattle.hp_proc.specs.LinesDone.{Course}
use Rattle.hp_script.specs.declared.workload.Workload.{Workload}
use Rattle.hp_segs.specs.SegsView.{SegsView}
use Rattle.hp_serve.specs.Party.{Party}
use Rattle.hp_stats.specs.StatViews.{PenView}
use Rattle.hp_zone.specs.declared.names.Names.{Names as NamesView}
use Rattle.thm_run.proofs.HallFacts.HallHeaps.{first_sound, values_sound}
use Rattle.thm_run.proofs.SeatFacts.FirstSegs.{armed_first}
use Rattle.thm_run.specs.SoFar.{SoFar, first_hall, first_names, first_segs}

-- a slot that keeps a heap is that of the heap which was there at first
opened_in : (held : List HeldHeap) (segs : SegsView) (names : NamesView) (index : ℕ) (slot : SlotView) (heap : HeapView) (pen : PenView)
    → slice_get (slots_of held segs names) index ≡ Some slot → slot.kept ≡ Heap heap pen
    → slice_get held index ≡ Some (record { heap = heap; pen = pen })
opened_in [] segs names zero slot heap pen at is =
    let kept : Segments segs ≡ Heap heap pen =
    ap (λ (slot : SlotView). slot.kept) (same_Some (home_slot (Segments segs)) slot at) ∙ is in
    cc
opened_in [] segs names (suc zero) slot heap pen at is =
    let kept : Names names ≡ Heap heap pen = ap (λ (slot : SlotView). slot.kept) (same_Some (home_slot (Names names)) slot at) ∙ is in
    cc
opened_in [] segs names (suc (suc index)) slot heap pen at is = cc
opened_in (one ∷ held) segs names zero slot heap pen at is =
    let kept : Heap one.heap one.pen ≡ Heap heap pen = ap (λ (slot : SlotView). slot.kept) (same_Some (heap_slot one) slot at) ∙ is in
    let heaps : one.heap ≡ heap = cc in
    let pens : one.pen ≡ pen = cc in
    ap (λ (heap : HeapView). Some (record one { heap = heap })) heaps
    ∙ ap (λ (pen : PenView). Some (record one { heap = heap; pen = pen })) pens
opened_in (one ∷ held) segs names (suc index) slot heap pen at is = opened_in held segs names index slot heap pen at is

module _ (workload : Workload) (courses : List Course) (parties : List Party) (hall : HallView) (so : SoFar workload courses parties hall)
    (index : ℕ) (slot : SlotView) (heap : HeapView) (pen : PenView) (at : slot_at hall index ≡ Some slot) (is : slot.kept ≡ Heap heap pen) where
  pub home_heap : IsHeapAt workload index heap.plain
  home_heap =
      by_slot (slot_at (first_hall workload so.held) index) refl
      (subst (IsLater (slot_at (first_hall workload so.held) index)) at (so.course.slots index))
    where
      by_kept : (before : SlotView) (kept : Kept) → slot_at (first_hall workload so.held) index ≡ Some before → before.kept ≡ kept
          → IsLaterKept kept (Heap heap pen) → IsHeapAt workload index heap.plain
      by_kept before (Heap was old) first its later =
          let there : slice_get so.held index ≡ Some (record { heap = was; pen = old }) =
          opened_in so.held (first_segs workload) (first_names workload) index before was old first its in
          let opened =
          so.first_heaps.each index was
          (slice_get-map (λ (one : HeldHeap). one.heap) so.held index ∙ ap (option_map (λ (one : HeldHeap). one.heap)) there) in
          record { index = later.index ∙ opened.index; serves = later.serves ∙ opened.serves }
      by_kept before (Segments segs) first its later = absurd later
      by_kept before (Names names) first its later = absurd later

      by_slot : (before : Option SlotView) → slot_at (first_hall workload so.held) index ≡ before → IsLater before (Some slot)
          → IsHeapAt workload index heap.plain
      by_slot None first later = absurd later
      by_slot (Some before) first later = by_kept before before.kept first refl (subst (IsLaterKept before.kept) is later)

  home_sound : IsSound heap
  home_sound =
      (values_stay_sound (first_hall workload so.held) hall so.course (λ number kept there.
      values_sound so.held (first_segs workload) (first_names workload) number kept so.first_heaps.sound
      (first_sound workload courses parties hall so) (armed_first workload.pools.items workload.participants workload.absent) so.names_sound there)).1
      index (Heap heap pen) (value_at hall index slot at ∙ ap (λ (kept : Kept). Some kept) is)

  -- it is what its history leaves of the heap of that place
  pub home_replay : heap.plain ≡ replay (opening_heap index (slice_get (sockets_of workload.pools.items) index)) heap.history
  home_replay =
      home_sound.stands.left
      ∙ ap (λ (n : ℕ). replay (opening_heap n heap.plain.serves) heap.history) home_heap.index
      ∙ ap (λ (serves : Option ℕ). replay (opening_heap index serves) heap.history) home_heap.serves
