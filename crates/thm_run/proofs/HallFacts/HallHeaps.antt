-- The heaps that a hall of all participants keeps at the end: each is the one of its slot, as it opened, and sound.
use Rattle.std.proofs.Common.{◌≡◌, ◌∙◌, ℕ, zero, suc, List, [], ◌∷◌, map, get_or, Option, Some, None, refl, sym, ap, subst, arith}
use Rattle.std.specs.List.{All, slice_get}
use Rattle.std.specs.Option.{option_map}
use Rattle.std.proofs.lemmas.List.Elements.{All-head, All-tail}
use Rattle.std.proofs.lemmas.Option.{same_Some, slice_get-get_or, slice_get-map, slice_get_within}
use Rattle.hp_hall.specs.Later.{IsLaterHeap}
use Rattle.hp_plain.specs.Course.{IsLater}
use Rattle.hp_plain.specs.CourseLaws.{IsSoundAndArmed}
use Rattle.hp_plain.specs.HallSteps.{heap_slot, slots_of}
use Rattle.hp_plain.specs.HallView.{HallView, IsHeapAtHome, SlotView, slot_at}
use Rattle.hp_plain.specs.Opening.{HandsOut, heaps_in}
use Rattle.hp_segs.specs.Standing.{IsArmed}
use Rattle.hp_hall.specs.Views.{HeldHeap}
use Rattle.hp_stats.specs.StatViews.{PenView}
use Rattle.hp_zone.specs.declared.names.Names.{Names as NamesView}
use Rattle.hp_hall.specs.declared.kept.Kept.{Kept}
use Rattle.hp_hall.specs.declared.kept.Kept.TheVariants.{Heap, Names, Segments}
use Rattle.hp_plain.proofs.Slotted.{value_at}
use Rattle.hp_plain.proofs.Walks.{values_stay_sound}
use Rattle.hp_heap.specs.History.{HeapView, IsSound}
use Rattle.hp_script.specs.declared.workload.Workload.{Workload}
use Rattle.hp_segs.specs.SegsView.{SegsView}
use Rattle.hp_segs.specs.Sound as segments
use Rattle.hp_proc.specs.Ends.{AreHeapsOf, IsHeapAt}
use Rattle.hp_proc.specs.LinesDone.{Course}
use Rattle.hp_serve.specs.Party.{Party}
use Rattle.thm_run.specs.SoFar.{AreSoundNames, SoFar, first_hall, first_names, first_segs}
use Rattle.thm_run.proofs.SeatFacts.FirstSegs.{armed_first}
use Rattle.thm_run.proofs.HallFacts.HallEnds.{heaps_many, opened_many}
use Rattle.thm_run.proofs.RunFacts.Opens.{few_sockets}

-- what holds at each place holds of all
pub all_from_places : {X : Type 0} (P : X → Type 0) (xs : List X) → ((place : ℕ) (x : X) → slice_get xs place ≡ Some x → P x) → All P xs
all_from_places P xs each place x within = each place (get_or xs place x) (slice_get-get_or xs place x within)

-- a heap with its pen stands in the slot of its place
home_in : (held : List HeldHeap) (segs : SegsView) (names : NamesView) (index : ℕ) (one : HeldHeap) → slice_get held index ≡ Some one
    → slice_get (slots_of held segs names) index ≡ Some (heap_slot one)
home_in [] segs names index one at = cc
home_in (first ∷ held) segs names zero one at = ap (option_map heap_slot) at
home_in (first ∷ held) segs names (suc index) one at = home_in held segs names index one at

-- each of the heaps has its pen
pub record HasPen (held : List HeldHeap) (index : ℕ) (heap : HeapView) : Type 0 where
  pub pen : PenView
  pub there : slice_get held index ≡ Some (record { heap = heap; pen = pen })

pen_of : (held : List HeldHeap) (index : ℕ) (heap : HeapView) (one : Option HeldHeap) → slice_get held index ≡ one
    → option_map (λ (one : HeldHeap). one.heap) one ≡ Some heap → HasPen held index heap
pen_of held index heap None at is = cc
pen_of held index heap (Some one) at is =
    let same : one.heap ≡ heap = same_Some one.heap heap is in
    record { pen = one.pen; there = at ∙ ap (λ (heap : HeapView). Some (record one { heap = heap })) same }

pub has_pen : (held : List HeldHeap) (heaps : List HeapView) (index : ℕ) (heap : HeapView) → heaps_in held ≡ heaps
    → slice_get heaps index ≡ Some heap → HasPen held index heap
has_pen held heaps index heap are at =
    pen_of held index heap (slice_get held index) refl
    (sym (slice_get-map (λ (one : HeldHeap). one.heap) held index) ∙ ap (λ (heaps : List HeapView). slice_get heaps index) are ∙ at)

-- sound heaps, a sound segment value and sound names are sound in their slots
pub values_sound : (held : List HeldHeap) (segs : SegsView) (names : NamesView) (number : ℕ) (kept : Kept) → All IsSound (heaps_in held)
    → segments.IsSound segs → IsArmed segs → AreSoundNames names
    → slice_get (map (λ (slot : SlotView). slot.kept) (slots_of held segs names)) number ≡ Some kept → IsSoundAndArmed kept
values_sound [] segs names zero kept all sound armed named at =
    subst IsSoundAndArmed (same_Some (Segments segs) kept at) (sound, armed)
values_sound [] segs names (suc zero) kept all sound armed named at = subst IsSoundAndArmed (same_Some (Names names) kept at) named
values_sound [] segs names (suc (suc number)) kept all sound armed named at = cc
values_sound (one ∷ held) segs names zero kept all sound armed named at =
    subst IsSoundAndArmed (same_Some (Heap one.heap one.pen) kept at) (All-head IsSound one.heap (heaps_in held) all)
values_sound (one ∷ held) segs names (suc number) kept all sound armed named at =
    values_sound held segs names number kept (All-tail IsSound one.heap (heaps_in held) all) sound armed named at

module _ (workload : Workload) (courses : List Course) (parties : List Party) (hall : HallView)
    (so : SoFar workload courses parties hall) where
  pub first_sound : segments.IsSound (first_segs workload)
  first_sound = subst segments.IsSound so.is_first.segs so.is_first.sound

  module _ (heaps : List HeapView) (segs : SegsView) (names : NamesView) (out : HandsOut hall.slots heaps segs names) where
    -- each heap is at home, with a pen
    pub heap_home : (index : ℕ) (heap : HeapView) → slice_get heaps index ≡ Some heap
        → (pen : PenView) × IsHeapAtHome hall index (record { heap = heap; pen = pen })
    heap_home index heap at =
        let its = has_pen out.held heaps index heap out.heaps_are at in (
          its.pen,
          ap (λ (slots : List SlotView). slice_get slots index) out.slots_are ∙ home_in out.held segs names index _ its.there,
        )

    -- and is one that opened there
    pub opened_as : (index : ℕ) (heap : HeapView) → slice_get heaps index ≡ Some heap
        → (was : HeldHeap) × (slice_get so.held index ≡ Some was) × IsLaterHeap was.heap heap
    opened_as index heap at =
        let many = heaps_many workload courses parties hall so heaps segs names out in
        let home = heap_home index heap at in
        let one : HeldHeap = record { heap = heap; pen = home.0 } in
        let was : HeldHeap = get_or so.held index one in
        let there : slice_get so.held index ≡ Some was =
        slice_get-get_or so.held index one
        (omega (arith, many, slice_get_within heaps index heap at, opened_many workload courses parties hall so)) in
        let later : IsLater (slot_at (first_hall workload so.held) index) (Some (heap_slot one)) =
        subst (IsLater (slot_at (first_hall workload so.held) index)) home.1 (so.course.slots index) in
        let first : slot_at (first_hall workload so.held) index ≡ Some (heap_slot was) =
        home_in so.held (first_segs workload) (first_names workload) index was there in
        (was, there, subst (λ slot. IsLater slot (Some (heap_slot one))) first later)

    pub heap_at : (index : ℕ) (heap : HeapView) → slice_get heaps index ≡ Some heap → IsHeapAt workload index heap.plain
    heap_at index heap at =
        let was = opened_as index heap at in
        let there : slice_get (heaps_in so.held) index ≡ Some was.0.heap =
        slice_get-map (λ (one : HeldHeap). one.heap) so.held index ∙ ap (option_map (λ (one : HeldHeap). one.heap)) was.1 in
        let first = so.first_heaps.each index was.0.heap there in
        record { index = was.2.index ∙ first.index; serves = was.2.serves ∙ first.serves }

    -- the clause `heaps_are`
    pub heaps_are : AreHeapsOf workload heaps
    heaps_are = record {
      all = omega (arith, few_sockets workload.pools.items, heaps_many workload courses parties hall so heaps segs names out);
      each = heap_at;
    }

    -- the clause `heaps_sound`
    pub heaps_sound : All IsSound heaps
    heaps_sound =
        all_from_places IsSound heaps (λ index heap at.
        let home = heap_home index heap at in
        (values_stay_sound (first_hall workload so.held) hall so.course (λ number kept there.
        values_sound so.held (first_segs workload) (first_names workload) number kept so.first_heaps.sound first_sound
        (armed_first workload.pools.items workload.participants workload.absent) so.names_sound there)).1
        index (Heap heap home.0) (value_at hall index (heap_slot (record { heap = heap; pen = home.0 })) home.1))
