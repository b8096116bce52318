-- The histories that a hall keeps at any time: each is that of a sound heap, or there is none.
use Rattle.std.proofs.Common.{◌≡◌, ℕ, List, [], Option, Some, None, refl}
use Rattle.std.specs.List.{slice_get}
use Rattle.hp_plain.specs.Course.{IsCourse}
use Rattle.hp_plain.specs.CourseLaws.{IsSoundAndArmed}
use Rattle.hp_plain.specs.HallView.{HallView, SlotView, history_in, slot_at}
use Rattle.hp_plain.specs.Keeping.{values_in}
use Rattle.hp_plain.specs.Opening.{heaps_in}
use Rattle.hp_hall.specs.Views.{HeldHeap}
use Rattle.hp_hall.specs.Values.{history_of}
use Rattle.hp_hall.specs.declared.kept.Kept.{Kept}
use Rattle.hp_hall.specs.declared.kept.Kept.TheVariants.{Heap, Names, Segments}
use Rattle.hp_plain.proofs.Slotted.{value_at}
use Rattle.hp_plain.proofs.Walks.{values_stay_sound}
use Rattle.hp_heap.specs.History.{HeapView, IsSound}
use Rattle.hp_heap.specs.declared.entry.Entry.{Entry}
use Rattle.hp_script.specs.declared.workload.Workload.{Workload}
use Rattle.hp_segs.specs.Sound as segments
use Rattle.thm_run.specs.SoFar.{AreFirstHeaps, AreSoundNames, first_hall, first_names, first_segs}
use Rattle.thm_run.proofs.SeatFacts.FirstSegs.{armed_first}
use Rattle.thm_run.proofs.HallFacts.HallHeaps.{values_sound}

-- a history of a sound heap, or none
pub data IsSoundHistory (history : List Entry) : Type 0 where
  of_heap : (heap : HeapView) → IsSound heap → history ≡ heap.history → IsSoundHistory history
  of_none : history ≡ [] → IsSoundHistory history

-- what is kept has one
of_kept : (kept : Kept) → IsSoundAndArmed kept → IsSoundHistory (history_of kept)
of_kept (Heap heap pen) sound = IsSoundHistory.of_heap heap sound refl
of_kept (Segments segs) sound = IsSoundHistory.of_none refl
of_kept (Names names) sound = IsSoundHistory.of_none refl

module _ (workload : Workload) (held : List HeldHeap) (first : AreFirstHeaps workload (heaps_in held))
    (sound : segments.IsSound (first_segs workload)) (named : AreSoundNames (first_names workload)) (hall : HallView)
    (course : IsCourse (first_hall workload held) hall) where
  -- what its slots keep is sound
  pub kept_sound : (number : ℕ) (kept : Kept) → slice_get (values_in hall) number ≡ Some kept → IsSoundAndArmed kept
  kept_sound =
      (values_stay_sound (first_hall workload held) hall course (λ number kept there.
      values_sound held (first_segs workload) (first_names workload) number kept first.sound sound
      (armed_first workload.pools.items workload.participants workload.absent) named there)).1

  history_by_slot : (index : ℕ) (slot : Option SlotView) → slot_at hall index ≡ slot → IsSoundHistory (history_in slot)
  history_by_slot index None at = IsSoundHistory.of_none refl
  history_by_slot index (Some slot) at = of_kept slot.kept (kept_sound index slot.kept (value_at hall index slot at))

  pub history_sound : (index : ℕ) → IsSoundHistory (history_in (slot_at hall index))
  history_sound index = history_by_slot index (slot_at hall index) refl
