-- A hall that opens with heaps of which no call was made has no mark on a chunk: there is no chunk.
use Rattle.std.proofs.Common.{◌≡◌, ◌∙◌, ℕ, zero, suc, List, [], ◌∷◌, Some, None, refl, ap, subst}
use Rattle.std.specs.List.{All, slice_get}
use Rattle.std.proofs.lemmas.List.Elements.{All-head, All-tail}
use Rattle.hp_hall.specs.Naming.{marked_by}
use Rattle.hp_hall.specs.Views.{HeldHeap}
use Rattle.hp_heap.specs.History.{HeapView, IsSound, opening_of, replay}
use Rattle.hp_plain.specs.HallSteps.{slots_of}
use Rattle.hp_plain.specs.HallView.{marks_in}
use Rattle.hp_plain.specs.Opening.{heaps_in}
use Rattle.hp_script.specs.declared.workload.Workload.{Workload}
use Rattle.hp_segs.specs.SegsView.{SegsView}
use Rattle.hp_zone.specs.declared.names.Names.{Names as NamesView}
use Rattle.thm_run.specs.SoFar.{AreFirstHeaps, first_names, first_segs}

sound_there : (heaps : List HeapView) (place : ℕ) (heap : HeapView) → All IsSound heaps → slice_get heaps place ≡ Some heap → IsSound heap
sound_there [] place heap sound there = let none : None ≡ Some heap = there in cc
sound_there (first ∷ heaps) zero heap sound there =
    let is : Some first ≡ Some heap = there in
    let same : first ≡ heap = cc in
    subst IsSound same (All-head IsSound first heaps sound)
sound_there (first ∷ heaps) (suc place) heap sound there = sound_there heaps place heap (All-tail IsSound first heaps sound) there

unused_unmarked : (who : ℕ) (heap : HeapView) → IsSound heap → heap.history ≡ [] → marked_by who heap.plain ≡ []
unfolding marked_by
unused_unmarked who heap sound none =
    ap (marked_by who) (sound.stands.left ∙ ap (replay (opening_of heap.plain)) none)

opened_unmarked : (segs : SegsView) (names : NamesView) (who : ℕ) (heaps : List HeldHeap) (number : ℕ)
    → ((place : ℕ) (heap : HeapView) → slice_get (heaps_in heaps) place ≡ Some heap → marked_by who heap.plain ≡ [])
    → marks_in who (slice_get (slots_of heaps segs names) number) ≡ []
opened_unmarked segs names who [] zero none = refl
opened_unmarked segs names who [] (suc zero) none = refl
opened_unmarked segs names who [] (suc (suc number)) none = refl
opened_unmarked segs names who (heap ∷ heaps) zero none = none 0 heap.heap refl
opened_unmarked segs names who (heap ∷ heaps) (suc number) none =
    opened_unmarked segs names who heaps number (λ place one at. none (suc place) one at)

-- nobody has a mark in the hall that opens for a workload
pub first_unmarked : (workload : Workload) (held : List HeldHeap) → AreFirstHeaps workload (heaps_in held) → (who number : ℕ)
    → marks_in who (slice_get (slots_of held (first_segs workload) (first_names workload)) number) ≡ []
first_unmarked workload held first who number =
    opened_unmarked (first_segs workload) (first_names workload) who held number (λ place heap at.
    unused_unmarked who heap (sound_there (heaps_in held) place heap first.sound at) (first.unused place heap at))
