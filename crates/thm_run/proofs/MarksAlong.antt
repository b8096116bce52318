-- A participant's marks on chunks stay in a hall while others alone call heaps.
use Rattle.std.proofs.Common.{◌≡◌, ◌≢◌, ◌∙◌, ℕ, List, [], ◌∷◌, ◌++◌, length, Option, Some, None, refl, ap, sym, subst}
use Rattle.std.specs.List.{AllByRecursion}
use Rattle.std.specs.Prelude.{⊤, slice_get}
use Rattle.std.proofs.lemmas.List.Sums.{fold-append}
use Rattle.hp_hall.proofs.MarksLeft.{calls_mark_alone}
use Rattle.hp_hall.specs.Later.{IsLaterKept}
use Rattle.hp_hall.specs.Naming.{marked_by}
use Rattle.hp_hall.specs.Values.{history_of, marks_of}
use Rattle.hp_hall.specs.declared.kept.Kept.{Kept}
use Rattle.hp_hall.specs.declared.kept.Kept.TheVariants.{Heap, Names, Segments}
use Rattle.hp_heap.proofs.ChunkFacts.ChunkLaw.{after-kept}
use Rattle.hp_heap.proofs.HistoryFacts.FrontsLaw.{fronts_stand}
use Rattle.hp_heap.proofs.HistoryFacts.StepLaw.{after-tiled}
use Rattle.hp_heap.specs.ChunkOrder.{AreInOrder}
use Rattle.hp_heap.specs.History.{HeapView, IsLegal, IsSound, after_entry, opening_of, replay}
use Rattle.hp_heap.specs.PlainHeap.{PlainHeap, opening_heap}
use Rattle.hp_heap.specs.Tiling.{IsTiled}
use Rattle.hp_heap.specs.declared.entry.Entry.{Entry}
use Rattle.hp_plain.proofs.Slotted.{value_at}
use Rattle.hp_plain.specs.Course.{IsCourse, IsLater}
use Rattle.hp_plain.specs.CourseLaws.{AreSoundAndArmed, IsSoundAndArmed}
use Rattle.hp_plain.specs.HallView.{HallView, SlotView, history_in, marks_in, slot_at}
use Rattle.hp_plain.specs.Keeping.{values_in}
use Rattle.thm_run.proofs.HeapGivers.{HasMoreOf, NoOtherGives}
use Rattle.thm_run.proofs.SeatFacts.PartsOn.{history_on}

-- chunks are in order after a legal history
kept_order : (heap : PlainHeap) (history : List Entry) → AreInOrder heap.chunks → IsLegal heap history → AreInOrder (replay heap history).chunks
unfolding after_entry
kept_order heap [] order legal = order
kept_order heap (entry ∷ entries) order legal =
    kept_order (after_entry heap entry) entries (after-kept entry.caller.participant entry.call heap order legal.0.allowed) legal.1

-- what comes after a part of a legal history is legal there
legal_later : (heap : PlainHeap) (history more : List Entry) → IsLegal heap (history ++ more) → IsLegal (replay heap history) more
legal_later heap [] more legal = legal
legal_later heap (entry ∷ entries) more legal = legal_later (after_entry heap entry) entries more legal.1

legal_first : (heap : PlainHeap) (history more : List Entry) → IsLegal heap (history ++ more) → IsLegal heap history
legal_first heap [] more legal = tt
legal_first heap (entry ∷ entries) more legal = (legal.0, legal_first (after_entry heap entry) entries more legal.1)

module _ (who : ℕ) where
  abbrev AreOfOthers : List Entry → Type 0
  AreOfOthers entries = AllByRecursion (λ entry. entry.caller.participant ≢ who) entries

  -- legal calls of others leave its marks
  others_leave : (heap : PlainHeap) (more : List Entry) → IsTiled heap → AreInOrder heap.chunks → IsLegal heap more → AreOfOthers more
      → marked_by who (replay heap more) ≡ marked_by who heap
  unfolding after_entry
  others_leave heap [] tiled order legal apart = refl
  others_leave heap (entry ∷ entries) tiled order legal apart =
      others_leave (after_entry heap entry) entries (after-tiled entry.caller.participant entry.call heap tiled legal.0.allowed)
      (after-kept entry.caller.participant entry.call heap order legal.0.allowed) legal.1 apart.1
      ∙ calls_mark_alone entry.caller.participant entry.call heap tiled order legal.0.allowed who (λ same. apart.0 (sym same))

  -- so do they from one sound heap to another one
  heap_marks : (old new : HeapView) (more : List Entry) → IsSound old → IsSound new → new.plain.index ≡ old.plain.index
      → new.plain.serves ≡ old.plain.serves → new.history ≡ old.history ++ more → AreOfOthers more
      → marked_by who new.plain ≡ marked_by who old.plain
  heap_marks old new more sound late index serves history apart =
      let opening : PlainHeap = opening_of old.plain in
      let same : opening_of new.plain ≡ opening =
      ap (λ (n : ℕ). opening_heap n new.plain.serves) index ∙ ap (opening_heap old.plain.index) serves in
      let legal : IsLegal opening (old.history ++ more) =
      subst (IsLegal opening) history (subst (λ (from : PlainHeap). IsLegal from new.history) same late.stands.legal) in
      let front = fronts_stand old.plain.index old.plain.serves old.history more legal in
      let left : new.plain ≡ replay (replay opening old.history) more =
      late.stands.left
      ∙ ap (λ (from : PlainHeap). replay from new.history) same
      ∙ ap (replay opening) history
      ∙ fold-append after_entry opening old.history more in
      ap (marked_by who) left
      ∙ others_leave (replay opening old.history) more front.tiled
      (kept_order opening old.history (record { rising = tt; marks = tt }) (legal_first opening old.history more legal))
      (legal_later opening old.history more legal) apart
      ∙ sym (ap (marked_by who) sound.stands.left)

  kept_marks : (before kept : Kept) (more : List Entry) → IsLaterKept before kept → IsSoundAndArmed before → IsSoundAndArmed kept
      → history_of kept ≡ history_of before ++ more → AreOfOthers more → marks_of who kept ≡ marks_of who before
  kept_marks (Heap was old) (Heap heap pen) more later sound late history apart =
      heap_marks was heap more sound late later.index later.serves history apart
  kept_marks (Heap was old) (Segments segs) more later sound late history apart = absurd later
  kept_marks (Heap was old) (Names names) more later sound late history apart = absurd later
  kept_marks (Segments was) (Heap heap pen) more later sound late history apart = absurd later
  kept_marks (Segments was) (Segments segs) more later sound late history apart = refl
  kept_marks (Segments was) (Names names) more later sound late history apart = absurd later
  kept_marks (Names was) (Heap heap pen) more later sound late history apart = absurd later
  kept_marks (Names was) (Segments segs) more later sound late history apart = absurd later
  kept_marks (Names was) (Names names) more later sound late history apart = refl

  apart_all : (of : ℕ → Type 0) (more : List Entry) → (of who → ⊥) → AllByRecursion (λ entry. of entry.caller.participant) more → AreOfOthers more
  apart_all of [] apart all = tt
  apart_all of (entry ∷ more) apart all = (λ same. apart (subst of same all.0), apart_all of more apart all.1)

  -- so it has the marks in a later hall that it had, where others alone gave heaps back
  pub marks_rest : (of : ℕ → Type 0) (old new : HallView) (course : IsCourse old new) → NoOtherGives of (length old.owns) course.steps
      → AreSoundAndArmed old → AreSoundAndArmed new → (of who → ⊥) → (number : ℕ)
      → marks_in who (slot_at new number) ≡ marks_in who (slot_at old number)
  marks_rest of old new course gives sound late apart number =
      by_slots (slot_at old number) (slot_at new number) refl refl (course.slots number) (history_on of old new course gives number)
    where
      by_slots : (before slot : Option SlotView) → slot_at old number ≡ before → slot_at new number ≡ slot → IsLater before slot
          → HasMoreOf of (history_in before) (history_in slot) → marks_in who slot ≡ marks_in who before
      by_slots None None early there later more = refl
      by_slots None (Some slot) early there later more = absurd later
      by_slots (Some before) None early there later more = absurd later
      by_slots (Some before) (Some slot) early there later more =
          kept_marks before.kept slot.kept more.more later (sound number before.kept (value_at old number before early))
          (late number slot.kept (value_at new number slot there)) more.is (apart_all of more.more apart more.all)
