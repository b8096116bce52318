-- What a later hall shows to a participant of the heaps and of the segment value, where it gave no heap back: all is at home, and it has no
-- entry more.
use Rattle.std.proofs.Common.{◌≡◌, ◌∙◌, ℕ, ◌<◌, eqb, ne_eqb, Bool, false, List, [], ◌∷◌, ◌++◌, length, append-nil, cond, Option, Some, None, refl, ap, subst, arith, sum_by}
use Rattle.std.proofs.lemmas.Bool.{cond-false}
use Rattle.std.specs.List.{AllByRecursion}
use Rattle.std.specs.Option.{option_map}
use Rattle.std.proofs.lemmas.List.Sums.{sum_by-cons}
use Rattle.hp_base.specs.declared.limits.TheConstants.{MAX_HEAPS}
use Rattle.hp_heap.specs.declared.entry.Entry.{Entry}
use Rattle.hp_heap.specs.History.{entries_of}
use Rattle.hp_hall.specs.Later.{AreLaterNames, IsLaterHeap, IsLaterKept, IsLaterSegs}
use Rattle.hp_plain.specs.Course.{IsCourse, IsLater}
use Rattle.hp_plain.specs.HallView.{HallView, IsHome, SlotView, asks_in, heard_in, history_in, is_held_by, is_held_heap, log_in, part_in, seen_in, segs_in, serves_in, serves_of, slot_at}
use Rattle.hp_hall.specs.Holding.{HeapPart}
use Rattle.hp_segs.specs.Standing.{standing_of}
use Rattle.hp_plain.specs.Opening.{AreHome}
use Rattle.hp_hall.specs.Values.{asks_of, log_of}
use Rattle.hp_plain.specs.Keeping.{values_in}
use Rattle.hp_hall.specs.declared.kept.Kept.{Kept}
use Rattle.hp_hall.specs.declared.kept.Kept.TheVariants.{Heap, Names, Segments}
use Rattle.hp_hall.specs.Views.{HeldHeap, segs_of}
use Rattle.hp_hall.proofs.OneKind.{by_kind}
use Rattle.hp_hall.specs.declared.slot.TheConstants.{SLOTS}
use Rattle.hp_plain.proofs.Given.{entries_of-append}
use Rattle.hp_plain.proofs.Slotted.{unheld_heap, value_at}
use Rattle.hp_segs.specs.SegsView.{SegsView}
use Rattle.thm_run.proofs.HeapGivers.{HasMoreOf, NoOtherGives, kept_more, same_more}

-- THE SEGMENT VALUE

log_kept : (kept : Kept) (segs : SegsView) → segs_of kept ≡ Some segs → log_of kept ≡ segs.log
log_kept (Heap heap pen) segs is = cc
log_kept (Names names) segs is = cc
log_kept (Segments value) segs is = cc

asks_kept : (kept : Kept) (segs : SegsView) → segs_of kept ≡ Some segs → asks_of kept ≡ segs.asks
asks_kept (Heap heap pen) segs is = cc
asks_kept (Names names) segs is = cc
asks_kept (Segments value) segs is = cc

log_slot : (slot : Option SlotView) (segs : SegsView) → segs_in slot ≡ Some segs → log_in slot ≡ segs.log
log_slot None segs is = cc
log_slot (Some slot) segs is = log_kept slot.kept segs is

asks_slot : (slot : Option SlotView) (segs : SegsView) → segs_in slot ≡ Some segs → asks_in slot ≡ segs.asks
asks_slot None segs is = cc
asks_slot (Some slot) segs is = asks_kept slot.kept segs is

-- what everybody sees is the log and the outcomes of the segment value
pub log_shown : (hall : HallView) (segs : SegsView) → segs_in (slot_at hall MAX_HEAPS) ≡ Some segs → seen_in hall ≡ segs.log
log_shown hall segs is = log_slot (slot_at hall MAX_HEAPS) segs is

pub asks_shown : (hall : HallView) (segs : SegsView) → segs_in (slot_at hall MAX_HEAPS) ≡ Some segs → heard_in hall ≡ segs.asks
asks_shown hall segs is = asks_slot (slot_at hall MAX_HEAPS) segs is

-- HISTORIES

module _ (of : ℕ → Type 0) (old new : HallView) (course : IsCourse old new) (gives : NoOtherGives of (length old.owns) course.steps) where
  -- what came to a history is of those that give heaps back
  pub history_on : (number : ℕ) → HasMoreOf of (history_in (slot_at old number)) (history_in (slot_at new number))
  history_on number = by_slots (slot_at old number) (slot_at new number) refl refl (course.slots number)
    where
      by_slots : (before slot : Option SlotView) → slot_at old number ≡ before → slot_at new number ≡ slot → IsLater before slot
          → HasMoreOf of (history_in before) (history_in slot)
      by_slots None None early late later = same_more of [] [] refl
      by_slots None (Some slot) early late later = absurd later
      by_slots (Some before) None early late later = absurd later
      by_slots (Some before) (Some slot) early late later =
          kept_more of (length old.owns) course.steps (values_in old) (values_in new) course.kept gives number before.kept slot.kept
          (value_at old number before early) (value_at new number slot late)

  none_of : (who : ℕ) (more : List Entry) → (of who → ⊥) → AllByRecursion (λ entry. of entry.caller.participant) more
      → entries_of who more ≡ []
  unfolding entries_of
  none_of who [] apart all = refl
  none_of who (entry ∷ more) apart all =
      cond-false (eqb entry.caller.participant who) (entry ∷ entries_of who more) (entries_of who more)
      (ne_eqb entry.caller.participant who (λ same. apart (subst of same all.0)))
      ∙ none_of who more apart all.1

  -- so who is not of them has no entry more
  pub entries_rest : (who : ℕ) → (of who → ⊥) → (number : ℕ)
      → entries_of who (history_in (slot_at new number)) ≡ entries_of who (history_in (slot_at old number))
  entries_rest who apart number =
      let its = history_on number in
      ap (entries_of who) its.is ∙ entries_of-append who (history_in (slot_at old number)) its.more
      ∙ ap (λ (more : List Entry). entries_of who (history_in (slot_at old number)) ++ more) (none_of who its.more apart its.all)
      ∙ append-nil (entries_of who (history_in (slot_at old number)))

-- each heap takes the pages of its socket still
pub serves_still : (old new : HallView) → IsCourse old new → (number : ℕ) → serves_in (slot_at new number) ≡ serves_in (slot_at old number)
serves_still old new course number = by_slots (slot_at old number) (slot_at new number) (course.slots number)
  where
    by_kept : (before kept : Kept) → IsLaterKept before kept → serves_of kept ≡ serves_of before
    by_kept =
        by_kind (λ (before kept : HeldHeap). IsLaterHeap before.heap kept.heap) IsLaterSegs AreLaterNames
        (λ before kept. serves_of kept ≡ serves_of before) (λ before kept later. later.serves) (λ before kept later. refl)
        (λ before kept later. refl)

    by_slots : (before slot : Option SlotView) → IsLater before slot → serves_in slot ≡ serves_in before
    by_slots None None later = refl
    by_slots None (Some slot) later = absurd later
    by_slots (Some before) None later = absurd later
    by_slots (Some before) (Some slot) later = by_kept before.kept slot.kept later

-- WHERE ALL IS AT HOME

-- its slots are those of a hall
abbrev pub HasSlots : HallView → Type 0
HasSlots hall = (number : ℕ) (slot : SlotView) → slot_at hall number ≡ Some slot → number < SLOTS

pub slots_still : (old new : HallView) → IsCourse old new → HasSlots old → HasSlots new
slots_still old new course slots number slot at = by_slot (slot_at old number) refl (course.slots number)
  where
    by_slot : (before : Option SlotView) → slot_at old number ≡ before → IsLater before (slot_at new number) → number < SLOTS
    by_slot None early later = absurd (subst (IsLater None) at later)
    by_slot (Some before) early later = slots number before early

home_unheld : (who : ℕ) (slot : Option SlotView) → IsHome slot → is_held_by who slot ≡ false
home_unheld who None home = absurd home
home_unheld who (Some slot) home = ap (is_held_heap who slot.kept) home ∙ unheld_heap who slot.kept

-- nobody holds anything of a slot that is at home, or that there is not
pub unheld_at_home : (hall : HallView) → AreHome hall → HasSlots hall → (who heap : ℕ) → (part_in hall who heap).holding ≡ None
unheld_at_home hall home slots who heap =
    ap (λ (held : Bool). cond held (option_map (standing_of heap) (segs_in (slot_at hall MAX_HEAPS))) None)
    (by_slot (slot_at hall heap) refl)
  where
    by_slot : (slot : Option SlotView) → slot_at hall heap ≡ slot → is_held_by who slot ≡ false
    by_slot None at = refl
    by_slot (Some slot) at =
        home_unheld who (Some slot) (subst IsHome at (home heap (slots heap slot at)))

-- as many entries were made in parts that have the same
pub made_alike : (old new : ℕ → HeapPart) (heaps : List ℕ) → ((heap : ℕ) → (new heap).entries ≡ (old heap).entries)
    → sum_by (λ heap. length (new heap).entries) heaps ≡ sum_by (λ heap. length (old heap).entries) heaps
made_alike old new [] same = refl
made_alike old new (heap ∷ heaps) same =
    omega (
      arith,
      sum_by-cons (λ heap. length (new heap).entries) heap heaps,
      sum_by-cons (λ heap. length (old heap).entries) heap heaps,
      ap (λ (entries : List Entry). length entries) (same heap),
      made_alike old new heaps same,
    )
