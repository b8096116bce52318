-- What a value in its slot says of its slot.
use Rattle.std.proofs.Common.{◌≡◌, ℕ, ◌<◌, Some, None, sym, ap, ◌∙◌, arith}
use Rattle.hp_hall.specs.HeapPairs.{pair_of}
use Rattle.hp_stats.specs.declared.stat_pair.StatPair.{StatPair}
use Rattle.hp_heap.specs.History.{entries_of}
use Rattle.hp_hall.specs.declared.kept.Kept.{Kept}
use Rattle.hp_hall.specs.declared.kept.Kept.TheVariants.{Heap, Names, Segments}
use Rattle.hp_hall.specs.declared.slot.Slot.{Slot}
use Rattle.hp_hall.specs.declared.slot.Slot.TheVariants as slots
use Rattle.hp_hall.specs.declared.slot.TheConstants.{SLOTS}
use Rattle.hp_plain.specs.HallView.{HallView, SlotView, slot_at, asks_in, heard_in, history_in, is_joined, joined_in, log_in, marks_in, named_at, named_in, names_seen, newest_by, newest_in, part_in, seen_in, segs_in}
use Rattle.hp_hall.specs.Views.{segs_of}
use Rattle.hp_hall.specs.Slots.{IsSlot, slot_number}
use Rattle.hp_hall.specs.Values.{Fits, HasAsks, HasEntries, HasLog, HasMarks, HasMember, HasNames, HasShown, asks_of, history_of, log_of, marks_of}

pub slot_below : (slot : Slot) → IsSlot slot → slot_number slot < SLOTS
slot_below (slots.Heap index) is = omega (arith, is)
slot_below slots.Segments is = omega arith
slot_below slots.NamesSlot is = omega arith

module _ (hall : HallView) (number : ℕ) (slot : SlotView) (there : slot_at hall number ≡ Some slot) where
  history_at : (index : ℕ) → index ≡ number → history_in (slot_at hall index) ≡ history_of slot.kept
  history_at index same = ap (λ (n : ℕ). history_in (slot_at hall n)) same ∙ ap history_in there

  log_at : (index : ℕ) → index ≡ number → log_in (slot_at hall index) ≡ log_of slot.kept
  log_at index same = ap (λ (n : ℕ). log_in (slot_at hall n)) same ∙ ap log_in there

  pub has_entries : (who : ℕ) (kept : Kept) → slot.kept ≡ kept → Fits number kept → HasEntries who (part_in hall who) kept
  has_entries who (Heap heap pen) is fits =
      sym (ap (entries_of who) (history_at heap.plain.index fits.0 ∙ ap history_of is))
  has_entries who (Segments segs) is fits = tt
  has_entries who (Names names) is fits = tt

  pub has_marks : (who : ℕ) (kept : Kept) → slot.kept ≡ kept → Fits number kept → HasMarks who (part_in hall who) kept
  has_marks who (Heap heap pen) is fits =
      sym (ap (λ (n : ℕ). marks_in who (slot_at hall n)) fits.0 ∙ ap (marks_in who) there ∙ ap (marks_of who) is)
  has_marks who (Segments segs) is fits = tt
  has_marks who (Names names) is fits = tt

  pub has_log : (kept : Kept) → slot.kept ≡ kept → Fits number kept → HasLog (seen_in hall) kept
  has_log (Heap heap pen) is fits = tt
  has_log (Names names) is fits = tt
  has_log (Segments segs) is fits = sym (log_at _ (sym fits) ∙ ap log_of is)

  pub has_asks : (kept : Kept) → slot.kept ≡ kept → Fits number kept → HasAsks (heard_in hall) kept
  has_asks (Heap heap pen) is fits = tt
  has_asks (Names names) is fits = tt
  has_asks (Segments segs) is fits =
      sym (ap (λ (n : ℕ). asks_in (slot_at hall n)) (sym fits) ∙ ap asks_in there ∙ ap asks_of is)

  pub has_names : (kept : Kept) → slot.kept ≡ kept → Fits number kept → HasNames (named_in hall) kept
  has_names (Heap heap pen) is fits = tt
  has_names (Segments segs) is fits = tt
  has_names (Names names) is fits =
      sym (ap (λ (n : ℕ). named_at (slot_at hall n)) (sym fits) ∙ ap named_at there ∙ ap names_seen is)

  -- of a heap at home its own pair is shown
  pub has_shown : (kept : Kept) → slot.kept ≡ kept → Fits number kept → slot.told ≡ None
      → HasShown (λ heap. (newest_in (slot_at hall heap)).entries) kept
  has_shown (Heap heap pen) is fits untold =
      let at : newest_in (slot_at hall heap.plain.index) ≡ pair_of heap =
      ap (λ (n : ℕ). newest_in (slot_at hall n)) fits.0 ∙ ap newest_in there ∙ ap (newest_by slot.kept) untold
      ∙ ap (λ (k : Kept). newest_by k None) is in
      omega (arith, ap (λ (p : StatPair). p.entries) at)
  has_shown (Segments segs) is fits untold = tt
  has_shown (Names names) is fits untold = tt

  pub has_member : (who : ℕ) (kept : Kept) → slot.kept ≡ kept → Fits number kept → HasMember who (joined_in hall who) kept
  has_member who (Heap heap pen) is fits = tt
  has_member who (Names names) is fits = tt
  has_member who (Segments segs) is fits =
      sym (ap (is_joined who) (ap (λ (n : ℕ). segs_in (slot_at hall n)) (sym fits) ∙ ap segs_in there ∙ ap segs_of is))
