-- Who has given all back holds nothing.
use Rattle.std.proofs.Common.{◌≡◌, ◌∙◌, ℕ, ◌<◌, ◌≤◌, Bool, true, false, Option, Some, None, refl, sym, ap, arith, ⊎_elim, if◌then◌else◌}
use Rattle.std.specs.Option.{option_map}
use Rattle.std.proofs.lemmas.Bool.{cases_lt}
use Rattle.std.proofs.lemmas.Option.{slice_get_past}
use Rattle.hp_base.specs.declared.limits.TheConstants.{MAX_HEAPS}
use Rattle.hp_segs.specs.Standing.{standing_of}
use Rattle.hp_hall.specs.HallCalls.{MayStore}
use Rattle.hp_hall.specs.declared.slot.TheConstants.{NAMES_SLOT, SLOTS}
use Rattle.hp_plain.specs.HallView.{HallView, IsHall, IsHome, SlotView, is_held_by, is_held_heap, lines_at, part_in, segs_in, slot_at, taken_from}
use Rattle.hp_plain.specs.Opening.{AreHome}
use Rattle.hp_plain.specs.PlainState.{plain_state}
use Rattle.hp_plain.proofs.Slotted.{unheld_heap}

home_unheld : (who : ℕ) (slot : Option SlotView) → IsHome slot → is_held_by who slot ≡ false
home_unheld who None home = absurd home
home_unheld who (Some slot) home = ap (is_held_heap who slot.kept) home ∙ unheld_heap who slot.kept

home_free : (slot : Option SlotView) → IsHome slot → taken_from slot ≡ None
home_free None home = absurd home
home_free (Some slot) home = ap (option_map (λ who. slot.kept)) home

module _ (me : ℕ) (hall : HallView) (is : IsHall hall) (home : AreHome hall) where
  unheld : (heap : ℕ) → is_held_by me (slot_at hall heap) ≡ false
  unheld heap =
      ⊎_elim (λ (below : heap < SLOTS). home_unheld me (slot_at hall heap) (home heap below))
      (λ (past : SLOTS ≤ heap). ap (is_held_by me) (slice_get_past hall.slots heap (omega (arith, past, is.slots))))
      (cases_lt heap SLOTS)

  free : (heap : ℕ) → (part_in hall me heap).holding ≡ None
  free heap =
      ap (λ (held : Bool). if held then option_map (standing_of heap) (segs_in (slot_at hall MAX_HEAPS)) else None) (unheld heap)

  -- where all is there a participant may tell of lines that are done
  pub may_store : (lines : ℕ) → lines_at hall me ≤ lines → MayStore me lines (plain_state hall)
  may_store lines rises = record {
    rises = rises;
    free = free;
    names = home_free (slot_at hall NAMES_SLOT) (home NAMES_SLOT (omega arith));
  }
