-- The names of a hall that a workload was run in: their logs leave them, and they agree with the heaps and with the external memory that is
-- claimed; so they do where a line is handed them.
use Rattle.std.proofs.Common.{◌≡◌, ◌∙◌, ℕ, List, Option, Some, None, refl, ap, sym, subst, arith}
use Rattle.std.specs.List.{slice_get}
use Rattle.std.proofs.lemmas.Option.{same_Some}
use Rattle.hp_hall.specs.AgreedNames.{AreAgreedNames}
use Rattle.hp_hall.specs.declared.kept.Kept.{Kept}
use Rattle.hp_hall.specs.declared.kept.Kept.TheVariants.{Names}
use Rattle.hp_hall.specs.declared.slot.TheConstants.{NAMES_SLOT}
use Rattle.hp_hall.specs.Views.{names_of}
use Rattle.hp_plain.proofs.Slotted.{value_at}
use Rattle.hp_plain.proofs.Walks.{values_stay_sound}
use Rattle.hp_plain.specs.HallView.{HallView, IsHall, SlotView, names_of_slot, naming_at, slot_at}
use Rattle.hp_plain.specs.Keeping.{values_in}
use Rattle.hp_proc.specs.Handing.{shared_of}
use Rattle.hp_proc.specs.LinesDone.{Course}
use Rattle.hp_proc.specs.SharedNames.{directory_in}
use Rattle.hp_script.specs.declared.workload.Workload.{Workload}
use Rattle.hp_serve.specs.Party.{Party}
use Rattle.hp_zone.specs.declared.names.Names.{Names as NamesView}
use Rattle.thm_run.proofs.HallFacts.HallHeaps.{first_sound, values_sound}
use Rattle.thm_run.proofs.NamesEnd.AgreedAtEnd.{directory_is}
use Rattle.thm_run.proofs.SeatFacts.FirstSegs.{armed_first}
use Rattle.thm_run.specs.SoFar.{AreSoundNames, SoFar, first_hall, first_names, first_segs}

module _ (workload : Workload) (courses : List Course) (parties : List Party) (hall : HallView) (so : SoFar workload courses parties hall) where
  pub sound_so_far : AreSoundNames so.names
  sound_so_far =
      (values_stay_sound (first_hall workload so.held) hall so.course (λ number kept there.
      values_sound so.held (first_segs workload) (first_names workload) number kept so.first_heaps.sound
      (first_sound workload courses parties hall so) (armed_first workload.pools.items workload.participants workload.absent) so.names_sound there)).1
      NAMES_SLOT (Names so.names) so.named

  pub directory_so_far : directory_in workload.pools.items (shared_of so.names) ≡ so.names.heaps.plain
  directory_so_far = directory_is workload.pools.items so.names sound_so_far.1 so.opened

  module _ (is_hall : IsHall hall) where
    names_there : names_of_slot (slot_at hall NAMES_SLOT) ≡ Some so.names
    names_there = by_slot (slot_at hall NAMES_SLOT) refl
      where
        by_slot : (slot : Option SlotView) → slot_at hall NAMES_SLOT ≡ slot → names_of_slot slot ≡ Some so.names
        by_slot None at =
            let wrong : None ≡ Some is_hall.named.names = sym (ap names_of_slot at) ∙ is_hall.named.there in
            cc
        by_slot (Some slot) at =
            ap names_of (same_Some slot.kept (Names so.names) (sym (value_at hall NAMES_SLOT slot at) ∙ so.named))

    pub agreed_so_far : AreAgreedNames so.names (naming_at hall) is_hall.segs.ranges
    agreed_so_far =
        subst (λ (names : NamesView). AreAgreedNames names (naming_at hall) is_hall.segs.ranges)
        (same_Some is_hall.named.names so.names (sym is_hall.named.there ∙ names_there))
        (is_hall.named.agrees (so.home NAMES_SLOT (omega arith)))
