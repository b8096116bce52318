-- The course of a hall, and what each of its participants did itself: where all have come to.
use Rattle.std.proofs.Common.{◌≡◌, ◌∙◌, ℕ, true, List, length, Option, Some, None, refl, sym, ap, subst}
use Rattle.std.specs.Prelude.{is_none, slice_get}
use Rattle.std.specs.Option.{option_map}
use Rattle.std.proofs.lemmas.Option.{slice_get-map, same_Some}
use Rattle.hp_base.specs.declared.limits.TheConstants.{MAX_HEAPS}
use Rattle.hp_frame.specs.declared.frame.Frame.{Frame}
use Rattle.hp_plain.specs.Course.{IsCourse}
use Rattle.hp_plain.specs.HallView.{HallView, IsHome, SlotView, segs_in, slot_at}
use Rattle.hp_plain.specs.InTurn.{homes_in}
use Rattle.hp_plain.specs.Keeping.{IsKeptBy, values_in}
use Rattle.hp_plain.specs.Boxes.{IsMail}
use Rattle.hp_hall.specs.declared.kept.Kept.{Kept}
use Rattle.hp_hall.specs.declared.kept.Kept.TheVariants.{Heap, Names, Segments}
use Rattle.hp_hall.specs.Views.{segs_of}
use Rattle.hp_plain.proofs.Slotted.{value_at}
use Rattle.hp_segs.specs.SegsView.{SegsView}
use Rattle.thm_run.specs.Seats.{Seat}
use Rattle.thm_run.specs.Together.{GlobalState, RunsByMail}
use Rattle.thm_run.proofs.PathSteps.Walk.{AllLead, IsGood, IsThere, IsUnderWay, Keeps}
use Rattle.thm_run.proofs.PathSteps.Walked.{Arrives, arrives}

segs_is : (kept : Kept) (segs : SegsView) → segs_of kept ≡ Some segs → kept ≡ Segments segs
segs_is (Heap heap pen) segs is = cc
segs_is (Names names) segs is = cc
segs_is (Segments value) segs is = ap Segments (same_Some value segs is)

-- the segment value of a hall is the one that its slot keeps
keeps_by : (hall : HallView) (segs : SegsView) (slot : Option SlotView) → slot_at hall MAX_HEAPS ≡ slot → segs_in slot ≡ Some segs
    → Keeps (values_in hall) segs
keeps_by hall segs None at is = cc
keeps_by hall segs (Some slot) at is = value_at hall MAX_HEAPS slot at ∙ ap Some (segs_is slot.kept segs is)

keeps_back : (hall : HallView) (segs : SegsView) (slot : Option SlotView) → slot_at hall MAX_HEAPS ≡ slot → Keeps (values_in hall) segs
    → segs_in slot ≡ Some segs
keeps_back hall segs None at keeps =
    let none : slice_get (values_in hall) MAX_HEAPS ≡ None =
    slice_get-map (λ (s : SlotView). s.kept) hall.slots MAX_HEAPS ∙ ap (option_map (λ (s : SlotView). s.kept)) at in
    cc
keeps_back hall segs (Some slot) at keeps =
    ap segs_of (same_Some slot.kept (Segments segs) (sym (value_at hall MAX_HEAPS slot at) ∙ keeps))

-- its value is there where it is at home
there_by : (hall : HallView) (slot : Option SlotView) → slot_at hall MAX_HEAPS ≡ slot → IsHome slot → IsThere (homes_in hall) true
there_by hall None at home = absurd home
there_by hall (Some slot) at home =
    slice_get-map (λ (slot : SlotView). is_none slot.holder) hall.slots MAX_HEAPS
    ∙ ap (option_map (λ (slot : SlotView). is_none slot.holder)) at
    ∙ ap (λ (holder : Option ℕ). Some (is_none holder)) home

-- where a hall has come to: each participant to its last seat
pub record HasGone (count : ℕ) (at : GlobalState) (lasts : List Seat) (new : HallView) : Type 0 where
  pub segs : SegsView
  pub runs : RunsByMail count at (record { seats = lasts; segs = segs; boxes = new.boxes })
  pub its : segs_in (slot_at new MAX_HEAPS) ≡ Some segs
  pub good : IsGood segs

-- what stands where a way begins
pub record Begins (count : ℕ) (at : GlobalState) (old : HallView) : Type 0 where
  pub size : length at.seats ≡ count
  pub owns : length old.owns ≡ count
  pub segs : segs_in (slot_at old MAX_HEAPS) ≡ Some at.segs
  pub boxes : at.boxes ≡ old.boxes
  pub good : IsGood at.segs
  pub home : IsHome (slot_at old MAX_HEAPS)

module _ (count : ℕ) (at : GlobalState) (lasts : List Seat) (old new : HallView) (course : IsCourse old new) where
  gone : Arrives count lasts at new.boxes (values_in new) → HasGone count at lasts new
  gone there = record {
    segs = there.segs;
    runs = there.runs;
    its = keeps_back new there.segs (slot_at new MAX_HEAPS) refl there.keeps;
    good = there.good;
  }

  pub has_gone : Begins count at old → length lasts ≡ count → AllLead count lasts course.steps at.seats → HasGone count at lasts new
  has_gone begins sized leads =
      gone
      (arrives count lasts course.steps at new.boxes (values_in old) (values_in new) (homes_in old) (homes_in new) begins.size sized
      (subst (λ (boxes : List (List Frame)). IsMail course.steps boxes new.boxes) (sym begins.boxes) course.boxes)
      (subst (λ (n : ℕ). IsKeptBy n course.steps (values_in old) (values_in new)) begins.owns course.kept) course.turns
      (keeps_by old at.segs (slot_at old MAX_HEAPS) refl begins.segs) begins.good
      (IsUnderWay.free (there_by old (slot_at old MAX_HEAPS) refl begins.home) leads))
