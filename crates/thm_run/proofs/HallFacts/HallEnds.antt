-- How a hall of all participants ends: with the segment value to which their steps led.
use Rattle.std.proofs.Common.{◌≡◌, ◌∙◌, ℕ, zero, suc, ◌<◌, ◌≤◌, ◌+◌, List, [], ◌∷◌, length, Option, Some, None, refl, ap, sym, arith}
use Rattle.std.specs.List.{slice_get}
use Rattle.std.proofs.lemmas.Option.{same_Some, slice_get_past, slice_get_within}
use Rattle.hp_base.specs.declared.limits.TheConstants.{MAX_HEAPS}
use Rattle.hp_plain.specs.Course.{IsCourse, IsLater}
use Rattle.hp_plain.specs.CourseLaws.{AreSegsOf}
use Rattle.hp_plain.specs.Opening.{HandsOut}
use Rattle.hp_plain.specs.HallView.{HallView, SlotView, segs_in, slot_at}
use Rattle.hp_plain.proofs.Opened.{opened_length, opened_segs}
use Rattle.hp_heap.specs.History.{HeapView}
use Rattle.hp_script.specs.declared.workload.Workload.{Workload}
use Rattle.hp_segs.specs.SegsView.{SegsView}
use Rattle.hp_zone.specs.declared.names.Names.{Names as NamesView}
use Rattle.hp_proc.specs.LinesDone.{Course}
use Rattle.hp_serve.specs.Party.{Party}
use Rattle.thm_run.specs.SoFar.{SoFar, first_hall, first_names, first_segs}
use Rattle.thm_run.proofs.RunFacts.SoFarFacts.{held_many, slots_long}
use Rattle.thm_run.proofs.PathSteps.Walked.{get_there}

later_there : (old new : Option SlotView) (slot : SlotView) → IsLater old new → old ≡ Some slot → (now : SlotView) × (new ≡ Some now)
later_there None new slot later is = cc
later_there (Some old) None slot later is = absurd later
later_there (Some old) (Some new) slot later is = (new, refl)

later_none : (old new : Option SlotView) → IsLater old new → old ≡ None → new ≡ None
later_none None None later none = refl
later_none None (Some new) later none = absurd later
later_none (Some old) new later none = cc

-- a list ends where nothing is read
ends_by : {X : Type 0} (xs : List X) (place : ℕ) → slice_get xs place ≡ None → length xs ≤ place
ends_by [] place none = omega arith
ends_by (x ∷ xs) zero none = cc
ends_by (x ∷ xs) (suc place) none =
    let rest = ends_by xs place none in
    omega (arith, rest)

-- a course keeps the number of slots
slots_stay : (old new : HallView) (count : ℕ) → IsCourse old new → length old.slots ≡ count + 1 → length new.slots ≡ count + 1
slots_stay old new count course many =
    let last = get_there old.slots count (omega arith) in
    let still = later_there (slot_at old count) (slot_at new count) last.0 (course.slots count) last.1 in
    let past : slot_at new (count + 1) ≡ None =
    later_none (slot_at old (count + 1)) (slot_at new (count + 1)) (course.slots (count + 1))
    (slice_get_past old.slots (count + 1) (omega arith)) in
    omega (arith, slice_get_within new.slots count still.0 still.1, ends_by new.slots (count + 1) past)

module _ (workload : Workload) (courses : List Course) (parties : List Party) (hall : HallView)
    (so : SoFar workload courses parties hall) where
  -- each declared participant is there
  pub party_of : (who : ℕ) → who < workload.participants → (party : Party) × (slice_get parties who ≡ Some party)
  party_of who below = get_there parties who (omega (arith, below, so.count))

  -- a heap opened in each of its slots
  pub opened_many : length so.held ≡ MAX_HEAPS
  opened_many = sym (held_many so.held) ∙ so.first_heaps.in_order.count

  -- the segment value as it opened, and now
  pub are_segs : AreSegsOf (first_hall workload so.held) hall (first_segs workload) so.now.segs
  are_segs = record {
    early = opened_segs (first_segs workload) (first_names workload) so.held MAX_HEAPS opened_many;
    late = so.its_segs;
  }

  module _ (heaps : List HeapView) (segs : SegsView) (names : NamesView) (out : HandsOut hall.slots heaps segs names) where
    -- there is a heap for each of its slots
    pub out_many : length out.held ≡ MAX_HEAPS
    out_many =
        let opened = opened_length (first_segs workload) (first_names workload) so.held opened_many in
        let still = slots_stay (first_hall workload so.held) hall (MAX_HEAPS + 1) so.course opened in
        omega (arith, still, ap (λ (slots : List SlotView). length slots) out.slots_are, slots_long out.held segs names)

    pub heaps_many : length heaps ≡ MAX_HEAPS
    heaps_many = sym (ap (λ (heaps : List HeapView). length heaps) out.heaps_are) ∙ held_many out.held ∙ out_many

    -- the segment value is that to which the steps led
    pub segs_same : so.now.segs ≡ segs
    segs_same =
        same_Some so.now.segs segs
        (sym so.its_segs ∙ (ap (λ (slots : List SlotView). segs_in (slice_get slots MAX_HEAPS)) out.slots_are
        ∙ opened_segs segs names out.held MAX_HEAPS out_many))
