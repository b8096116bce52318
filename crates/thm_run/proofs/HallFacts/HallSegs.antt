-- The segment value that a hall of all participants keeps between lines: its pools, its roster, no external memory and no growth.
use Rattle.std.proofs.Common.{◌≡◌, ◌∙◌, ℕ, ◌<◌, ◌≤◌, true, false, List, [], count_by, Option, Some, None, refl, ap, sym, subst, arith}
use Rattle.std.specs.List.{slice_get}
use Rattle.std.proofs.lemmas.Option.{same_Some}
use Rattle.hp_base.specs.declared.limits.TheConstants.{MAX_HEAPS}
use Rattle.hp_hall.specs.Later.{IsLaterKept, IsLaterSegs}
use Rattle.hp_plain.specs.Course.{IsLater}
use Rattle.hp_plain.specs.CourseLaws.{IsLeftTo}
use Rattle.hp_plain.specs.HallView.{HallView, SlotView, segs_in, slot_at}
use Rattle.hp_hall.specs.declared.kept.Kept.{Kept}
use Rattle.hp_hall.specs.declared.kept.Kept.TheVariants.{Heap, Names, Segments}
use Rattle.hp_hall.specs.Views.{segs_of}
use Rattle.hp_plain.proofs.Walks.{idle_stay_in_place}
use Rattle.hp_script.specs.declared.workload.Workload.{Workload}
use Rattle.hp_segs.specs.Moved.{is_growth_step}
use Rattle.hp_segs.specs.SegsView.{SegsView, is_member}
use Rattle.hp_segs.specs.Sound.{IsSound}
use Rattle.hp_segs.proofs.Appending.{moves_append}
use Rattle.hp_proc.specs.LinesDone.{Course, courses_of, opening_standing, standing_after}
use Rattle.hp_serve.specs.Party.{Party}
use Rattle.thm_run.proofs.PathSteps.ByMail.{run_of}
use Rattle.thm_run.specs.Seats.{Seat}
use Rattle.thm_run.specs.SoFar.{SoFar, first_hall, first_segs}
use Rattle.thm_run.proofs.SeatFacts.FirstSegs.{nobody_first}
use Rattle.thm_run.proofs.HallFacts.HallEnds.{are_segs, party_of}
use Rattle.thm_run.proofs.HallFacts.HallHistories.{undeclared_idle}
use Rattle.thm_run.proofs.SeatFacts.SeatsAlong.{count_along}
use Rattle.thm_run.proofs.SeatFacts.SegsAlong.{sound_along}
use Rattle.thm_run.proofs.RunFacts.SoFarFacts.{none_open_so_far}
use Rattle.thm_run.proofs.PathSteps.Walked.{get_there}

-- a later segment value is one that calls made of the earlier one
kept_segs : (a b : Kept) (before segs : SegsView) → IsLaterKept a b → segs_of a ≡ Some before → segs_of b ≡ Some segs
    → IsLaterSegs before segs
kept_segs (Heap a pen) b before segs later early late = cc
kept_segs (Names a) b before segs later early late = cc
kept_segs (Segments a) (Heap b pen) before segs later early late = absurd later
kept_segs (Segments a) (Names b) before segs later early late = absurd later
kept_segs (Segments a) (Segments b) before segs later early late =
    subst (λ (old : SegsView). IsLaterSegs old segs) (same_Some a before early) (subst (IsLaterSegs a) (same_Some b segs late) later)

pub later_segs : (a b : Option SlotView) (before segs : SegsView) → IsLater a b → segs_in a ≡ Some before → segs_in b ≡ Some segs
    → IsLaterSegs before segs
later_segs None b before segs later early late = cc
later_segs (Some a) None before segs later early late = absurd later
later_segs (Some a) (Some b) before segs later early late = kept_segs a.kept b.kept before segs later early late

-- and has its pools
pools_stay : (before segs : SegsView) → IsLaterSegs before segs → segs.pools ≡ before.pools
pools_stay before segs later =
    (moves_append (λ call. true) (count_by is_growth_step later.calls) before segs (record {
      calls = later.calls;
      leads = later.leads;
      only = λ place call within. refl;
      few = omega arith;
    })).pools

module _ (workload : Workload) (courses : List Course) (parties : List Party) (hall : HallView)
    (so : SoFar workload courses parties hall) where
  -- who isn't declared is armed and in the roster as at the beginning
  left_to : (who : ℕ) → workload.participants ≤ who → IsLeftTo who (first_segs workload) so.now.segs
  left_to who beyond =
      idle_stay_in_place (first_hall workload so.held) hall so.course who (undeclared_idle workload courses parties hall so who beyond)
      (first_segs workload) so.now.segs (are_segs workload courses parties hall so)

  -- the clause `segs_sound`
  pub segs_sound : IsSound so.now.segs
  segs_sound = sound_along workload.participants workload.absent workload.pools.items so.first so.is_first so.now (run_of so.runs)

  -- the clause `pools`
  pub pools_are : so.now.segs.pools ≡ workload.pools.items
  pools_are =
      let are = are_segs workload courses parties hall so in
      pools_stay (first_segs workload) so.now.segs
      (later_segs (slot_at (first_hall workload so.held) MAX_HEAPS) (slot_at hall MAX_HEAPS) (first_segs workload) so.now.segs
      (so.course.slots MAX_HEAPS) are.early are.late)

  -- the clause `settled`
  pub none_growing : so.now.segs.growth ≡ None
  none_growing = none_open_so_far workload courses parties hall so

  -- each declared participant has a seat
  pub seat_of : (who : ℕ) → who < workload.participants → (seat : Seat) × (slice_get so.now.seats who ≡ Some seat)
  seat_of who below = get_there so.now.seats who (omega (arith, below, count_along (run_of so.runs), so.is_first.seats))

  -- a participant is in the roster exactly where it has a table
  pub is_enrolled : (who : ℕ) (party : Party) → slice_get parties who ≡ Some party → who < workload.participants
      → is_member so.now.segs.roster who ≡ party.joined
  is_enrolled who party at below =
      let its = seat_of who below in
      let same : its.0.party ≡ party = same_Some its.0.party party (sym (so.seats who its.0 its.1).party ∙ at) in
      so.roster who its.0 its.1 ∙ ap (λ (party : Party). party.joined) same

  -- the clause `roster`
  pub roster_is : (who : ℕ) → who < workload.participants
      → is_member so.now.segs.roster who ≡ (standing_after (opening_standing workload who) (courses_of who courses)).attached
  roster_is who below =
      let its = party_of workload courses parties hall so who below in
      is_enrolled who its.0 its.1 below ∙ (so.each who its.0 its.1).joined

  -- the clause `nobody_else`
  pub nobody_else : (who : ℕ) → workload.participants ≤ who → is_member so.now.segs.roster who ≡ false
  nobody_else who beyond =
      (left_to who beyond).member ∙ nobody_first workload.participants workload.absent who beyond
