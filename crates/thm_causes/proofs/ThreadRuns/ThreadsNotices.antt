-- In every run in one thread notices without an outcome are no more than were lost.
use Rattle.std.proofs.Common.{◌≡◌, ◌∙◌, ℕ, ◌≤◌, ◌<◌, ⊎_elim, List, length, map, Option, Some, None, refl, sym, ap, subst, arith}
use Rattle.std.specs.Prelude.{slice_get}
use Rattle.std.specs.Option.{option_map}
use Rattle.std.proofs.lemmas.Bool.{cases_lt}
use Rattle.std.proofs.lemmas.Option.{same_Some, slice_get-map}
use Rattle.hp_base.specs.declared.limits.TheConstants.{MAX_HEAPS}
use Rattle.hp_base.specs.declared.plan_entry.MsgKind.TheVariants as message
use Rattle.hp_plain.specs.HallView.{segs_in, slot_at}
use Rattle.hp_proc.specs.Courses.{numbered_in}
use Rattle.hp_proc.specs.Doing.{Done}
use Rattle.hp_proc.specs.LinesDone.{Course, courses_of, trace_of}
use Rattle.hp_serve.specs.Party.{Party}
use Rattle.hp_script.specs.declared.workload.Workload.{Workload}
use Rattle.hp_segs.specs.SegsView.{SegsView}
use Rattle.hp_segs.specs.declared.outcome.AskLog.{AskLog}
use Rattle.hp_solo.specs.Solo.{AloneView, SoloView, party_at, party_in}
use Rattle.thm_run.specs.SoFar.{SoFar}
use Rattle.thm_run.proofs.WhatWentBack.GoneSoFar.{none_of_others, outcomes_so_far}
use Rattle.thm_run.proofs.RunFacts.SoFarFacts.{at_place}
use Rattle.thm_causes.specs.Counting.{planned_losses}
use Rattle.thm_causes.specs.Notices.{ThreadsHearNotices, unfreed_in}
use Rattle.thm_causes.specs.Outcomes.{unanswered_among}
use Rattle.thm_causes.specs.Threads.{ArePlaces, LeadInQuiet, setting_of, validators_left}
use Rattle.thm_causes.proofs.Placed.{placed}
use Rattle.thm_causes.proofs.CountingLemmas.{lost_as_planned}
use Rattle.thm_causes.proofs.Owing.NoticesHeard.{all_among, made_within, unanswered_rises}
use Rattle.thm_causes.proofs.ThreadRuns.ThreadsBetween.{quiet_last, same_segs}
use Rattle.thm_causes.proofs.ThreadRuns.ThreadsLine.{IsQuietAt}

module _ (workload : Workload) (courses : List Course) (parties : List Party) (last : SoloView) (segs : SegsView)
    (at : IsQuietAt (setting_of workload) last) (so : SoFar workload courses parties last.plain)
    (are : ArePlaces (validators_left workload courses) last.servers parties) (shown : segs_in (slot_at last.plain MAX_HEAPS) ≡ Some segs) where
  abbrev asks : List AskLog
  asks = so.now.segs.asks

  abbrev did : ℕ → List Done
  did who = trace_of (courses_of who courses)

  joint : so.now.segs ≡ segs
  joint = same_Some so.now.segs segs (sym so.its_segs ∙ shown)

  quiet_asks : at.world.shared.segs.asks ≡ asks
  quiet_asks = ap (λ (segs : SegsView). segs.asks) (same_segs (setting_of workload) last segs at shown ∙ sym joint)

  -- of a participant that takes part
  declared : (who : ℕ) → who < workload.participants
      → unfreed_in asks who 1 (did who) ≤ planned_losses workload.plan.items message.Free who
  declared who below =
      let its = at_place parties who (omega (arith, below, so.count)) in
      let here : slice_get at.world.parties who ≡ Some its.it = at.its.all who ∙ placed (validators_left workload courses) last.servers parties are who ∙ its.there in
      let told = at.quiet.quiet.told who its.it here in
      let made = made_within _ _ who 0 its.it.asked (did who) (so.each who its.it its.there).asked in
      let within : length (numbered_in (did who)) ≤ its.it.asked = omega (arith, made) in
      let among = all_among so.now.segs.log asks did who (outcomes_so_far workload courses parties last.plain so) in
      let rises = unanswered_rises asks who (length (numbered_in (did who))) its.it.asked within in
      let unanswered : unanswered_among at.world.shared.segs.asks who its.it.asked ≡ unanswered_among asks who its.it.asked =
      ap (λ (asks : List AskLog). unanswered_among asks who its.it.asked) quiet_asks in
      omega (
        arith,
        told,
        among,
        rises,
        unanswered,
        lost_as_planned workload.plan.items message.Free who its.it.sent.frees,
      )

  -- and of any other
  other : (who : ℕ) → workload.participants ≤ who
      → unfreed_in asks who 1 (did who) ≤ planned_losses workload.plan.items message.Free who
  other who beyond =
      let none : unfreed_in asks who 1 (did who) ≡ 0 =
      ap (λ (courses : List Course). unfreed_in asks who 1 (trace_of courses))
      (none_of_others workload.participants who courses beyond so.built) in
      omega (arith, none)

  pub hear_notices : (who : ℕ) → unfreed_in segs.asks who 1 (did who) ≤ planned_losses workload.plan.items message.Free who
  hear_notices who =
      subst
      (λ (segs : SegsView). unfreed_in segs.asks who 1 (did who) ≤ planned_losses workload.plan.items message.Free who)
      joint
      (⊎_elim (declared who) (other who) (cases_lt who workload.participants))

-- of every run
pub threads_hear_notices : LeadInQuiet → ThreadsHearNotices
threads_hear_notices know workload first last courses parties segs may opens thread so are shown who =
    hear_notices workload courses parties last segs (quiet_last workload courses may know first last opens thread) so are shown who
