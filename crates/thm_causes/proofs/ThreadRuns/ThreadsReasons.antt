-- In every run in one thread growths are refused as late, and asks taken back or stale, at most as often as the plan has lines for that.
use Rattle.std.proofs.Common.{◌≡◌, ◌∙◌, ℕ, ◌+◌, ◌<◌, ◌≤◌, ⊎_elim, List, Some, sym, ap, subst, arith}
use Rattle.std.specs.Prelude.{slice_get}
use Rattle.std.proofs.lemmas.Bool.{cases_lt}
use Rattle.std.proofs.lemmas.Option.{same_Some}
use Rattle.hp_base.specs.declared.limits.TheConstants.{MAX_HEAPS}
use Rattle.hp_base.specs.declared.plan_entry.MsgKind.TheVariants as message
use Rattle.hp_plain.specs.HallView.{segs_in, slot_at}
use Rattle.hp_script.specs.declared.workload.Workload.{Workload}
use Rattle.hp_segs.specs.SegsView.{SegsView}
use Rattle.hp_segs.specs.declared.outcome.AskLog.{AskLog}
use Rattle.hp_proc.specs.LinesDone.{Course}
use Rattle.hp_serve.specs.Party.{Party}
use Rattle.hp_serve.specs.Posting.{times_sent}
use Rattle.hp_solo.specs.Solo.{SoloView}
use Rattle.thm_run.specs.SoFar.{SoFar}
use Rattle.thm_run.proofs.RunFacts.SoFarFacts.{at_place}
use Rattle.thm_causes.specs.Counting.{planned_losses, planned_repeats}
use Rattle.thm_causes.specs.RoundTrip.{Setting, RunState}
use Rattle.thm_causes.specs.Quiet.{IsQuietState}
use Rattle.thm_causes.specs.Outcomes.{late_outcomes, stale_outcomes, withdrawn_outcomes, IsApart}
use Rattle.thm_causes.specs.Threads.{TimeoutsArePlanned, LeadInQuiet, ThreadsHaveReasons, setting_of}
use Rattle.thm_causes.proofs.CountingLemmas.{doubled_as_planned, lost_as_planned}
use Rattle.thm_causes.proofs.ThreadRuns.ThreadsBetween.{quiet_last, same_segs}
use Rattle.thm_causes.proofs.ThreadRuns.ThreadsLine.{IsQuietAt}
use Rattle.thm_causes.proofs.ThreadRuns.ThreadsNames.{none_late, none_stale, none_withdrawn}
use Rattle.std.specs.List.{All}

-- a declared participant's outcomes have their reasons in a quiet world
module _ (set : Setting) (world : RunState) (quiet : IsQuietState set world) (some : 0 < set.count) (who : ℕ) (below : who < set.count) where
  abbrev asks : List AskLog
  asks = world.shared.segs.asks

  its : (party : Party) × (slice_get world.parties who ≡ Some party)
  its =
      let at = at_place world.parties who (omega (arith, below, quiet.base.parties)) in
      (at.it, at.there)

  primary : (party : Party) × (slice_get world.parties 0 ≡ Some party)
  primary =
      let at = at_place world.parties 0 (omega (arith, some, quiet.base.parties)) in
      (at.it, at.there)

  late_by_plan : late_outcomes who asks ≤ planned_losses set.plan message.Sync who
  late_by_plan =
      omega (
        arith,
        (quiet.base.excused who primary.0 its.0 primary.1 its.1).late,
        lost_as_planned set.plan message.Sync who (times_sent primary.0.sent.syncs who),
      )

  withdrawn_by_plan : withdrawn_outcomes who asks ≤ planned_losses set.plan message.Alloc who
  withdrawn_by_plan =
      omega (
        arith,
        (quiet.base.excused who primary.0 its.0 primary.1 its.1).withdrawn,
        lost_as_planned set.plan message.Alloc who its.0.sent.allocs,
      )

  stale_by_plan : stale_outcomes who asks ≤ planned_repeats set.plan message.Alloc who + planned_repeats set.plan message.Free who
  stale_by_plan =
      omega (
        arith,
        quiet.doubled who its.0 its.1,
        doubled_as_planned set.plan message.Alloc who its.0.sent.allocs,
        doubled_as_planned set.plan message.Free who its.0.sent.frees,
      )

module _ (workload : Workload) (courses : List Course) (parties : List Party) (last : SoloView) (segs : SegsView)
    (at : IsQuietAt (setting_of workload) last) (some : 0 < workload.participants)
    (so : SoFar workload courses parties last.plain) (shown : segs_in (slot_at last.plain MAX_HEAPS) ≡ Some segs) where
  abbrev world : RunState
  world = at.world

  same : world.shared.segs.asks ≡ segs.asks
  same = ap (λ (segs : SegsView). segs.asks) (same_segs (setting_of workload) last segs at shown)

  joint : so.now.segs.asks ≡ segs.asks
  joint = ap (λ (segs : SegsView). segs.asks) (same_Some so.now.segs segs (sym so.its_segs ∙ shown))

  by_case : (count : List AskLog → ℕ) (who most : ℕ) → (who < workload.participants → count world.shared.segs.asks ≤ most)
      → (workload.participants ≤ who → count so.now.segs.asks ≡ 0) → count segs.asks ≤ most
  by_case count who most declared other =
      ⊎_elim (λ (below : who < workload.participants). subst (λ (asks : List AskLog). count asks ≤ most) same (declared below))
      (λ (beyond : workload.participants ≤ who).
      let none : count segs.asks ≡ 0 = subst (λ (asks : List AskLog). count asks ≡ 0) joint (other beyond) in
      omega (arith, none))
      (cases_lt who workload.participants)

  have_reasons : TimeoutsArePlanned workload segs.asks
  have_reasons = record {
    late = λ who.
        by_case (late_outcomes who) who _ (late_by_plan (setting_of workload) world at.quiet.quiet some who)
        (none_late workload courses parties last.plain so who);
    withdrawn = λ who.
        by_case (withdrawn_outcomes who) who _ (withdrawn_by_plan (setting_of workload) world at.quiet.quiet some who)
        (none_withdrawn workload courses parties last.plain so who);
    stale = λ who.
        by_case (stale_outcomes who) who _ (stale_by_plan (setting_of workload) world at.quiet.quiet some who)
        (none_stale workload courses parties last.plain so who);
    apart = subst (All (IsApart workload.deadline)) same at.quiet.quiet.base.apart;
  }

-- of every run
pub threads_have_reasons : LeadInQuiet → ThreadsHaveReasons
threads_have_reasons know workload first last courses parties segs may opens thread so shown =
    have_reasons workload courses parties last segs (quiet_last workload courses may know first last opens thread) may.given.primary so
    shown
