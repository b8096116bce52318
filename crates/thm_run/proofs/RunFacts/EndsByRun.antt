-- What participants that came together from before their first step leave by the run of all.
use Rattle.std.proofs.Common.{◌∙◌, ℕ, ◌<◌, ◌≤◌, ⊎_elim, List, [], replicate, ap, sym, subst, arith, refl}
use Rattle.std.proofs.lemmas.Bool.{cases_lt}
use Rattle.hp_frame.specs.declared.frame.Frame.{Frame}
use Rattle.hp_hall.specs.Mail.{MailStep}
use Rattle.hp_script.specs.declared.workload.Workload.{Workload}
use Rattle.hp_segs.specs.SegsView.{SegsView}
use Rattle.hp_proc.specs.Doing.{Done}
use Rattle.hp_proc.specs.Handed.{AreOwnFailures}
use Rattle.hp_weave.specs.Deeds.{Gathering}
use Rattle.hp_weave.specs.Holds.{Hold}
use Rattle.thm_run.proofs.FailuresNamed.Refusals.{refusals}
use Rattle.thm_run.proofs.WhatWentBack.Returned.{gone_back}
use Rattle.thm_run.proofs.RunFacts.RunCauses as causes
use Rattle.thm_run.proofs.PathSteps.RunsTogether.{run_together}
use Rattle.thm_run.proofs.SeatFacts.SeatsAlong.{count_along}
use Rattle.thm_run.proofs.SeatFacts.SegsAlong.{sound_along}
use Rattle.thm_run.proofs.Settings.{seat_at}
use Rattle.thm_run.proofs.LineSteps.Known.{none_refused}
use Rattle.thm_run.specs.ByRuns.{CameFromFirst, EndByRun, HasByRun, with_boxes}
use Rattle.thm_run.specs.Seats.{Seat}
use Rattle.thm_run.specs.Together.{GlobalState, Runs}

module _ (workload : Workload) (did : ℕ → List Done) (first last : Gathering Seat SegsView) (steps : ℕ → List MailStep)
    (holds : List (Hold SegsView)) (came : CameFromFirst workload did first last steps holds) where
  abbrev count : ℕ
  count = workload.participants

  -- the run of all, between these moments
  abbrev empty : List (List Frame)
  empty = replicate workload.participants []

  run : (left : List (List Frame)) × Runs count (with_boxes empty first) (with_boxes left last)
  run = run_together count first last steps holds came.came came.good empty

  abbrev start : GlobalState
  start = with_boxes empty first

  abbrev now : GlobalState
  now = with_boxes run.0 last

  refused : (who : ℕ) → AreOwnFailures last.value.log (did who)
  refused who =
      ⊎_elim
      (λ (below : who < count).
      let its = seat_at last.seats who (omega (arith, below, count_along run.1, came.is_first.seats)) in
      subst (AreOwnFailures last.value.log) (sym (came.did_so who its.seat its.there))
      (refusals count workload.absent workload.pools.items start now came.is_first run.1 who its.seat its.there))
      (λ (beyond : count ≤ who).
      subst (AreOwnFailures last.value.log) (sym (came.nobody_else who beyond)) (none_refused last.value.log))
      (cases_lt who count)

  has_by_run : HasByRun workload did last.value
  has_by_run = record {
    segs_sound = sound_along count workload.absent workload.pools.items start came.is_first now run.1;
    pools =
        causes.pools_stay count workload.absent workload.pools.items start now came.is_first run.1 workload.deadline came.waits
        ∙ ap (λ (segs : SegsView). segs.pools) came.is_first.segs;
    asked_for = causes.asked_for count workload.absent workload.pools.items start now came.is_first run.1 workload.deadline came.waits;
    causes =
        causes.causes count workload.absent workload.pools.items start now came.is_first run.1 workload.deadline came.waits workload refl
        refl came.ended;
    failed = refused;
    gone = λ heaps kept within.
        gone_back count workload.absent workload.pools.items start now did heaps came.is_first run.1
        (λ who seat there. came.did_so who seat there)
        (record { none = came.nobody_else; within = λ who below index beyond. within who index beyond }) kept;
    nobody_else =
        causes.nobody_else count workload.absent workload.pools.items start now came.is_first run.1 workload.deadline came.waits;
  }

pub ends_by_run : EndByRun
ends_by_run workload did first last steps holds came = has_by_run workload did first last steps holds came
