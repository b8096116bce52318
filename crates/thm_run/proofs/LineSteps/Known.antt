-- What the laws of a run of all participants know of its end: its growths were asked for, its refusals have their causes, and what its
-- lines show of the log. With that it is an end of its workload.
use Rattle.std.proofs.Common.{◌≡◌, ℕ, ◌<◌, ◌≤◌, ⊎_elim, List, [], length, Some, slice_get, refl, sym, subst, arith}
use Rattle.std.proofs.lemmas.Bool.{cases_lt}
use Rattle.std.proofs.lemmas.List.Elements.{All-nil}
use Rattle.hp_plain.specs.HallView.{HallView}
use Rattle.hp_log.specs.declared.log_record.LogRecord.{LogRecord}
use Rattle.hp_script.specs.declared.workload.Workload.{Workload}
use Rattle.hp_proc.specs.LinesDone.{Course, courses_of, trace_of}
use Rattle.hp_serve.specs.Party.{Party}
use Rattle.hp_proc.specs.Handed.{AreOwnFailures, IsFailureOfItsRow}
use Rattle.thm_run.proofs.PathSteps.ByMail.{run_of}
use Rattle.thm_run.specs.Seats.{Seat}
use Rattle.thm_run.specs.SoFar.{SoFar}
use Rattle.thm_run.specs.EndLaws.{EndsSo}
use Rattle.thm_run.proofs.EndedLines.{ended_so_far}
use Rattle.thm_run.proofs.RunFacts.Ending.{AreKnown, ends_by}
use Rattle.thm_run.proofs.WhatWentBack.GoneSoFar.{none_of_others}
use Rattle.thm_run.proofs.RunFacts.NoneSoFar.{none_so_far}
use Rattle.thm_run.proofs.HallFacts.HallSegs.{none_growing, seat_of}
use Rattle.thm_run.proofs.FailuresNamed.Refusals as attached
use Rattle.thm_run.proofs.RunFacts.RunCauses as asks
use Rattle.thm_run.proofs.SeenAndShown.SeenLines.{seen_each}

-- nothing was refused to who did nothing
pub none_refused : (log : List LogRecord) → AreOwnFailures log []
none_refused log = record {
  rows = All-nil (IsFailureOfItsRow log);
  some = All-nil (λ (number : ℕ). 0 < number);
  rising = λ k within. omega (arith, within);
}

module _ (workload : Workload) (courses : List Course) (parties : List Party) (hall : HallView)
    (so : SoFar workload courses parties hall) where
  -- each participant waits as long as the workload says
  pub deadlines : (who : ℕ) (seat : Seat) → slice_get so.now.seats who ≡ Some seat → seat.party.deadline ≡ workload.deadline
  deadlines who seat there = (so.each who seat.party (so.seats who seat there).party).deadline

  -- the clause `refusals`
  pub refused_so_far : (who : ℕ) → AreOwnFailures so.now.segs.log (trace_of (courses_of who courses))
  refused_so_far who =
      ⊎_elim
      (λ (below : who < workload.participants).
      let its = seat_of workload courses parties hall so who below in
      subst (AreOwnFailures so.now.segs.log) (so.seats who its.0 its.1).trace
      (attached.refusals workload.participants workload.absent workload.pools.items so.first so.now so.is_first (run_of so.runs) who its.0 its.1))
      (λ (beyond : workload.participants ≤ who).
      subst (λ (own : List Course). AreOwnFailures so.now.segs.log (trace_of own))
      (sym (none_of_others workload.participants who courses beyond so.built)) (none_refused so.now.segs.log))
      (cases_lt who workload.participants)

  pub known_so_far : AreKnown workload courses so.now.segs
  known_so_far = record {
    none = none_so_far workload courses parties hall so;
    asked_for =
        asks.asked_for workload.participants workload.absent workload.pools.items so.first so.now so.is_first (run_of so.runs) workload.deadline
        deadlines (none_growing workload courses parties hall so);
    causes =
        asks.causes workload.participants workload.absent workload.pools.items so.first so.now so.is_first (run_of so.runs) workload.deadline
        deadlines workload refl refl (ended_so_far workload courses parties hall so);
    seen = seen_each so.now.segs.log so.now.segs.asks (length so.now.segs.log) courses so.seen;
    failed = refused_so_far;
  }

-- after the last line a run has come to the end of its workload
pub so_far_ends : EndsSo
so_far_ends workload courses answers parties hall heaps segs tables given so is =
    ends_by workload courses answers parties hall heaps segs tables given so is (known_so_far workload courses parties hall so)
