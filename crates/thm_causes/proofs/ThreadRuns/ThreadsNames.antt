-- No outcome names a participant that isn't declared: nobody such asks, and nobody such is late.
use Rattle.std.proofs.Common.{◌≡◌, ◌∙◌, ℕ, ◌<◌, ◌≤◌, ◌==◌, ◌&&◌, Bool, false, List, [], ◌∷◌, ◌++◌, length, Option, Some, refl, ap, subst, arith, ne_eqb}
use Rattle.std.specs.Prelude.{slice_get}
use Rattle.std.specs.List.{All}
use Rattle.std.proofs.lemmas.Bool.{and_left}
use Rattle.std.proofs.lemmas.List.Elements.{All-cons, All-head, All-nil, All-tail, All-weaker}
use Rattle.std.proofs.lemmas.Option.{slice_get_past}
use Rattle.hp_base.specs.declared.pool_line.PoolLine.{PoolLine}
use Rattle.hp_plain.specs.HallView.{HallView}
use Rattle.hp_log.specs.declared.log_record.LogRecord.{LogRecord}
use Rattle.hp_script.specs.declared.workload.Workload.{Workload}
use Rattle.hp_segs.specs.Causes.{AllCaused, HasCause}
use Rattle.hp_segs.specs.SegsView.{is_stale}
use Rattle.hp_segs.specs.Sound.{IsSound}
use Rattle.hp_segs.specs.declared.outcome.AskLog.{AskLog}
use Rattle.hp_segs.specs.declared.outcome.Cause.TheVariants.{CannotHold, Denied, Late, ListFull, MapFailed, NoList, TooFew, Withdrawn}
use Rattle.hp_segs.specs.declared.outcome.Outcome.{Outcome}
use Rattle.hp_segs.specs.declared.outcome.Outcome.TheVariants.{Freed, Granted, Refused, Stale}
use Rattle.hp_proc.specs.Doing.{Done}
use Rattle.hp_proc.specs.LinesDone.{Course}
use Rattle.hp_proc.specs.Outcomes.{IsRefusedIn}
use Rattle.hp_serve.specs.Party.{Party}
use Rattle.hp_proc.specs.Courses.{numbered_in}
use Rattle.thm_run.specs.SoFar.{SoFar}
use Rattle.thm_run.specs.Seats.{Seat}
use Rattle.thm_run.proofs.EndedLines.{ended_so_far}
use Rattle.thm_run.proofs.PathSteps.ByMail.{run_of}
use Rattle.thm_run.proofs.Made.{IsNumbered, took_number}
use Rattle.thm_run.proofs.TracesTold.Numbers.{numbers_of, trace_in}
use Rattle.thm_run.proofs.RunFacts.RunCauses.{causes}
use Rattle.thm_run.proofs.SeatFacts.SegsAlong.{sound_along}
use Rattle.thm_run.proofs.RunFacts.SoFarFacts.{seats_many}
use Rattle.thm_run.proofs.TracesTold.Traced.{AreTraced}
use Rattle.thm_run.proofs.TracesTold.TracedRuns.{traced_runs}
use Rattle.thm_causes.specs.Outcomes.{is_late, is_withdrawn, late_outcomes, refuses, stale_outcomes, withdrawn_outcomes}
use Rattle.thm_causes.proofs.ThreadRuns.ThreadsLooks.{count_none}

-- a refusal names no such participant as late
not_late : (outcome : Outcome) (who count : ℕ) → count ≤ who
    → ((participant from to : ℕ) → outcome ≡ Refused (Late participant from to) → participant < count)
    → refuses (is_late who) outcome ≡ false
not_late (Granted generation) who count beyond declared = refl
not_late (Stale done) who count beyond declared = refl
not_late (Freed generation) who count beyond declared = refl
not_late (Refused (Late participant from to)) who count beyond declared =
    ne_eqb participant who (λ (same : participant ≡ who). omega (arith, same, beyond, declared participant from to refl))
not_late (Refused NoList) who count beyond declared = refl
not_late (Refused (TooFew have need)) who count beyond declared = refl
not_late (Refused (ListFull longest need)) who count beyond declared = refl
not_late (Refused (CannotHold addr len)) who count beyond declared = refl
not_late (Refused (Denied validator limit total)) who count beyond declared = refl
not_late (Refused (MapFailed participant call addr got)) who count beyond declared = refl
not_late (Refused (Withdrawn from to)) who count beyond declared = refl

module _ (workload : Workload) (who : ℕ) (beyond : workload.participants ≤ who) (pools : List PoolLine) (log : List LogRecord) where
  declared_late : (before : List AskLog) (entry : AskLog) → HasCause pools log before entry entry.outcome → IsRefusedIn workload entry
      → (participant from to : ℕ) → entry.outcome ≡ Refused (Late participant from to) → participant < workload.participants
  declared_late before entry caused refused participant from to is =
      let cause : HasCause pools log before entry (Refused (Late participant from to)) =
      subst (HasCause pools log before entry) is caused in
      (refused cause.0 (Late participant from to) cause.1.kept is).0

  -- of all outcomes none does
  all_in_time : (before asks : List AskLog) → AllCaused pools log before asks → All (IsRefusedIn workload) asks
      → All (λ (entry : AskLog). refuses (is_late who) entry.outcome ≡ false) asks
  all_in_time before [] caused refused = All-nil (λ (entry : AskLog). refuses (is_late who) entry.outcome ≡ false)
  all_in_time before (entry ∷ asks) caused refused =
      All-cons (λ (entry : AskLog). refuses (is_late who) entry.outcome ≡ false) entry asks
      (not_late entry.outcome who workload.participants beyond
      (declared_late before entry caused.0.cause (All-head (IsRefusedIn workload) entry asks refused)))
      (all_in_time (before ++ entry ∷ []) asks caused.1 (All-tail (IsRefusedIn workload) entry asks refused))

module _ (workload : Workload) (courses : List Course) (parties : List Party) (hall : HallView)
    (so : SoFar workload courses parties hall) (who : ℕ) (beyond : workload.participants ≤ who) where
  abbrev asks : List AskLog
  asks = so.now.segs.asks

  traced : AreTraced so.now
  traced = traced_runs workload.participants workload.absent workload.pools.items so.first so.is_first so.now so.runs

  sound : IsSound so.now.segs
  sound = sound_along workload.participants workload.absent workload.pools.items so.first so.is_first so.now (run_of so.runs)

  waits : (who : ℕ) (seat : Seat) → slice_get so.now.seats who ≡ Some seat → seat.party.deadline ≡ workload.deadline
  waits who seat there = (so.each who seat.party (so.seats who seat there).party).deadline

  refused : All (IsRefusedIn workload) asks
  refused =
      causes workload.participants workload.absent workload.pools.items so.first so.now so.is_first (run_of so.runs) workload.deadline waits workload
      refl refl (ended_so_far workload courses parties hall so)

  -- nobody such is late
  pub none_late : late_outcomes who asks ≡ 0
  none_late =
      count_none (λ (entry : AskLog). refuses (is_late who) entry.outcome) asks
      (all_in_time workload who beyond so.now.segs.pools so.now.segs.log [] asks sound.asks.caused refused)

  -- and nobody such asks
  took_none : numbers_of so.now.seats who ≡ []
  took_none =
      ap (λ (seat : Option Seat). numbered_in (trace_in seat))
      (slice_get_past so.now.seats who (omega (arith, beyond, seats_many workload courses parties hall so)))

  of_another : (entry : AskLog) → IsNumbered (numbers_of so.now.seats) entry → (entry.from == who) ≡ false
  of_another entry numbered =
      ne_eqb entry.from who
      (λ (same : entry.from ≡ who).
      let took = took_number (numbers_of so.now.seats) entry numbered in
      let none : length (numbers_of so.now.seats entry.from) ≡ 0 =
      ap (λ (from : ℕ). length (numbers_of so.now.seats from)) same ∙ ap (λ (numbers : List Done). length numbers) took_none in
      omega (arith, took.some, took.within, none))

  none_of : (is : Outcome → Bool) → All (λ (entry : AskLog). ((entry.from == who) && is entry.outcome) ≡ false) asks
  none_of is =
      All-weaker (IsNumbered (numbers_of so.now.seats)) (λ (entry : AskLog). ((entry.from == who) && is entry.outcome) ≡ false)
      (λ entry numbered. and_left (entry.from == who) (is entry.outcome) (of_another entry numbered)) asks traced.asks.each

  pub none_withdrawn : withdrawn_outcomes who asks ≡ 0
  none_withdrawn =
      count_none (λ (entry : AskLog). (entry.from == who) && refuses is_withdrawn entry.outcome) asks (none_of (refuses is_withdrawn))

  pub none_stale : stale_outcomes who asks ≡ 0
  none_stale = count_none (λ (entry : AskLog). (entry.from == who) && is_stale entry.outcome) asks (none_of is_stale)
