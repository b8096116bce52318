-- Where all participants have come to in the course of a hall that goes on after their lines: the run goes on to there, and each is
-- attached as its lines leave it, and may fail to map as before.
use Rattle.std.proofs.Common.{◌≡◌, ◌∙◌, ℕ, ◌+◌, ◌<◌, ◌≤◌, true, List, ◌++◌, length, Some, ap, sym, arith}
use Rattle.std.specs.Prelude.{slice_get}
use Rattle.std.proofs.lemmas.Option.{same_Some, slice_get_within}
use Rattle.hp_base.specs.declared.limits.TheConstants.{MAX_PARTICIPANTS}
use Rattle.hp_plain.specs.Course.{IsCourse}
use Rattle.hp_plain.specs.HallView.{HallView, own_at, seen_in}
use Rattle.hp_log.specs.declared.log_record.LogRecord.{LogRecord}
use Rattle.hp_script.specs.declared.workload.Workload.{Workload}
use Rattle.hp_proc.specs.Courses.{Standing}
use Rattle.hp_proc.specs.Doing.{Done}
use Rattle.hp_proc.specs.LinesDone.{Course}
use Rattle.hp_serve.specs.Party.{Party}
use Rattle.hp_serve.specs.Tied.{part_of}
use Rattle.thm_run.specs.EndLaws.{MayFailAsBefore}
use Rattle.thm_run.specs.Seats.{EndedLine, Seat}
use Rattle.thm_run.specs.SoFar.{IsSoFarFor, SoFar, standing_of}
use Rattle.thm_run.specs.Together.{GlobalState, RunsByMail}
use Rattle.thm_run.proofs.RunFacts.Attached.{AreAsLeft, HasTakenIn}
use Rattle.thm_run.proofs.RunFacts.AttachedRuns.{attached_on}
use Rattle.thm_run.proofs.SeatFacts.LastSeats.{CameTo}
use Rattle.thm_run.proofs.LineSteps.LineTries.{TriesAtMostOnce}
use Rattle.thm_run.proofs.SeatFacts.Roster.{AreEnrolled, TriesOnce, roster_on}
use Rattle.thm_run.proofs.SeatFacts.RosterMoves.{tries_both, tries_in}
use Rattle.thm_run.proofs.Settings.{may_fail_stays}
use Rattle.thm_run.proofs.RunFacts.SoFarFacts.{IsAt, at_place, begins_here, log_is, seat_of, seats_many}
use Rattle.thm_run.proofs.PathSteps.ByMail.{by_mail_then, run_of}
use Rattle.thm_run.proofs.PathSteps.WaysOn.{AllCame, IsLast, all_have_come}

-- EACH IS ATTACHED AS ITS LINES LEAVE IT

module _ (workload : Workload) (courses : List Course) (parties : List Party) (hall : HallView)
    (so : SoFar workload courses parties hall) where
  taken_there : (who : ℕ) (seat : Seat) → seat.standing ≡ standing_of workload who courses → IsSoFarFor workload courses hall who seat.party
      → seat.party.joined ≡ true → HasTakenIn so.now.segs.log seat
  taken_there who seat standing its joined =
      let records : seat.standing.records ≡ (standing_of workload who courses).records =
      ap (λ (standing : Standing). standing.records) standing in
      let number : seat.party.maps.number ≡ (own_at hall who).number =
      its.tied.table.number ∙ ap (λ (joined : _). (part_of joined (own_at hall who)).number) joined in
      let long : length (seen_in hall) ≡ length so.now.segs.log =
      ap (λ (log : List LogRecord). length log) (log_is workload courses parties hall so) in
      record {
        taken = omega (arith, its.since joined, records);
        there = omega (arith, its.since joined, records, number, its.tied.within, long);
      }

  pub left_so_far : AreAsLeft so.now
  left_so_far who seat there =
      let sits = so.seats who seat there in
      let its = so.each who seat.party sits.party in
      record {
        joined = its.joined ∙ ap (λ (standing : Standing). standing.attached) (sym sits.standing);
        since = taken_there who seat sits.standing its;
      }

module _ (workload : Workload) (courses : List Course) (parties behind : List Party) (old new : HallView)
    (so : SoFar workload courses parties old) (few : workload.participants ≤ MAX_PARTICIPANTS) (course : IsCourse old new)
    (more : ℕ → List Done) (left : ℕ → Standing) (ended : ℕ → List EndedLine)
    (comes : (who : ℕ) (seat : Seat) → slice_get so.now.seats who ≡ Some seat
    → CameTo (IsLast workload.participants behind more left ended course.steps) who seat)
    (tries : (who : ℕ) (seat : Seat) → slice_get so.now.seats who ≡ Some seat → TriesAtMostOnce seat.party.joined (more who)) where
  pub came : AllCame workload.participants so.now behind more left ended new
  came =
      all_have_come workload.participants so.now behind more left ended old new course (begins_here workload courses parties old so) comes

  -- where they have come to
  abbrev pub next : GlobalState
  next = record { seats = came.lasts; segs = came.gone.segs; boxes = new.boxes }

  pub runs_on : RunsByMail workload.participants so.now next
  runs_on = came.gone.runs

  pub runs_all : RunsByMail workload.participants so.first next
  runs_all = by_mail_then workload.participants so.first so.now next so.runs runs_on

  pub lasts_many : length next.seats ≡ workload.participants
  lasts_many = came.size ∙ seats_many workload courses parties old so

  -- the seat of a participant there, and what it came from
  pub last_of : (who : ℕ) → who < workload.participants → IsAt next.seats who
  last_of who below = at_place next.seats who (omega (arith, below, lasts_many))

  -- what a participant came to
  pub behind_is : (who : ℕ) (last : Seat) (after : Party) → slice_get next.seats who ≡ Some last → slice_get behind who ≡ Some after
      → last.party ≡ after
  behind_is who last after there its = same_Some last.party after (sym (came.were who last there).2 ∙ its)

  tried_once : (who : ℕ) (seat last : Seat) → slice_get so.now.seats who ≡ Some seat → slice_get next.seats who ≡ Some last
      → TriesOnce seat last
  tried_once who seat last early late =
      let were = came.were who last late in
      let own : were.0 ≡ seat = same_Some were.0 seat (sym were.1 ∙ early) in
      let trace : last.trace ≡ seat.trace ++ more who = were.3 ∙ ap (λ (seat : Seat). seat.trace ++ more who) own in
      let both : tries_in last.trace ≡ tries_in seat.trace + tries_in (more who) =
      ap tries_in trace ∙ tries_both seat.trace (more who) in
      let once = tries who seat early in
      record { once = omega (arith, both, once.once); out = λ further. once.out (omega (arith, both, further)) }

  pub enrolled_there : AreEnrolled next
  enrolled_there =
      roster_on workload.participants workload.absent workload.pools.items so.first so.now so.is_first (run_of so.runs) few so.roster next (run_of runs_on)
      tried_once

  pub left_there : AreAsLeft next
  left_there =
      attached_on workload.participants workload.absent workload.pools.items so.first so.now so.is_first (run_of so.runs) few so.roster
      (left_so_far workload courses parties old so) next (run_of runs_on) tried_once

  -- each mapper may fail at the calls at which it might before
  pub may_fail_before : length parties ≡ workload.participants → MayFailAsBefore parties behind
  may_fail_before size who party after early late =
      let below : who < workload.participants = omega (arith, slice_get_within parties who party early, size) in
      let seat = seat_of workload courses parties old so who below in
      let last = last_of who below in
      let stays = may_fail_stays (run_of runs_on) who seat.it last.it seat.there last.there in
      let was : seat.it.party ≡ party = same_Some seat.it.party party (sym (so.seats who seat.it seat.there).party ∙ early) in
      ap (λ (party : Party). party.maps.may_fail) (sym (behind_is who last.it after last.there late)) ∙ stays
      ∙ ap (λ (party : Party). party.maps.may_fail) was
