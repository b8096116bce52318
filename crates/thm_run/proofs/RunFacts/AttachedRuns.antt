-- From one moment of a run to a later one each participant is attached as its lines leave it.
use Rattle.std.proofs.Common.{◌≡◌, ◌∙◌, ℕ, ◌+◌, ◌≤◌, false, List, length, Some, ap, sym, subst, arith}
use Rattle.std.specs.Prelude.{slice_get}
use Rattle.std.proofs.lemmas.List.{length-append}
use Rattle.std.proofs.lemmas.Option.{same_Some, slice_get_within}
use Rattle.hp_base.specs.declared.pool_line.PoolLine.{PoolLine}
use Rattle.hp_log.specs.declared.log_record.LogRecord.{LogRecord}
use Rattle.hp_segs.specs.SegsView.{is_member}
use Rattle.hp_segs.specs.Sound.{IsSound}
use Rattle.thm_run.specs.Seats.{Seat}
use Rattle.thm_run.specs.Together.{IsFirst, GlobalState, Runs, Steps}
use Rattle.thm_run.proofs.RunFacts.Attached.{AreAsLeft, IsAsLeft, handles_left, later_log, mails_left, quietly_left}
use Rattle.thm_run.proofs.SeatFacts.LogAlong.{HasRecords, step_records}
use Rattle.thm_run.proofs.SeatFacts.Roster.{AreEnrolled, TriesOnce, out_stays, roster_on, tries_grow}
use Rattle.thm_run.proofs.SeatFacts.RosterMoves.{MovesSeat, fails, handles_moves, joins, leaves, mails_moves, quietly_moves, serves, stays, tries_in}
use Rattle.thm_run.proofs.SeatFacts.Seating.{IsSeatAfter, seat_behind}
use Rattle.thm_run.proofs.SeatFacts.SeatsAlong.{count_along}
use Rattle.thm_run.proofs.SeatFacts.SegsAlong.{armed_along, sound_along}
use Rattle.thm_run.proofs.Settings.{seat_at}
use Rattle.thm_run.proofs.PathSteps.ByMail.{runs_then}

moves_grow : {who : ℕ} {old new : Seat} {taken given : _} → MovesSeat who old new taken given → tries_in old.trace ≤ tries_in new.trace
moves_grow (stays roster joined tries) = omega (arith, tries)
moves_grow (serves ended roster member joined tries) = omega (arith, tries)
moves_grow (joins roster joined tries) = omega (arith, tries)
moves_grow (fails roster joined tries) = omega (arith, tries)
moves_grow (leaves roster joined tries) = omega (arith, tries)

-- one participant has come to something else in a step, and the others have not
record IsStepOf (old new : GlobalState) : Type 0 where
  who : ℕ
  before : Seat
  behind : Seat
  there : slice_get old.seats who ≡ Some before
  longer : length old.segs.log ≤ length new.segs.log
  grows : tries_in before.trace ≤ tries_in behind.trace
  is : (other : ℕ) (seat : Seat) → slice_get new.seats other ≡ Some seat → IsSeatAfter old.seats who behind other seat
  leaves_it : is_member old.segs.roster who ≡ before.party.joined
      → (tries_in behind.trace ≡ tries_in before.trace + 1 → before.party.joined ≡ false) → IsAsLeft old.segs.log before
      → IsAsLeft old.segs.log behind

records_long : (old new : List LogRecord) → HasRecords old new → length old ≤ length new
records_long old new has = omega (arith, ap (λ (log : List LogRecord). length log) has.is, length-append old has.more)

module _ (count : ℕ) where
  step_of : (old new : GlobalState) → Steps count old new → IsSound old.segs → length old.segs.log ≤ length new.segs.log → IsStepOf old new
  step_of _ _ (Steps.quietly at who from to there did) sound longer = record {
    who = who;
    before = from;
    behind = to;
    there = there;
    longer = longer;
    grows = moves_grow (quietly_moves who at.segs.roster did);
    is = λ other seat here. seat_behind at.seats who from to there other seat here;
    leaves_it = λ enrolled out was. quietly_left at.segs.log did was;
  }
  step_of _ _ (Steps.mails at who from to step there did) sound longer = record {
    who = who;
    before = from;
    behind = to;
    there = there;
    longer = longer;
    grows = moves_grow (mails_moves at.segs.roster did);
    is = λ other seat here. seat_behind at.seats who from to there other seat here;
    leaves_it = λ enrolled out was. mails_left at.segs.log did was;
  }
  step_of _ _ (Steps.handles at who from to given there did kept armed) sound longer = record {
    who = who;
    before = from;
    behind = to;
    there = there;
    longer = longer;
    grows = moves_grow (handles_moves did sound);
    is = λ other seat here. seat_behind at.seats who from to there other seat here;
    leaves_it = λ enrolled out was. handles_left did sound enrolled out was;
  }

-- who tried once at most after a step did so before it
before_step : (old from to : Seat) → tries_in from.trace ≤ tries_in to.trace → TriesOnce old to → TriesOnce old from
before_step old from to grows tries =
    record { once = omega (arith, grows, tries.once); out = λ more. tries.out (omega (arith, grows, more)) }

module _ (count absent : ℕ) (pools : List PoolLine) (first from : GlobalState) (is : IsFirst count absent pools first)
    (before : Runs count first from) (few : count ≤ 16) (enrolled : AreEnrolled from) (left : AreAsLeft from) where
  -- each tried to attach at most once so far
  abbrev AllTryOnce : GlobalState → Type 0
  AllTryOnce now = (who : ℕ) (old seat : Seat) → slice_get from.seats who ≡ Some old → slice_get now.seats who ≡ Some seat
      → TriesOnce old seat

  module _ (mid now : GlobalState) (runs : Runs count from mid) (size : length now.seats ≡ length mid.seats) (step : IsStepOf mid now)
      (once : AllTryOnce now) where
    grown_seat : (who : ℕ) (old new : Seat) → slice_get mid.seats who ≡ Some old → slice_get now.seats who ≡ Some new
        → tries_in old.trace ≤ tries_in new.trace
    grown_seat who old new early late = by_seat (step.is who new late)
      where
        by_seat : IsSeatAfter mid.seats step.who step.behind who new → tries_in old.trace ≤ tries_in new.trace
        by_seat (IsSeatAfter.its same its) =
            let own : old ≡ step.before = same_Some old step.before (sym early ∙ ap (slice_get mid.seats) same ∙ step.there) in
            omega (arith, step.grows, ap (λ (seat : Seat). tries_in seat.trace) own, ap (λ (seat : Seat). tries_in seat.trace) its)
        by_seat (IsSeatAfter.apart beside here) =
            omega (arith, ap (λ (seat : Seat). tries_in seat.trace) (same_Some old new (sym early ∙ here)))

    once_before : AllTryOnce mid
    once_before who old seat early late =
        let last = seat_at now.seats who (omega (arith, slice_get_within mid.seats who seat late, size)) in
        before_step old seat last.seat (grown_seat who seat last.seat late last.there) (once who old last.seat early last.there)

    -- whoever tries to attach was out
    out_before : (behind : slice_get now.seats step.who ≡ Some step.behind)
        → tries_in step.behind.trace ≡ tries_in step.before.trace + 1 → step.before.party.joined ≡ false
    out_before behind more =
        let one =
        seat_at from.seats step.who (omega (arith, slice_get_within mid.seats step.who step.before step.there, count_along runs)) in
        let tries = once step.who one.seat step.behind one.there behind in
        let grown =
        tries_grow count absent pools first from is before few enrolled mid runs step.who one.seat step.before one.there step.there in
        out_stays count absent pools first from is before few enrolled mid runs step.who one.seat step.before one.there step.there
        (omega (arith, grown, more, tries.once)) (tries.out (omega (arith, grown, more)))

    step_left : AreAsLeft mid → AreAsLeft now
    step_left was who seat here = by_seat (step.is who seat here)
      where
        by_seat : IsSeatAfter mid.seats step.who step.behind who seat → IsAsLeft now.segs.log seat
        by_seat (IsSeatAfter.its same its) =
            let behind : slice_get now.seats step.who ≡ Some step.behind = ap (slice_get now.seats) (sym same) ∙ here ∙ ap Some its in
            later_log mid.segs.log now.segs.log seat step.longer
            (subst (λ (seat : Seat). IsAsLeft mid.segs.log seat) (sym its)
            (step.leaves_it
            (roster_on count absent pools first from is before few enrolled mid runs once_before step.who step.before step.there)
            (out_before behind) (was step.who step.before step.there)))
        by_seat (IsSeatAfter.apart beside there) =
            later_log mid.segs.log now.segs.log seat step.longer (was who seat there)

  -- so each is still attached as its lines leave it
  pub attached_on : (now : GlobalState) → Runs count from now → AllTryOnce now → AreAsLeft now
  attached_on _ (Runs.stands at) once = left
  attached_on now (Runs.goes_on start mid last runs step) once =
      let there = runs_then count first from mid before runs in
      let records = step_records count mid now step (armed_along count absent pools first is mid there).growth in
      let one =
      step_of count mid now step (sound_along count absent pools first is mid there) (records_long mid.segs.log now.segs.log records) in
      let size = count_along (Runs.goes_on mid mid now (Runs.stands mid) step) in
      step_left mid now runs size one once (attached_on mid runs (once_before mid now runs size one once))
