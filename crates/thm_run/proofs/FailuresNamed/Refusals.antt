-- What a run shows of attaches that were refused: each is of a row of the log, by a call of its participant's mapper at which that may
-- fail, and these calls rise; and a look shows no more records than there are.
use Rattle.std.proofs.Common.{◌≡◌, ℕ, ◌<◌, ◌≤◌, true, List, [], ◌++◌, length, Some, ap, sym, subst, arith}
use Rattle.std.specs.Prelude.{Contains, slice_get, slice_set}
use Rattle.std.specs.List.{All}
use Rattle.std.specs.List.Sorted.{IsStrictlyIncreasing}
use Rattle.std.proofs.lemmas.List.Elements.{All-contains, All-nil, All-weaker}
use Rattle.hp_base.specs.Mapping.{may_fail_at}
use Rattle.hp_base.specs.declared.pool_line.PoolLine.{PoolLine}
use Rattle.hp_log.specs.declared.log_record.LogRecord.{LogRecord}
use Rattle.hp_proc.specs.Doing.{Done}
use Rattle.hp_proc.specs.Doing.Done.{CaughtUp, ChunkMapped, Looked}
use Rattle.hp_proc.specs.Handed.{AreOwnFailures, IsFailureOfItsRow, calls_failed}
use Rattle.thm_run.specs.Seats.{Seat}
use Rattle.thm_run.specs.Together.{IsFirst, GlobalState, Runs, Steps}
use Rattle.thm_run.proofs.SeatFacts.LogAlong.{HasRecords, step_records}
use Rattle.thm_run.proofs.FailuresNamed.RefusedCalls.{IsOfLog, of_more_records}
use Rattle.thm_run.proofs.SeatFacts.SeatRefusals.{DoesMore, IsAttachedSo, IsRefusedCall, attached_on, handles_more, mails_more, quietly_more}
use Rattle.thm_run.proofs.SeatFacts.Seating.{IsSeatAfter, seat_behind}
use Rattle.thm_run.proofs.SeatFacts.SegsAlong.{armed_along}

-- with more records
more_records : (log more : List LogRecord) (seat : Seat) → IsAttachedSo log seat → IsAttachedSo (log ++ more) seat
more_records log more seat was = record {
  done = All-weaker (IsOfLog log) (IsOfLog (log ++ more)) (of_more_records log more) seat.trace was.done;
  calls = was.calls;
  rising = was.rising;
}

-- each seat shows so much, by the records that there are
abbrev AreAttachedSo : GlobalState → Type 0
AreAttachedSo at = (who : ℕ) (seat : Seat) → slice_get at.seats who ≡ Some seat → IsAttachedSo at.segs.log seat

by_records : (log now : List LogRecord) (seat : Seat) → HasRecords log now → IsAttachedSo log seat → IsAttachedSo now seat
by_records log now seat came was =
    subst (λ (log : List LogRecord). IsAttachedSo log seat) (sym came.is) (more_records log came.more seat was)

seats_on : (seats : List Seat) (log now : List LogRecord) (who : ℕ) (old new : Seat) → slice_get seats who ≡ Some old
    → DoesMore log old new → HasRecords log now
    → ((other : ℕ) (seat : Seat) → slice_get seats other ≡ Some seat → IsAttachedSo log seat) → (other : ℕ) (seat : Seat)
    → slice_get (slice_set seats who new) other ≡ Some seat → IsAttachedSo now seat
seats_on seats log now who old new there did came was other seat here = by_seat (seat_behind seats who old new there other seat here)
  where
    by_seat : IsSeatAfter seats who new other seat → IsAttachedSo now seat
    by_seat (IsSeatAfter.its same is) =
        subst (λ seat. IsAttachedSo now seat) (sym is) (by_records log now new came (attached_on log old new (was who old there) did))
    by_seat (IsSeatAfter.apart beside its) = by_records log now seat came (was other seat its)

step_attached : (count : ℕ) (old new : GlobalState) → Steps count old new → HasRecords old.segs.log new.segs.log → AreAttachedSo old
    → AreAttachedSo new
step_attached count _ _ (Steps.quietly at who old new there did) came was =
    seats_on at.seats at.segs.log at.segs.log who old new there (quietly_more at.segs.log did) came was
step_attached count _ _ (Steps.mails at who old new step there did) came was =
    seats_on at.seats at.segs.log at.segs.log who old new there (mails_more at.segs.log did) came was
step_attached count _ _ (Steps.handles at who old new given there did kept armed) came was =
    seats_on at.seats at.segs.log given.log who old new there (handles_more did) came was

nothing_shown : (log : List LogRecord) (seat : Seat) → seat.trace ≡ [] → IsAttachedSo log seat
nothing_shown log seat nothing = record {
  done = subst (All (IsOfLog log)) (sym nothing) (All-nil (IsOfLog log));
  calls = subst (All (IsRefusedCall seat.party.maps)) (sym (ap calls_failed nothing)) (All-nil (IsRefusedCall seat.party.maps));
  rising = subst IsStrictlyIncreasing (sym (ap calls_failed nothing)) none_rise;
}
  where
    none_rise : IsStrictlyIncreasing []
    none_rise k within = omega (arith, within)

module _ (count absent : ℕ) (pools : List PoolLine) (first now : GlobalState) (is : IsFirst count absent pools first)
    (runs : Runs count first now) where
  pub attached_so : (who : ℕ) (seat : Seat) → slice_get now.seats who ≡ Some seat → IsAttachedSo now.segs.log seat
  attached_so = all_attached now runs
    where
      all_attached : (at : GlobalState) → Runs count first at → AreAttachedSo at
      all_attached _ (Runs.stands at) = λ who seat there. nothing_shown at.segs.log seat (is.each who seat there).trace
      all_attached at (Runs.goes_on start mid last runs step) =
          step_attached count mid at step
          (step_records count mid at step (armed_along count absent pools first is mid runs).growth) (all_attached mid runs)

  -- the mappings of a participant that failed: each is of a row of the log or of a chunk, and their calls rise from 1
  pub refusals : (who : ℕ) (seat : Seat) → slice_get now.seats who ≡ Some seat → AreOwnFailures now.segs.log seat.trace
  refusals who seat there =
      let so = attached_so who seat there in
      record {
        rows = All-weaker (IsOfLog now.segs.log) (IsFailureOfItsRow now.segs.log) (row_in now.segs.log) seat.trace so.done;
        some = All-weaker (IsRefusedCall seat.party.maps) (λ number. 0 < number) (λ number is. is.some) (calls_failed seat.trace) so.calls;
        rising = so.rising;
      }
    where
      row_in : (log : List LogRecord) (done : Done) → IsOfLog log done → IsFailureOfItsRow log done
      row_in log (CaughtUp to ended) is = is.1
      row_in log (ChunkMapped chunk ended) is = is
      row_in log _ is = tt

  -- each such call is one at which the mapper may fail
  pub refused_by_reason : (who : ℕ) (seat : Seat) → slice_get now.seats who ≡ Some seat → (call : ℕ)
      → Contains (calls_failed seat.trace) call → may_fail_at seat.party.maps.may_fail call ≡ true
  refused_by_reason who seat there call among =
      (All-contains (IsRefusedCall seat.party.maps) (calls_failed seat.trace) call (attached_so who seat there).calls among).may

  -- a look shows no more records than there are
  pub looks : (who : ℕ) (seat : Seat) → slice_get now.seats who ≡ Some seat → (records : ℕ) → Contains seat.trace (Looked records)
      → records ≤ length now.segs.log
  looks who seat there records among =
      All-contains (IsOfLog now.segs.log) seat.trace (Looked records) (attached_so who seat there).done among
