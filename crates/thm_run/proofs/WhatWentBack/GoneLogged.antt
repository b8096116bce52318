-- What a step in the hall logs says truly of runs that were given up that they have gone.
use Rattle.std.proofs.Common.{◌≡◌, ℕ, ◌+◌, ◌-◌, ◌≤◌, inl, inr, List, [], ◌++◌, length, length-append, Some, ap, ◌∙◌, sym, subst, append-nil, arith}
use Rattle.std.specs.Prelude.{Contains, slice_get}
use Rattle.std.proofs.lemmas.List.Elements.{All-push}
use Rattle.hp_base.specs.declared.row.Run.{Run}
use Rattle.hp_heap.specs.declared.entry.HeapAnswer.TheVariants as gives
use Rattle.hp_heap.specs.declared.entry.HeapCall.TheVariants as call
use Rattle.hp_log.specs.declared.log_record.LogRecord.{LogRecord}
use Rattle.hp_segs.specs.SegsView.{SegsView}
use Rattle.hp_segs.specs.Steps.{after_retire}
use Rattle.hp_segs.specs.declared.outcome.AskLog.{AskLog}
use Rattle.hp_segs.specs.declared.outcome.Outcome.TheVariants.{Freed}
use Rattle.hp_proc.specs.Courses.{numbered_in}
use Rattle.hp_proc.specs.Doing.{Done}
use Rattle.hp_proc.specs.Doing.Done.{Called, GaveUp}
use Rattle.thm_run.specs.Seats.{Seat}
use Rattle.thm_run.proofs.SeatFacts.CoreLogs.{HasLogged, IsLogged, IsLoggedBy, LogMoves, adds, answered, freed, keeps, stale, stays, with_drops}
use Rattle.thm_run.proofs.WhatWentBack.CutFirst.{IsCutFirst, given_up_cut}
use Rattle.thm_run.proofs.WhatWentBack.Gone.{AreTrulySince, Grew, HasGoneSince, IsGoing, IsTrulySince, freed_later, going_dropped, going_later, gone_later, inserted, log_grew, not_freed, stale_unfreed}
use Rattle.thm_run.proofs.GrownHeaps.Grown.{get_behind}
use Rattle.thm_run.proofs.Leaving.{IsClaimed, IsRefusedOnce, leaves, refuses}
use Rattle.thm_run.proofs.Made.{IsTaken}
use Rattle.thm_run.proofs.TracesTold.Numbers.{AreLater, numbered_both, numbers_of, trace_in}

-- each run that a trace cut is Retiring or was dropped since there were so many records
abbrev pub AreGoing : ℕ → List Done → SegsView → Type 0
AreGoing base trace segs = (heap addr : ℕ) (run : Run) → Contains trace (Called heap (call.Cut addr) (gives.Pages run))
    → IsGoing base segs run

-- a trace goes on from a past one: in what came after that, each run that is given up was cut before
abbrev pub AreCutSince : List Done → List Done → Type 0
AreCutSince past trace = (more : List Done) → trace ≡ past ++ more → IsCutFirst more

-- and each run that was cut in what came after it is Retiring or was dropped since there were so many records
pub record IsGoingSince (base : ℕ) (past trace : List Done) (segs : SegsView) : Type 0 where
  pub more : List Done
  pub is : trace ≡ past ++ more
  pub going : AreGoing base more segs

-- so it is with a participant that had done so much when there were so many records, and what is told of its later notices to have gone has
-- gone since
pub record AreGone (who base : ℕ) (past : List Done) (seats : List Seat) (segs : SegsView) : Type 0 where
  pub low : base ≤ length segs.log
  pub since : IsGoingSince base past (trace_in (slice_get seats who)) segs
  pub freed : AreTrulySince who (length (numbered_in past)) base (numbers_of seats) segs.log segs.asks

pub same_numbers : (seats : List Seat) → AreLater (numbers_of seats) (numbers_of seats)
same_numbers seats who = record { more = []; is = sym (append-nil (numbers_of seats who)) }

-- what the coordinator logs of a notice is so: its run was cut, so it is Retiring or was dropped
module _ (who base : ℕ) (past : List Done) (seats : List Seat) (old new : SegsView) (was : AreGone who base past seats old) where
  abbrev made : ℕ
  made = length (numbered_in past)

  abbrev trace : List Done
  trace = trace_in (slice_get seats who)

  abbrev AreSo : List LogRecord → List AskLog → Type 0
  AreSo log asks = AreTrulySince who made base (numbers_of seats) log asks

  abbrev IsSo : AskLog → Type 0
  IsSo entry = IsTrulySince who made base (numbers_of seats) new.log entry

  same_trace : (asks : List AskLog) → AreSo old.log asks → Grew old.log new.log → AreSo new.log asks
  same_trace asks are grew =
      freed_later who made base (numbers_of seats) (numbers_of seats) old.log new.log asks (same_numbers seats) grew are

  still_low : Grew old.log new.log → base ≤ length new.log
  still_low grew = omega (arith, was.low, ap length grew.is, length-append old.log grew.more)

  still_going : LogMoves old new → IsGoingSince base past trace new
  still_going moves = record {
    more = was.since.more;
    is = was.since.is;
    going = λ heap addr run among. going_later base old new run moves was.low (was.since.going heap addr run among);
  }

  module _ (cut : AreCutSince past trace) where
    freed_by : (entry : AskLog) → IsLogged (IsTaken (numbers_of seats)) old new entry → IsSo entry
    freed_by entry (stale one its from number is) = stale_unfreed who made base (numbers_of seats) new.log entry is
    freed_by entry (answered ask armed fresh from number kept is) = not_freed who made base (numbers_of seats) new.log entry is
    freed_by entry (freed from number more its fresh by which is log) = λ generation told own above.
        let behind = numbered_in was.since.more in
        let place : ℕ = number - (made + 1) in
        let numbers : numbers_of seats from ≡ numbered_in past ++ behind =
        ap (numbers_of seats) (sym by ∙ own) ∙ (ap numbered_in was.since.is ∙ numbered_both past was.since.more) in
        let taken : slice_get behind place ≡ Some (GaveUp its.heap its.run) =
        sym (get_behind (numbered_in past) behind place (number - 1) (omega (arith, above, which)))
        ∙ (ap (λ numbered. slice_get numbered (number - 1)) (sym numbers) ∙ its.its) in
        let cut_first = given_up_cut was.since.more place its.heap its.run (cut was.since.more was.since.is) taken in
        let going : IsGoing base old its.run = was.since.going its.heap cut_first.addr its.run cut_first.called in
        let same : Freed (length (with_drops old)) ≡ Freed generation = sym is ∙ told in
        let when : length (with_drops old) ≡ generation = cc in
        record {
          heap = its.heap;
          run = its.run;
          its = subst (λ from. slice_get (numbers_of seats from) (entry.number - 1) ≡ Some (GaveUp its.heap its.run)) (sym by)
              (subst (λ n. slice_get (numbers_of seats from) (n - 1) ≡ Some (GaveUp its.heap its.run)) (sym which) its.its);
          gone = subst (λ log. HasGoneSince base log generation its.run) (sym log)
              (gone_later base (with_drops old) more (length (with_drops old)) generation its.run
              (going_dropped base old its.run was.low going) (omega (arith, when)));
        }

    freed_logged : HasLogged (IsTaken (numbers_of seats)) old new → Grew old.log new.log → AreSo new.log new.asks
    freed_logged (stays is) grew = subst (AreSo new.log) (sym is) (same_trace old.asks was.freed grew)
    freed_logged (adds entry is its) grew =
        subst (AreSo new.log) (sym is) (All-push IsSo old.asks entry (same_trace old.asks was.freed grew) (freed_by entry its))

    -- a step of the coordinator
    pub gone_logged : IsLoggedBy (IsTaken (numbers_of seats)) old new → AreGone who base past seats new
    gone_logged logged = record {
      low = still_low (log_grew old new logged.log);
      since = still_going logged.log;
      freed = freed_logged logged.asks (log_grew old new logged.log);
    }

  -- a step that logs a refusal, or no outcome
  freed_refused : IsRefusedOnce old new → Grew old.log new.log → AreSo new.log new.asks
  freed_refused (leaves is) grew = subst (AreSo new.log) (sym is) (same_trace old.asks was.freed grew)
  freed_refused (refuses entry is more) grew =
      subst (AreSo new.log) (sym more)
      (All-push IsSo old.asks entry (same_trace old.asks was.freed grew)
      (not_freed who made base (numbers_of seats) new.log entry is))

  pub gone_refused : LogMoves old new → IsRefusedOnce old new → AreGone who base past seats new
  gone_refused moves refused = record {
    low = still_low (log_grew old new moves);
    since = still_going moves;
    freed = freed_refused refused (log_grew old new moves);
  }

  -- a step that leaves the outcomes, the records and the Retiring runs
  pub gone_left : IsClaimed old new → AreGone who base past seats new
  gone_left left = gone_refused (keeps [] (left.log ∙ sym (append-nil old.log)) left.retiring) (leaves left.asks)

-- a run that is cut is Retiring, and those before it go on
going_retired : (base heap : ℕ) (given run : Run) (segs : SegsView) → IsGoing base segs run → IsGoing base (after_retire heap given segs) run
going_retired base heap given run segs (inl among) = inl (inserted given run segs.retiring (inr among))
going_retired base heap given run segs (inr gone) = inr gone

pub gone_retired : (who base : ℕ) (past : List Done) (seats : List Seat) (heap : ℕ) (run : Run) (segs : SegsView)
    → AreGone who base past seats segs → AreGone who base past seats (after_retire heap run segs)
gone_retired who base past seats heap run segs was = record {
  low = was.low;
  since = record {
    more = was.since.more;
    is = was.since.is;
    going = λ other addr its among. going_retired base heap run its segs (was.since.going other addr its among);
  };
  freed = was.freed;
}
