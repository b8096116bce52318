-- The outcomes of a run of all participants are of their own asks and notices, in turn.
use Rattle.std.proofs.Common.{◌≡◌, ◌∙◌, ℕ, ◌-◌, ◌<◌, ◌≤◌, true, false, List, length, Option, Some, None, refl, ap, sym, subst}
use Rattle.std.specs.Prelude.{Contains, slice_get}
use Rattle.std.specs.List.{All}
use Rattle.std.proofs.lemmas.List.Elements.{All-contains, All-contains_itself, All-weaker}
use Rattle.hp_base.specs.declared.pool_line.PoolLine.{PoolLine}
use Rattle.hp_base.specs.declared.row.Run.{Run}
use Rattle.hp_log.specs.declared.log_record.LogRecord.{LogRecord}
use Rattle.hp_segs.specs.LaterSteps.{armed_ask}
use Rattle.hp_segs.specs.SegsView.{is_grant_or_refusal, is_stale}
use Rattle.hp_segs.specs.declared.ask.Ask.{Ask}
use Rattle.hp_segs.specs.declared.outcome.AskLog.{AskLog}
use Rattle.hp_segs.specs.declared.outcome.Outcome.{Outcome}
use Rattle.hp_segs.specs.declared.outcome.Outcome.TheVariants.{Freed, Granted, Refused, Stale}
use Rattle.hp_proc.specs.Acting.{AreAsked}
use Rattle.hp_proc.specs.Courses.{numbered_in}
use Rattle.hp_proc.specs.Doing.{Done}
use Rattle.hp_proc.specs.Doing.Done.{Asked, GaveUp}
use Rattle.hp_proc.specs.Outcomes.{AreAnsweredSo, AreInTurn, IsOfAnAskOfATrace, IsOfATraceUnlessStale, IsOutcomeOf}
use Rattle.hp_serve.specs.Asking.{ask_of}
use Rattle.hp_serve.specs.declared.pages_asked.PagesAsked.{PagesAsked}
use Rattle.thm_run.proofs.TracesTold.AnsweredTrace.{answers_all}
use Rattle.thm_run.proofs.WhatWentBack.Gone.{AreTrulyFreed, IsTrulyFreed}
use Rattle.thm_run.proofs.Made.{IsNumbered, answered as answered_ask, freed, stale_ask, stale_notice, took_number}
use Rattle.thm_run.proofs.TracesTold.Numbers.{its_numbers, numbers_of, trace_in}
use Rattle.thm_run.proofs.TracesTold.TracedRuns.{traced_runs}
use Rattle.thm_run.specs.Seats.{Seat}
use Rattle.thm_run.specs.Together.{IsFirst, GlobalState, RunsByMail}

-- a grant or a refusal keeps the ask of its number
pub record IsKeptBy (numbered : List Done) (entry : AskLog) : Type 0 where
  pub asked : PagesAsked
  pub run : Option Run
  pub its : slice_get numbered (entry.number - 1) ≡ Some (Asked asked run)
  pub kept : entry.ask ≡ Some (ask_of entry.from entry.number asked)

-- an outcome is of a seat, by a number that it took
pub record IsOfASeat (at : GlobalState) (entry : AskLog) : Type 0 where
  pub seat : Seat
  pub its : slice_get at.seats entry.from ≡ Some seat
  pub some : 0 < entry.number
  pub within : entry.number ≤ seat.party.asked

-- whoever is armed with an ask made it
pub record IsArmedBy (who : ℕ) (numbered : List Done) (ask : Ask) : Type 0 where
  pub some : 0 < ask.number
  pub asked : PagesAsked
  pub run : Option Run
  pub its : slice_get numbered (ask.number - 1) ≡ Some (Asked asked run)
  pub is : ask ≡ ask_of who ask.number asked

fresh_grant : (outcome : Outcome) → is_grant_or_refusal outcome ≡ true → is_stale outcome ≡ true → ⊥
fresh_grant (Granted generation) grants stale = cc
fresh_grant (Refused cause) grants stale = cc
fresh_grant (Stale done) grants stale = cc
fresh_grant (Freed generation) grants stale = cc

kept_by : (took : ℕ → List Done) (entry : AskLog) → IsNumbered took entry → is_grant_or_refusal entry.outcome ≡ true
    → IsKeptBy (took entry.from) entry
kept_by took entry (stale_ask is was) grants = absurd (fresh_grant entry.outcome grants is)
kept_by took entry (stale_notice is was) grants = absurd (fresh_grant entry.outcome grants is)
kept_by took entry (answered_ask ask is made from number kept) grants = record {
  asked = made.asked;
  run = made.run;
  its = subst (λ n. slice_get (took entry.from) (n - 1) ≡ Some (Asked made.asked made.run)) (sym number)
      (subst (λ who. slice_get (took who) (ask.number - 1) ≡ Some (Asked made.asked made.run)) (sym from) made.its);
  kept = kept
      ∙ ap Some (made.is
      ∙ ap (λ who. ask_of who ask.number made.asked) (sym from)
      ∙ ap (λ n. ask_of entry.from n made.asked) (sym number));
}
kept_by took entry (freed generation is was) grants =
    let wrong : true ≡ false = sym grants ∙ ap is_grant_or_refusal is in
    cc

-- a grant or a refusal is an outcome of an ask
of_ask : (log : List LogRecord) (outcome : Outcome) (asked : PagesAsked) (run : Option Run) → is_grant_or_refusal outcome ≡ true
    → IsOutcomeOf log outcome (Asked asked run)
of_ask log (Granted generation) asked run grants = tt
of_ask log (Refused cause) asked run grants = tt
of_ask log (Stale done) asked run grants = cc
of_ask log (Freed generation) asked run grants = cc

-- where something took a number there is a seat
record IsSeated (seats : List Seat) (who : ℕ) : Type 0 where
  pub seat : Seat
  pub its : slice_get seats who ≡ Some seat

seated_in : (seats : List Seat) (who place : ℕ) (done : Done) (found : Option Seat) → slice_get seats who ≡ found
    → slice_get (numbered_in (trace_in found)) place ≡ Some done → IsSeated seats who
seated_in seats who place done None is none = cc
seated_in seats who place done (Some seat) is some = record { seat = seat; its = is }

module _ (now : GlobalState) (did : ℕ → List Done)
    (own : (who : ℕ) (seat : Seat) → slice_get now.seats who ≡ Some seat → did who ≡ seat.trace) where
  -- what took a number stands in the traces
  its_trace : (who place : ℕ) (done : Done) → slice_get (numbers_of now.seats who) place ≡ Some done
      → slice_get (numbered_in (did who)) place ≡ Some done
  its_trace who place done its =
      let one = seated_in now.seats who place done (slice_get now.seats who) refl its in
      let same : numbers_of now.seats who ≡ numbered_in (did who) =
      its_numbers now.seats who one.seat one.its ∙ ap numbered_in (sym (own who one.seat one.its)) in
      subst (λ numbered. slice_get numbered place ≡ Some done) same its

  of_a_trace : (entry : AskLog) → IsNumbered (numbers_of now.seats) entry → IsTrulyFreed (numbers_of now.seats) now.segs.log entry
      → IsOfATraceUnlessStale now.segs.log did entry
  of_a_trace entry (stale_ask is was) truly fresh =
      let wrong : true ≡ false = sym is ∙ fresh in
      cc
  of_a_trace entry (stale_notice is was) truly fresh =
      let wrong : true ≡ false = sym is ∙ fresh in
      cc
  of_a_trace entry (answered_ask ask is made from number kept) truly fresh =
      let took = took_number (numbers_of now.seats) entry (answered_ask ask is made from number kept) in
      let by = kept_by (numbers_of now.seats) entry (answered_ask ask is made from number kept) is in
      record {
        done = Asked by.asked by.run;
        some = took.some;
        its = its_trace entry.from (entry.number - 1) (Asked by.asked by.run) by.its;
        kind = of_ask now.segs.log entry.outcome by.asked by.run is;
      }
  of_a_trace entry (freed generation is was) truly fresh =
      let its = truly generation is in
      record {
        done = GaveUp its.heap its.run;
        some = was.some;
        its = its_trace entry.from (entry.number - 1) (GaveUp its.heap its.run) its.its;
        kind = subst (λ outcome. IsOutcomeOf now.segs.log outcome (GaveUp its.heap its.run)) (sym is) its.gone;
      }

-- a grant and a refusal are no stale outcomes
fresh_is : (outcome : Outcome) → is_grant_or_refusal outcome ≡ true → is_stale outcome ≡ false
fresh_is (Granted generation) grants = refl
fresh_is (Refused cause) grants = refl
fresh_is (Stale done) grants = cc
fresh_is (Freed generation) grants = cc

-- where each outcome but a stale one is of what a trace did, each grant and each refusal is
pub asked_of_traces : (log : List LogRecord) (did : ℕ → List Done) (asks : List AskLog) → All (IsOfATraceUnlessStale log did) asks
    → All (IsOfAnAskOfATrace log did) asks
asked_of_traces log did asks all =
    All-weaker (IsOfATraceUnlessStale log did) (IsOfAnAskOfATrace log did) (λ entry of grants. of (fresh_is entry.outcome grants)) asks all

module _ (count absent : ℕ) (pools : List PoolLine) (first now : GlobalState) (is : IsFirst count absent pools first)
    (runs : RunsByMail count first now) where
  -- the number of a participant's last ask is how many asks and notices it made
  pub asked_counts : (who : ℕ) (seat : Seat) → slice_get now.seats who ≡ Some seat → seat.party.asked ≡ length (numbered_in seat.trace)
  asked_counts who seat there = ((traced_runs count absent pools first is now runs).seats who seat there).count

  -- an outcome has a number that was taken
  its_number : (entry : AskLog) → Contains now.segs.asks entry → IsNumbered (numbers_of now.seats) entry
  its_number entry among =
      All-contains (IsNumbered (numbers_of now.seats)) now.segs.asks entry
      (traced_runs count absent pools first is now runs).asks.each among

  -- each outcome is of a seat
  pub of_a_seat : (entry : AskLog) → Contains now.segs.asks entry → IsOfASeat now entry
  of_a_seat entry among =
      let took = took_number (numbers_of now.seats) entry (its_number entry among) in
      let one = seated_in now.seats entry.from (entry.number - 1) took.done (slice_get now.seats entry.from) refl took.its in
      let long : length (numbers_of now.seats entry.from) ≡ one.seat.party.asked =
      ap length (its_numbers now.seats entry.from one.seat one.its) ∙ sym (asked_counts entry.from one.seat one.its) in
      record {
        seat = one.seat;
        its = one.its;
        some = took.some;
        within = subst (λ n. entry.number ≤ n) long took.within;
      }

  -- they come in turn
  pub in_turn : AreInTurn now.segs.asks
  in_turn = record { above = (traced_runs count absent pools first is now runs).asks.turn }

  -- and each has the number of an ask or a notice
  pub numbered : All (λ (entry : AskLog). 0 < entry.number) now.segs.asks
  numbered =
      All-weaker (Contains now.segs.asks) (λ (entry : AskLog). 0 < entry.number) (λ entry among. (of_a_seat entry among).some) now.segs.asks
      (All-contains_itself now.segs.asks)

  -- each grant and refusal keeps the ask of its number
  pub kept : (entry : AskLog) → Contains now.segs.asks entry → is_grant_or_refusal entry.outcome ≡ true → (seat : Seat)
      → slice_get now.seats entry.from ≡ Some seat → IsKeptBy (numbered_in seat.trace) entry
  kept entry among grants seat there =
      subst (λ numbered. IsKeptBy numbered entry) (its_numbers now.seats entry.from seat there)
      (kept_by (numbers_of now.seats) entry (its_number entry among) grants)

  -- each outcome other than Stale is of something that the trace of its participant did, where each notice that is answered has gone
  pub outcomes : AreTrulyFreed (numbers_of now.seats) now.segs.log now.segs.asks → (did : ℕ → List Done)
      → ((who : ℕ) (seat : Seat) → slice_get now.seats who ≡ Some seat → did who ≡ seat.trace)
      → All (IsOfATraceUnlessStale now.segs.log did) now.segs.asks
  outcomes gone did own =
      let traced = traced_runs count absent pools first is now runs in
      λ k d within. of_a_trace now did own _ (traced.asks.each k d within) (gone k d within)

  -- each ask of a trace has its outcome
  pub answered : (who : ℕ) (seat : Seat) → slice_get now.seats who ≡ Some seat
      → AreAsked now.segs.log now.segs.asks who 0 seat.party.asked seat.trace
      → AreAnsweredSo now.segs.log now.segs.asks who seat.trace
  answered who seat there are =
      answers_all now.segs.log now.segs.asks who in_turn seat.party.asked seat.trace are (asked_counts who seat there)

  -- an armed ask was made by whoever is armed with it
  pub armed_made : (who : ℕ) (ask : Ask) → armed_ask now.segs who ≡ Some ask → (seat : Seat) → slice_get now.seats who ≡ Some seat
      → IsArmedBy who (numbered_in seat.trace) ask
  armed_made who ask armed seat there =
      let its = (traced_runs count absent pools first is now runs).armed who ask armed in
      let numbers : numbers_of now.seats ask.from ≡ numbered_in seat.trace =
      ap (numbers_of now.seats) its.own ∙ its_numbers now.seats who seat there in
      record {
        some = its.made.some;
        asked = its.made.asked;
        run = its.made.run;
        its = subst (λ numbered. slice_get numbered (ask.number - 1) ≡ Some (Asked its.made.asked its.made.run)) numbers its.made.its;
        is = its.made.is ∙ ap (λ who. ask_of who ask.number its.made.asked) its.own;
      }
