-- Where each ask of a trace has its answer, that with which its participant is armed was granted or refused, and its number is not above the
-- closed one; and where it is so with all, no growth is open.
use Rattle.std.proofs.Common.{◌≡◌, ◌==◌, ◌∙◌, ℕ, ◌+◌, ◌-◌, ◌≤◌, Bool, false, true, not, List, Option, Some, None, IfSome, refl, ap, sym, subst, arith}
use Rattle.std.specs.Prelude.{slice_get}
use Rattle.std.specs.List.{find, list_any}
use Rattle.std.proofs.lemmas.Bool.{and_from, and_parts, eqb-true}
use Rattle.hp_base.specs.declared.pool_line.PoolLine.{PoolLine}
use Rattle.hp_base.specs.declared.row.Run.{Run}
use Rattle.hp_hall.proofs.AsksOfHalls.AskFacts.{any_there}
use Rattle.hp_hall.proofs.StandingFacts.StandingAsks.{closed_above}
use Rattle.hp_heap.proofs.Members.{find_some}
use Rattle.hp_segs.specs.GrowthLaws.{IsOfArmed}
use Rattle.hp_segs.specs.LaterSteps.{armed_ask}
use Rattle.hp_log.specs.declared.log_record.LogRecord.{LogRecord}
use Rattle.hp_segs.specs.SegsView.{closed_number, grants_or_refuses, is_grant_or_refusal, is_outcome_for, is_stale}
use Rattle.hp_segs.specs.declared.ask.Ask.{Ask}
use Rattle.hp_segs.specs.declared.growth.Growth.{Growth}
use Rattle.hp_segs.specs.declared.outcome.AskLog.{AskLog}
use Rattle.hp_segs.specs.declared.outcome.Outcome.{Outcome}
use Rattle.hp_segs.specs.declared.outcome.Outcome.TheVariants.{Freed, Granted, Refused, Stale}
use Rattle.hp_serve.specs.Asking.{Gives}
use Rattle.hp_proc.specs.Acting.{AreAsked}
use Rattle.hp_proc.specs.Courses.{numbered_in}
use Rattle.hp_proc.specs.Doing.Done.{Asked}
use Rattle.thm_run.proofs.PathSteps.ByMail.{run_of}
use Rattle.thm_run.specs.Seats.{Seat}
use Rattle.thm_run.specs.Together.{IsFirst, GlobalState, RunsByMail}
use Rattle.thm_run.proofs.TracesTold.Numbers.{trace_in}
use Rattle.thm_run.proofs.SeenAndShown.Provenance.{answered, armed_made}
use Rattle.thm_run.proofs.SeatFacts.SegsAlong.{armed_along}
use Rattle.thm_run.proofs.TracesTold.TracedRuns.{traced_runs}

-- each participant's asks have their answers
abbrev pub AllAsked : GlobalState → Type 0
AllAsked at = (who : ℕ) (seat : Seat) → slice_get at.seats who ≡ Some seat
    → AreAsked at.segs.log at.segs.asks who 0 seat.party.asked seat.trace

not_false : (is : Bool) → not is ≡ true → is ≡ false
not_false true not_it = cc
not_false false not_it = refl

-- an outcome that is found for a number is not above the closed one
pub found_closed : (asks : List AskLog) (who number : ℕ) (entry : AskLog) → find (is_outcome_for who number) asks ≡ Some entry
    → number ≤ closed_number asks who
found_closed asks who number entry found =
    let is = find_some (is_outcome_for who number) asks entry found in
    let parts = and_parts (entry.from == who) _ is.0 in
    let rest = and_parts (entry.number == number) _ parts.1 in
    let below = closed_above asks entry is.1 (not_false (is_stale entry.outcome) rest.1) in
    let own : closed_number asks entry.from ≡ closed_number asks who = ap (closed_number asks) (eqb-true entry.from who parts.0) in
    omega (arith, below, own, eqb-true entry.number number rest.0)

-- what gives a run, or none, is a grant or a refusal
gives_answer : (log : List LogRecord) (outcome : Outcome) (run : Option Run) → Gives log outcome run → is_grant_or_refusal outcome ≡ true
gives_answer log (Granted generation) None gives = absurd gives
gives_answer log (Granted generation) (Some run) gives = refl
gives_answer log (Refused cause) None gives = refl
gives_answer log (Refused cause) (Some run) gives = absurd gives
gives_answer log (Stale done) None gives = absurd gives
gives_answer log (Stale done) (Some run) gives = absurd gives
gives_answer log (Freed generation) None gives = absurd gives
gives_answer log (Freed generation) (Some run) gives = absurd gives

-- so where such an outcome is found for a number, that was granted or refused
found_answered : (log : List LogRecord) (asks : List AskLog) (who number : ℕ) (entry : AskLog) (run : Option Run)
    → find (is_outcome_for who number) asks ≡ Some entry → Gives log entry.outcome run → list_any (grants_or_refuses who number) asks ≡ true
found_answered log asks who number entry run found gives =
    let is = find_some (is_outcome_for who number) asks entry found in
    let parts = and_parts (entry.from == who) _ is.0 in
    let rest = and_parts (entry.number == number) _ parts.1 in
    any_there (grants_or_refuses who number) asks entry is.1
    (and_from (entry.from == who) _ parts.0 (and_from (entry.number == number) _ rest.0 (gives_answer log entry.outcome run gives)))

module _ (count absent : ℕ) (pools : List PoolLine) (first now : GlobalState) (is : IsFirst count absent pools first)
    (runs : RunsByMail count first now) where
  -- whoever is armed with an ask has a seat
  no_seat : (who : ℕ) (ask : Ask) → armed_ask now.segs who ≡ Some ask → slice_get now.seats who ≡ None → ⊥
  no_seat who ask armed none =
      let its = (traced_runs count absent pools first is now runs).armed who ask armed in
      let nothing : slice_get (numbered_in (trace_in None)) (ask.number - 1) ≡ Some (Asked its.made.asked its.made.run) =
      ap (λ (found : Option Seat). slice_get (numbered_in (trace_in found)) (ask.number - 1))
      (sym (ap (slice_get now.seats) its.own ∙ none)) ∙ its.made.its in
      cc

  -- an armed ask of a participant whose asks have their answers
  closed_of : (who : ℕ) (seat : Seat) → slice_get now.seats who ≡ Some seat
      → AreAsked now.segs.log now.segs.asks who 0 seat.party.asked seat.trace → (ask : Ask) → armed_ask now.segs who ≡ Some ask
      → ask.number ≤ closed_number now.segs.asks who
  closed_of who seat there asked ask armed =
      let made = armed_made count absent pools first now is runs who ask armed seat there in
      let its = answered count absent pools first now is runs who seat there asked (ask.number - 1) made.asked made.run made.its in
      omega (arith, found_closed now.segs.asks who (ask.number - 1 + 1) its.entry its.logged, made.some)

  -- it was granted or refused
  pub answered_of : (who : ℕ) (seat : Seat) → slice_get now.seats who ≡ Some seat
      → AreAsked now.segs.log now.segs.asks who 0 seat.party.asked seat.trace → (ask : Ask) → armed_ask now.segs who ≡ Some ask
      → list_any (grants_or_refuses ask.from ask.number) now.segs.asks ≡ true
  answered_of who seat there asked ask armed =
      let made = armed_made count absent pools first now is runs who ask armed seat there in
      let its = answered count absent pools first now is runs who seat there asked (ask.number - 1) made.asked made.run made.its in
      let number : ask.number - 1 + 1 ≡ ask.number = omega (arith, made.some) in
      subst (λ (from : ℕ). list_any (grants_or_refuses from ask.number) now.segs.asks ≡ true) (sym (ap (λ (ask : Ask). ask.from) made.is))
      (subst (λ (number : ℕ). list_any (grants_or_refuses who number) now.segs.asks ≡ true) number
      (found_answered now.segs.log now.segs.asks who (ask.number - 1 + 1) its.entry made.run its.logged its.given))

  module _ (asked : AllAsked now) where
    -- of anybody
    pub all_closed : (who : ℕ) (ask : Ask) → armed_ask now.segs who ≡ Some ask → ask.number ≤ closed_number now.segs.asks who
    all_closed who ask armed = by_seat (slice_get now.seats who) refl
      where
        by_seat : (found : Option Seat) → slice_get now.seats who ≡ found → ask.number ≤ closed_number now.segs.asks who
        by_seat None none = absurd (no_seat who ask armed none)
        by_seat (Some seat) there = closed_of who seat there (asked who seat there) ask armed

    none_open : (growth : Option Growth) → IfSome growth (IsOfArmed now.segs.asks now.segs.armed) → growth ≡ None
    none_open None of_armed = refl
    none_open (Some growth) of_armed =
        let below = all_closed growth.ask.from growth.ask of_armed.its_ask in
        absurd (omega (arith, below, of_armed.above))

    pub no_growth : now.segs.growth ≡ None
    no_growth = none_open now.segs.growth (armed_along count absent pools first is now (run_of runs)).growth
