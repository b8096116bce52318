-- The run of a line, or of servings: after it each ask has its answer, no growth is open, and none but the doer took a number.
use Rattle.std.proofs.Common.{◌≡◌, ◌≢◌, ◌∙◌, ℕ, ◌≤◌, List, [], ◌++◌, append-nil, length, Option, Some, None, refl, ap, sym, subst, arith}
use Rattle.std.specs.Prelude.{slice_get}
use Rattle.std.proofs.lemmas.Option.{same_Some}
use Rattle.hp_plain.specs.HallView.{HallView, heard_in, seen_in}
use Rattle.hp_log.specs.declared.log_record.LogRecord.{LogRecord}
use Rattle.hp_script.specs.declared.workload.Workload.{Workload}
use Rattle.hp_segs.specs.declared.outcome.AskLog.{AskLog}
use Rattle.hp_proc.specs.Acting.{AreAsked}
use Rattle.hp_proc.specs.Courses.{Standing, numbered_in}
use Rattle.hp_proc.specs.Doing.{Done}
use Rattle.hp_proc.specs.LinesDone.{Course}
use Rattle.hp_serve.specs.Party.{Party}
use Rattle.thm_run.specs.Seats.{EndedLine, Seat}
use Rattle.thm_run.specs.SoFar.{SoFar, trace_for}
use Rattle.thm_run.specs.Together.{GlobalState, RunsByMail}
use Rattle.thm_run.proofs.TracesTold.AsksSettled.{AllAsked, no_growth}
use Rattle.thm_run.proofs.LineSteps.LineSettled.{IsLineRun}
use Rattle.thm_run.proofs.TracesTold.Numbers.{its_numbers, numbers_of, trace_in}
use Rattle.thm_run.proofs.SeatFacts.PartsOn.{asks_shown, log_shown}
use Rattle.thm_run.proofs.SeenAndShown.Provenance.{answered}
use Rattle.thm_run.proofs.RunFacts.SoFarFacts.{closed_so_far, none_open_so_far}
use Rattle.thm_run.proofs.RunFacts.SoFarOn.{IsKnownFor}
use Rattle.thm_run.proofs.PathSteps.WaysOn.{AllCame}

module _ (workload : Workload) (courses later : List Course) (parties behind : List Party) (old new : HallView)
    (so : SoFar workload courses parties old) (more : ℕ → List Done) (left : ℕ → Standing) (ended : ℕ → List EndedLine)
    (came : AllCame workload.participants so.now behind more left ended new)
    (traces : (who : ℕ) → trace_for who later ≡ trace_for who courses ++ more who)
    (known : (who : ℕ) (after : Party) → slice_get behind who ≡ Some after → IsKnownFor workload later new who after) where
  abbrev there : GlobalState
  there = record { seats = came.lasts; segs = came.gone.segs; boxes = new.boxes }

  -- each seat has the trace of its lines
  its_trace : (who : ℕ) (last : Seat) → slice_get came.lasts who ≡ Some last → last.trace ≡ trace_for who later
  its_trace who last at =
      let were = came.were who last at in
      were.3
      ∙ ap (λ (trace : List Done). trace ++ more who) (so.seats who were.0 were.1).trace
      ∙ sym (traces who)

  pub asked_there : AllAsked there
  asked_there who last at =
      let its = (known who last.party (came.were who last at).2).asked in
      subst (λ (log : List LogRecord). AreAsked log there.segs.asks who 0 last.party.asked last.trace)
      (log_shown new there.segs came.gone.its)
      (subst (λ (asks : List AskLog). AreAsked (seen_in new) asks who 0 last.party.asked last.trace)
      (asks_shown new there.segs came.gone.its)
      (subst (λ (trace : List Done). AreAsked (seen_in new) (heard_in new) who 0 last.party.asked trace) (sym (its_trace who last at)) its))

  module _ (who : ℕ) (apart : (other : ℕ) → other ≢ who → more other ≡ []) (seat last : Seat)
      (early : slice_get so.now.seats who ≡ Some seat) (late : slice_get came.lasts who ≡ Some last)
      (runs : RunsByMail workload.participants so.first there) where
    -- nobody else took a number
    none_beside : (other : ℕ) → other ≢ who → length (numbers_of came.lasts other) ≤ length (numbers_of so.now.seats other)
    none_beside other beside = by_seat (slice_get came.lasts other) refl
      where
        by_seat : (found : Option Seat) → slice_get came.lasts other ≡ found
            → length (numbers_of came.lasts other) ≤ length (numbers_of so.now.seats other)
        by_seat None none =
            omega (arith, ap (λ (found : Option Seat). length (numbered_in (trace_in found))) none)
        by_seat (Some one) at =
            let were = came.were other one at in
            let same : one.trace ≡ were.0.trace =
            were.3 ∙ ap (λ (more : List Done). were.0.trace ++ more) (apart other beside) ∙ append-nil were.0.trace in
            omega (
              arith,
              ap (λ (numbered : List Done). length numbered) (its_numbers came.lasts other one at),
              ap (λ (numbered : List Done). length numbered) (its_numbers so.now.seats other were.0 were.1),
              ap (λ (trace : List Done). length (numbered_in trace)) same,
            )

    pub line_run : IsLineRun workload.participants who so.now there seat last (more who)
    line_run =
        let were = came.were who last late in
        record {
          runs = came.gone.runs;
          was = early;
          is = late;
          trace_is = were.3 ∙ ap (λ (seat : Seat). seat.trace ++ more who) (same_Some were.0 seat (sym were.1 ∙ early));
          alone = none_open_so_far workload courses parties old so;
          closed = closed_so_far workload courses parties old so;
          beside = none_beside;
          ended =
              no_growth workload.participants workload.absent workload.pools.items so.first there so.is_first runs asked_there;
          answered =
              answered workload.participants workload.absent workload.pools.items so.first there so.is_first runs who last late
              (asked_there who last late);
        }
