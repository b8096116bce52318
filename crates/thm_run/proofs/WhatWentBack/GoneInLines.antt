-- What the outcome of a line's notice tells to have gone went back by a Drop that came in that line.
use Rattle.std.proofs.Common.{◌≡◌, ◌∙◌, ℕ, ◌+◌, ◌-◌, List, ◌++◌, length, Some, Contains, ap, sym, subst, arith}
use Rattle.std.specs.List.{slice_get}
use Rattle.std.proofs.lemmas.List.{append_cancel_left}
use Rattle.std.proofs.lemmas.List.Elements.{All-contains}
use Rattle.hp_base.specs.declared.pool_line.PoolLine.{PoolLine}
use Rattle.hp_base.specs.declared.row.Run.{Run}
use Rattle.hp_segs.specs.declared.outcome.AskLog.{AskLog}
use Rattle.hp_segs.specs.declared.outcome.Outcome.TheVariants.{Freed}
use Rattle.hp_proc.specs.Courses.{numbered_in}
use Rattle.hp_proc.specs.Doing.{Done}
use Rattle.hp_proc.specs.Doing.Done.{GaveUp}
use Rattle.thm_run.proofs.WhatWentBack.CutFirst.{IsCutFirst}
use Rattle.thm_run.proofs.WhatWentBack.Gone.{HasGoneSince, IsTrulySince}
use Rattle.thm_run.proofs.WhatWentBack.GoneLogged.{AreCutSince}
use Rattle.thm_run.proofs.WhatWentBack.GoneRuns.{gone_runs}
use Rattle.thm_run.proofs.GrownHeaps.GrantTurns.{read_among}
use Rattle.thm_run.proofs.GrownHeaps.Grown.{get_behind}
use Rattle.thm_run.proofs.LineSteps.LineSettled.{IsLineRun}
use Rattle.thm_run.proofs.TracesTold.Numbers.{its_numbers, numbered_both, numbers_of, trace_in}
use Rattle.thm_run.specs.Seats.{Seat}
use Rattle.thm_run.specs.Together.{IsFirst, GlobalState, RunsByMail}

module _ (count absent : ℕ) (pools : List PoolLine) (first start now : GlobalState) (is_first : IsFirst count absent pools first)
    (to_start : RunsByMail count first start) (who : ℕ) (old new : Seat) (trace : List Done) (line : IsLineRun count who start now old new trace)
    (cut : IsCutFirst trace) where
  abbrev past : List Done
  past = trace_in (slice_get start.seats who)

  past_is : past ≡ old.trace
  past_is = ap trace_in line.was

  -- its participant gives up in the line what it has cut in it
  cut_since : AreCutSince past (trace_in (slice_get now.seats who))
  cut_since more is =
      let same : old.trace ++ trace ≡ old.trace ++ more =
      sym line.trace_is ∙ (sym (ap trace_in line.is) ∙ (is ∙ ap (λ (dones : List Done). dones ++ more) past_is)) in
      subst IsCutFirst (append_cancel_left old.trace trace more same) cut

  truly_since : (entry : AskLog) → Contains now.segs.asks entry
      → IsTrulySince who (length (numbered_in past)) (length start.segs.log) (numbers_of now.seats) now.segs.log entry
  truly_since entry among =
      let gone = gone_runs count absent pools first is_first start to_start who line.runs cut_since in
      All-contains (IsTrulySince who (length (numbered_in past)) (length start.segs.log) (numbers_of now.seats) now.segs.log) now.segs.asks
      entry gone.freed among

  -- its first number is a notice of this run
  module _ (heap : ℕ) (run : Run) (its : slice_get (numbered_in trace) 0 ≡ Some (GaveUp heap run)) where
    pub gone_in_line : (place generation : ℕ) (entry : AskLog) → slice_get now.segs.asks place ≡ Some entry → entry.from ≡ who
        → entry.number ≡ length (numbered_in old.trace) + 1 → entry.outcome ≡ Freed generation
        → HasGoneSince (length start.segs.log) now.segs.log generation run
    gone_in_line place generation entry here own number told =
        let made = ap (λ (dones : List Done). length (numbered_in dones)) past_is in
        let since = truly_since entry (read_among now.segs.asks place entry here) generation told own (omega (arith, made, number)) in
        let numbers : numbers_of now.seats entry.from ≡ numbered_in old.trace ++ numbered_in trace =
        ap (numbers_of now.seats) own
        ∙ (its_numbers now.seats who new line.is ∙ (ap numbered_in line.trace_is ∙ numbered_both old.trace trace)) in
        let same : Some (GaveUp since.heap since.run) ≡ Some (GaveUp heap run) =
        sym since.its
        ∙ (ap (λ (numbered : List Done). slice_get numbered (entry.number - 1)) numbers
        ∙ (get_behind (numbered_in old.trace) (numbered_in trace) 0 (entry.number - 1) (omega (arith, number)) ∙ its)) in
        let runs : since.run ≡ run = cc in
        subst (HasGoneSince (length start.segs.log) now.segs.log generation) runs since.gone
