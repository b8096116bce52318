-- What an end says of each participant's trace: its asks have their outcomes.
use Rattle.std.proofs.Common.{◌≡◌, ℕ, ◌<◌, ◌≤◌, ⊎_elim, ◌==◌, List, [], ◌∷◌, map, Some, slice_get, sym, subst}
use Rattle.std.specs.List.{All}
use Rattle.std.proofs.lemmas.Bool.{cases_lt}
use Rattle.std.proofs.lemmas.List.Elements.{All-cons, All-filter, All-head, All-nil, All-tail}
use Rattle.hp_plain.specs.HallView.{HallView, seen_in}
use Rattle.hp_log.specs.declared.log_record.LogRecord.{LogRecord}
use Rattle.hp_script.specs.declared.workload.Workload.{Workload}
use Rattle.hp_segs.specs.declared.outcome.AskLog.{AskLog}
use Rattle.hp_proc.specs.Acting.{AreAsked}
use Rattle.hp_proc.specs.Doing.{Done}
use Rattle.hp_proc.specs.LinesDone.{Course, courses_of, trace_of}
use Rattle.hp_proc.specs.Outcomes.{AreAnsweredSo, AreAsksInTurn, AreInTurn}
use Rattle.hp_serve.specs.Party.{Party}
use Rattle.thm_run.specs.Seats.{Seat}
use Rattle.thm_run.specs.SoFar.{SoFar, trace_for}
use Rattle.thm_run.proofs.WhatWentBack.GoneSoFar.{none_of_others}
use Rattle.thm_run.proofs.HallFacts.HallSegs.{seat_of}
use Rattle.thm_run.proofs.RunFacts.SoFarFacts.{asks_are, log_is}
use Rattle.thm_run.proofs.SeenAndShown.Provenance as made
use Rattle.thm_run.proofs.SeenAndShown.SeenLog.{fresh, later_above}

-- who asked nothing has all answers
pub none_asked : (log : List LogRecord) (asks : List AskLog) (who : ℕ) → AreAnsweredSo log asks who []
none_asked log asks who place asked run at = absurd (no_place place _ at)
  where
    no_place : (place : ℕ) (done : Done) → slice_get {X = Done} [] place ≡ Some done → ⊥
    no_place place done at = cc

module _ (workload : Workload) (courses : List Course) (parties : List Party) (hall : HallView)
    (so : SoFar workload courses parties hall) where
  -- the asks of a participant's lines have the outcomes that the hall has
  asked_there : (who : ℕ) (party : Party) → slice_get parties who ≡ Some party
      → AreAsked so.now.segs.log so.now.segs.asks who 0 party.asked (trace_for who courses)
  asked_there who party at =
      subst (λ (log : List LogRecord). AreAsked log so.now.segs.asks who 0 party.asked (trace_for who courses))
      (log_is workload courses parties hall so)
      (subst (λ (asks : List AskLog). AreAsked (seen_in hall) asks who 0 party.asked (trace_for who courses))
      (asks_are workload courses parties hall so) (so.each who party at).asked)

  answered_seat : (who : ℕ) (seat : Seat) → slice_get so.now.seats who ≡ Some seat
      → AreAnsweredSo so.now.segs.log so.now.segs.asks who (trace_for who courses)
  answered_seat who seat there =
      let its = so.seats who seat there in
      subst (AreAnsweredSo so.now.segs.log so.now.segs.asks who) its.trace
      (made.answered workload.participants workload.absent workload.pools.items so.first so.now so.is_first so.runs who seat there
      (subst (AreAsked so.now.segs.log so.now.segs.asks who 0 seat.party.asked) (sym its.trace)
      (asked_there who seat.party its.party)))

  -- the clause `asks`
  pub asks_of_each : (who : ℕ) → AreAnsweredSo so.now.segs.log so.now.segs.asks who (trace_of (courses_of who courses))
  asks_of_each who =
      ⊎_elim
      (λ (below : who < workload.participants).
      let its = seat_of workload courses parties hall so who below in
      answered_seat who its.0 its.1)
      (λ (beyond : workload.participants ≤ who).
      subst (λ (own : List Course). AreAnsweredSo so.now.segs.log so.now.segs.asks who (trace_of own))
      (sym (none_of_others workload.participants who courses beyond so.built)) (none_asked so.now.segs.log so.now.segs.asks who))
      (cases_lt who workload.participants)

  -- the clauses `in_turn`, of all outcomes and of grants and refusals
  pub turns_so_far : AreInTurn so.now.segs.asks
  turns_so_far = made.in_turn workload.participants workload.absent workload.pools.items so.first so.now so.is_first so.runs

  pub asks_in_turn : AreAsksInTurn so.now.segs.asks
  asks_in_turn = record {
    above = λ first later entry other here there before same shown shows.
        later_above so.now.segs.asks turns_so_far first later entry other here there before same (fresh entry shown) (fresh other shows);
  }

  -- the clause `numbered`
  pub numbered_so_far : All (λ (entry : AskLog). 0 < entry.number) so.now.segs.asks
  numbered_so_far = made.numbered workload.participants workload.absent workload.pools.items so.first so.now so.is_first so.runs
