-- Of all who came home: each did what its lines say in its own holds; so grants and refusals are of asks that were made, and come in turn, and
-- what each saw of the log never falls.
use Rattle.std.proofs.Common.{◌≡◌, ◌∙◌, ◌==◌, ℕ, ◌<◌, ◌≤◌, List, [], length, None, ⊎_elim, refl, ap, sym, subst, arith}
use Rattle.std.specs.List.{All}
use Rattle.std.proofs.lemmas.Bool.{cases_lt}
use Rattle.std.proofs.lemmas.List.Elements.{All-filter}
use Rattle.hp_heap.specs.History.{HeapView}
use Rattle.hp_maps.specs.declared.table.Table.{Table}
use Rattle.hp_script.specs.declared.answer.Answer.{Answer}
use Rattle.hp_script.specs.declared.workload.Workload.{Workload}
use Rattle.hp_segs.specs.SegsView.{SegsView}
use Rattle.hp_proc.proofs.Unarmed.{unarmed_new}
use Rattle.hp_proc.specs.Doing.{Done}
use Rattle.hp_proc.specs.LinesDone.{trace_of}
use Rattle.hp_proc.specs.Outcomes.{AreAnsweredSo, AreAsksInTurn, IsOfAnAskOfATrace}
use Rattle.hp_proc.specs.Seen.{AreSeen, seen_in}
use Rattle.hp_weave.specs.Holds.{Hold, holds_of}
use Rattle.thm_run.proofs.InTurnByHolds.HoldsOn.{holds_go_on}
use Rattle.thm_run.proofs.LineSteps.LineClauses.{none_asked}
use Rattle.thm_run.proofs.InTurnByHolds.LinesInHolds.{holds_by_lines}
use Rattle.thm_run.proofs.InTurnByHolds.OutcomesByHolds.{outcomes_by_holds}
use Rattle.thm_run.proofs.InTurnByHolds.SeenByHolds.{sees_by_holds}
use Rattle.thm_run.proofs.Settings.{seat_at}
use Rattle.thm_run.proofs.InTurnByHolds.TurnsByHolds.{turns_by_holds}
use Rattle.thm_run.specs.Apart.{holds_from}
use Rattle.thm_run.specs.ByRuns.{GivesGood}
use Rattle.thm_run.specs.OwnHolds.{AllDoInHolds, DoesInHolds, GoesOn}
use Rattle.thm_run.specs.OwnLines.{HasItsHolds, IsOfGood}
use Rattle.thm_run.specs.SoFar.{first_segs}
use Rattle.thm_together.specs.CameHome.{AllCameHome}
use Rattle.thm_together.proofs.AllHome.{IsGoodValue, armed_taken, came, first_all, first_good, good_taken, last_all, last_good, sound_given}
use Rattle.thm_together.proofs.HomeAsks.{answered_by, counted}

-- a hold that takes a good value and gives one is of good values
both_good : (holds : List (Hold SegsView)) → All (λ (hold : Hold SegsView). IsGoodValue hold.taken) holds → All GivesGood holds
    → All IsOfGood holds
both_good holds takes gives k d within =
    record { sound = (takes k d within).sound; taken = (takes k d within).armed.growth; given = (gives k d within).armed.growth }

module _ (workload : Workload) (answers : List Answer) (heaps : List HeapView) (segs : SegsView) (tables : List Table)
    (home : AllCameHome workload answers heaps segs tables) where
  -- what was done for a participant's lines
  abbrev pub did : ℕ → List Done
  did who = trace_of (home.courses who)

  pub each_on : All GoesOn home.holds
  each_on =
      holds_go_on workload.participants (first_all workload answers heaps segs tables home) (last_all workload answers heaps segs tables home)
      home.steps home.holds (came workload answers heaps segs tables home) (armed_taken workload answers heaps segs tables home)
      (sound_given workload answers heaps segs tables home)

  -- each ask has its outcome
  pub asks_answered : (who : ℕ) → AreAnsweredSo segs.log segs.asks who (did who)
  asks_answered who =
      ⊎_elim
      (λ (below : who < workload.participants).
      let early = seat_at home.first who (omega (arith, below, home.begun)) in
      let late = seat_at home.last who (omega (arith, below, home.begun, home.count)) in
      answered_by workload answers heaps segs tables home who early.seat late.seat early.there late.there)
      (λ (beyond : workload.participants ≤ who).
      subst (λ courses. AreAnsweredSo segs.log segs.asks who (trace_of courses)) (sym (home.no_lines who beyond))
      (none_asked segs.log segs.asks who))
      (cases_lt who workload.participants)

  pub its_holds : (who : ℕ) → who < workload.participants → HasItsHolds who (first_segs workload) segs home.holds (home.steps who)
  its_holds who below = record {
    few = omega (arith, below, home.given.few);
    unarmed = unarmed_new (first_segs workload) who refl;
    chain = home.held.chain;
    each = each_on;
    own = home.held.own who;
    good = subst (All IsOfGood) (home.held.own who)
        (All-filter (λ (hold : Hold SegsView). hold.who == who) IsOfGood home.holds
        (both_good home.holds (good_taken workload answers heaps segs tables home) home.held.good));
    alone = home.held.alone who below;
  }

  -- each did what its lines say in its own holds
  pub does_all : (who : ℕ) → DoesInHolds who 1 (did who) (holds_of who home.holds)
  does_all who =
      ⊎_elim
      (λ (below : who < workload.participants).
      let early = seat_at home.first who (omega (arith, below, home.begun)) in
      let late = seat_at home.last who (omega (arith, below, home.begun, home.count)) in
      let went = home.went who early.seat late.seat early.there late.there in
      holds_by_lines workload.participants who early.seat late.seat (home.courses who) (home.steps who) (first_segs workload) segs home.holds
      went.way went.begins.asked went.begins.trace (counted workload answers heaps segs tables home who late.seat late.there)
      (asks_answered who) (its_holds who below))
      (λ (beyond : workload.participants ≤ who).
      let none : holds_of who home.holds ≡ [] =
      home.held.own who ∙ ap (holds_from who None) (home.no_steps who beyond) in
      subst (λ courses. DoesInHolds who 1 (trace_of courses) (holds_of who home.holds)) (sym (home.no_lines who beyond))
      (subst (DoesInHolds who 1 []) (sym none) (DoesInHolds.ends 1)))
      (cases_lt who workload.participants)

  pub all_do : AllDoInHolds did (first_segs workload) segs home.holds
  all_do = record {
    none = refl;
    unarmed = λ who. unarmed_new (first_segs workload) who refl;
    chain = home.held.chain;
    each = each_on;
    sound = (last_good (first_segs workload) segs home.holds (first_good workload home.given) home.held.chain home.held.good).sound;
    does = does_all;
  }

  pub outcomes_are : All (IsOfAnAskOfATrace segs.log did) segs.asks
  outcomes_are = outcomes_by_holds did (first_segs workload) segs home.holds all_do

  pub asks_in_turn : AreAsksInTurn segs.asks
  asks_in_turn = turns_by_holds did (first_segs workload) segs home.holds all_do

  pub seen_by_each : (who : ℕ) → AreSeen (length segs.log) (seen_in segs.log segs.asks who 1 (did who))
  seen_by_each who = sees_by_holds who (first_segs workload) segs home.holds (did who) home.held.chain each_on (does_all who)
