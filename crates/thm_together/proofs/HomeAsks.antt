-- Of who came home: its asks and notices stand in its trace at their numbers, and each ask has its outcome.
use Rattle.std.proofs.Common.{◌≡◌, ◌∙◌, ℕ, List, ◌++◌, length, replicate, Option, Some, None, slice_get, refl, ap, sym, subst, arith}
use Rattle.std.specs.List.{All}
use Rattle.std.proofs.lemmas.List.Elements.{All-replicate}
use Rattle.std.proofs.lemmas.Option.{same_Some, slice_get_within}
use Rattle.hp_core.specs.Core.{Core}
use Rattle.hp_core.specs.declared.asked.Asked.{Asked}
use Rattle.hp_heap.specs.History.{HeapView}
use Rattle.hp_maps.specs.declared.table.Table.{Table}
use Rattle.hp_script.specs.declared.answer.Answer.{Answer}
use Rattle.hp_script.specs.declared.workload.Workload.{Workload}
use Rattle.hp_segs.specs.SegsView.{SegsView}
use Rattle.hp_serve.specs.Party.{first_core}
use Rattle.hp_proc.proofs.Unarmed.{unarmed_new}
use Rattle.hp_proc.specs.Courses.{numbered_in}
use Rattle.hp_proc.specs.LinesDone.{trace_of}
use Rattle.hp_proc.specs.Outcomes.{AreAnsweredSo}
use Rattle.thm_run.proofs.AnswersByTold.{answers_by_told}
use Rattle.thm_run.proofs.CountedTurns.{counted_at_last}
use Rattle.thm_run.proofs.InTurnByHolds.LinesInHolds.{way_by_lines}
use Rattle.thm_run.proofs.Settings.{seat_at}
use Rattle.thm_run.proofs.TracesTold.ToldByPosts.{told_by_posts}
use Rattle.thm_run.specs.Seats.{Seat}
use Rattle.thm_run.specs.SoFar.{first_segs}
use Rattle.thm_run.specs.Told.{FreedAreTold, HoldsNone, IsCounted, IsUnasked}
use Rattle.thm_together.specs.CameHome.{AllCameHome}
use Rattle.thm_together.proofs.AllHome.{armed_taken, came, first_all, first_good, last_all, last_good, path_of}

-- a coordinator that nobody has asked holds no ask
unheld_first : (core : Option Core) (deadline : ℕ) → core ≡ first_core 0 deadline → (its : Core) → core ≡ Some its
    → All (λ one. one ≡ None) its.held
unheld_first core deadline is its some =
    subst (All (λ one. one ≡ None))
    (ap (λ (core : Core). core.held) (same_Some (record { deadline = deadline; phase = _; held = replicate 16 None }) its (sym is ∙ some)))
    (All-replicate (λ (one : Option Asked). one ≡ None) 16 None refl)

module _ (workload : Workload) (answers : List Answer) (heaps : List HeapView) (segs : SegsView) (tables : List Table)
    (home : AllCameHome workload answers heaps segs tables) where
  -- nobody had asked for anything
  unasked : IsUnasked (first_all workload answers heaps segs tables home)
  unasked = record {
    none = refl;
    unarmed = λ who. unarmed_new (first_segs workload) who refl;
    counted = λ who seat there. counted_first who seat there;
  }
    where
      counted_first : (who : ℕ) (seat : Seat) → slice_get home.first who ≡ Some seat → IsCounted seat
      counted_first who seat there =
          let late = seat_at home.last who (omega (arith, home.count, slice_get_within home.first who seat there)) in
          let begins = (home.went who seat late.seat there late.there).begins in
          begins.asked ∙ ap (λ trace. length (numbered_in trace)) (sym begins.trace)

  pub told : FreedAreTold home.steps segs
  told =
      told_by_posts workload.participants (first_all workload answers heaps segs tables home) (last_all workload answers heaps segs tables home)
      home.steps home.holds (came workload answers heaps segs tables home) refl (armed_taken workload answers heaps segs tables home)
      unheld home.posted
    where
      unheld : (seat : Seat) → slice_get home.first 0 ≡ Some seat → HoldsNone seat
      unheld seat there core is =
          let late = seat_at home.last 0 (omega (arith, home.count, slice_get_within home.first 0 seat there)) in
          unheld_first seat.party.core seat.party.deadline (home.went 0 seat late.seat there late.there).begins.core core is

  pub counted : (who : ℕ) (seat : Seat) → slice_get home.last who ≡ Some seat → IsCounted seat
  counted =
      counted_at_last workload.participants (first_all workload answers heaps segs tables home)
      (last_all workload answers heaps segs tables home) home.steps home.holds (came workload answers heaps segs tables home) unasked
      (armed_taken workload answers heaps segs tables home)
      (last_good (first_segs workload) segs home.holds (first_good workload home.given) home.held.chain home.held.good).sound told

  module _ (who : ℕ) (old new : Seat) (early : slice_get home.first who ≡ Some old) (late : slice_get home.last who ≡ Some new) where
    -- what was done by its way is what was done for its lines
    pub trace_is : new.trace ≡ trace_of (home.courses who)
    trace_is =
        let went = home.went who old new early late in
        (way_by_lines workload.participants who old new (home.courses who) (home.steps who) went.way).1
        ∙ ap (λ trace. trace ++ trace_of (home.courses who)) went.begins.trace

    pub answered_by : AreAnsweredSo segs.log segs.asks who (trace_of (home.courses who))
    answered_by =
        let went = home.went who old new early late in
        subst (AreAnsweredSo segs.log segs.asks who) trace_is
        (answers_by_told workload.participants who old new home.steps segs
        (path_of workload answers heaps segs tables home who old new early late) went.begins.asked went.begins.trace (counted who new late)
        went.asked told)
