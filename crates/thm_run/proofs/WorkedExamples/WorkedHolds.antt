-- Worked values: participant 1 looks, asks for pages, takes that back, asks again and takes that back too, while participant 0 has the value in
-- between; and what came to a heap in one hold of it.
use Rattle.std.proofs.Common.{◌≡◌, ◌∙◌, ℕ, zero, suc, true, List, [], ◌∷◌, ◌++◌, Some, None, IfSome, inl, inr, refl, sym, subst, arith}
use Rattle.std.specs.List.{All}
use Rattle.hp_proc.proofs.Unarmed.{unarmed_new}
use Rattle.std.proofs.lemmas.List.Elements.{All-cons, All-nil}
use Rattle.hp_heap.specs.History as heaps
use Rattle.hp_heap.specs.History.{HeapView}
use Rattle.hp_heap.specs.declared.entry.Entry.{Entry}
use Rattle.hp_maps.specs.MapsView.{MapsView}
use Rattle.hp_segs.proofs.Moves.{calls_keep}
use Rattle.hp_segs.specs.GrowthLaws.{IsOfArmed}
use Rattle.hp_segs.specs.LaterSteps.{after_arm, after_withdraw, armed_ask}
use Rattle.hp_segs.specs.Moved.SegsCall.{Arm, Withdraw}
use Rattle.hp_segs.specs.Opening.{opening}
use Rattle.hp_segs.specs.SegsView.{SegsView}
use Rattle.hp_segs.specs.Sound.{IsSound}
use Rattle.hp_segs.specs.Steps.{after_claim}
use Rattle.hp_segs.specs.declared.outcome.AskLog.{AskLog}
use Rattle.hp_segs.specs.declared.outcome.Cause.TheVariants.{Withdrawn}
use Rattle.hp_segs.specs.declared.outcome.Outcome.TheVariants.{Refused}
use Rattle.hp_serve.specs.Asking.{ask_of}
use Rattle.hp_serve.specs.Party.{opening_party}
use Rattle.hp_serve.specs.declared.pages_asked.PagesAsked.{PagesAsked}
use Rattle.hp_proc.specs.Courses.{Standing}
use Rattle.hp_proc.specs.Doing.{Done}
use Rattle.hp_proc.specs.Doing.Done.{Asked, Looked}
use Rattle.hp_proc.specs.Outcomes.{AreAsksInTurn, IsAnsweredSo, IsOfAnAskOfATrace}
use Rattle.hp_proc.specs.Seen.{AreSeen, seen_in}
use Rattle.hp_weave.proofs.Interleaving.{holds_of-other}
use Rattle.hp_weave.specs.Holds.{Chain, Hold, holds_of}
use Rattle.thm_run.proofs.InTurnByHolds.AnswersByHolds.{answers_by_holds}
use Rattle.thm_run.proofs.AfterLemmas.{handles_behind, none_behind}
use Rattle.thm_run.proofs.InTurnByHolds.HoldsOn.{answers_armed, answers_none, others_armed}
use Rattle.thm_run.proofs.InTurnByHolds.OutcomesByHolds.{outcomes_by_holds}
use Rattle.thm_run.proofs.InTurnByHolds.SeenByHolds.{sees_by_holds}
use Rattle.thm_run.proofs.InTurnByHolds.TurnsByHolds.{turns_by_holds}
use Rattle.thm_run.proofs.WorkedExamples.Worked.{pools, sound_first}
use Rattle.thm_run.specs.OwnHolds.{AllDoInHolds, DoesInHolds, GoesOn, IsAskedBetween, StandTogether, StaysArmed}
use Rattle.thm_run.specs.Seats.{Handles, Seat, armed_with}

abbrev hold : ℕ → SegsView → SegsView → Hold SegsView
hold who taken given = record { who = who; taken = taken; given = given }

module _ (maps : MapsView) (standing : Standing) (asked : PagesAsked) where
  -- participant 1, before its first ask, after that, and after the next one
  abbrev seat : Seat
  seat = record { party = opening_party 1 0 true maps [] 200; standing = standing; lines = []; trace = []; fetched = []; asking = None }

  abbrev seat_1 : Seat
  seat_1 = armed_with 1 asked None 1 seat

  abbrev seat_2 : Seat
  seat_2 = armed_with 1 asked None 2 seat_1

  -- the value at first, with its first ask, with that taken back, with its second ask, and with that taken back
  abbrev first : SegsView
  first = opening pools 2 0

  abbrev armed_1 : SegsView
  armed_1 = after_arm (ask_of 1 1 asked) first

  abbrev heard_1 : SegsView
  heard_1 = after_claim 1 1 (after_withdraw 1 1 0 600 armed_1)

  abbrev armed_2 : SegsView
  armed_2 = after_arm (ask_of 1 2 asked) heard_1

  abbrev heard_2 : SegsView
  heard_2 = after_claim 1 2 (after_withdraw 1 2 700 1300 armed_2)

  sound_armed_1 : IsSound armed_1
  sound_armed_1 = calls_keep (Arm (ask_of 1 1 asked)) first sound_first (record { participant = omega arith; alone = tt })

  sound_heard_1 : IsSound heard_1
  sound_heard_1 = calls_keep (Withdraw 1 1 0 600) armed_1 sound_armed_1 (record { participant = omega arith; armed = refl })

  sound_armed_2 : IsSound armed_2
  sound_armed_2 = calls_keep (Arm (ask_of 1 2 asked)) heard_1 sound_heard_1 (record { participant = omega arith; alone = tt })

  sound_heard_2 : IsSound heard_2
  sound_heard_2 = calls_keep (Withdraw 1 2 700 1300) armed_2 sound_armed_2 (record { participant = omega arith; armed = refl })

  arms_1 : Handles 2 1 seat seat_1 first armed_1
  arms_1 = Handles.arms seat first asked None 1 refl

  takes_back_1 : Handles 2 1 seat_1 seat_1 armed_1 heard_1
  takes_back_1 = Handles.settles seat_1 armed_1 0 600 (omega arith)

  arms_2 : Handles 2 1 seat_1 seat_2 heard_1 armed_2
  arms_2 = Handles.arms seat_1 heard_1 asked None 2 refl

  takes_back_2 : Handles 2 1 seat_2 seat_2 armed_2 heard_2
  takes_back_2 = Handles.settles seat_2 armed_2 700 1300 (omega arith)

  goes : {old new : Seat} {taken given : SegsView} → Handles 2 1 old new taken given → taken.growth ≡ None → IsSound given
      → GoesOn (hold 1 taken given)
  goes {old} {new} {taken} does none sound =
      let growth = subst (λ growth. IfSome growth (IsOfArmed taken.asks taken.armed)) (sym none) tt in
      record { sound = sound; later = handles_behind does; others = others_armed does growth; answers = answers_armed does growth }

  looks : (who : ℕ) (segs : SegsView) → IsSound segs → GoesOn (hold who segs segs)
  looks who segs sound =
      record { sound = sound; later = none_behind segs; others = λ other apart. refl; answers = answers_none segs segs refl }

  -- 0 looks while 1 waits
  abbrev rest_1 : List (Hold SegsView)
  rest_1 = hold 1 heard_1 armed_2 ∷ hold 1 armed_2 heard_2 ∷ []

  abbrev holds : List (Hold SegsView)
  holds = hold 1 first first ∷ hold 1 first armed_1 ∷ hold 0 armed_1 armed_1 ∷ hold 1 armed_1 heard_1 ∷ rest_1

  chained : Chain first holds heard_2
  chained = (refl, (refl, (refl, (refl, (refl, (refl, refl))))))

  abbrev did : ℕ → List Done
  did zero = []
  did (suc zero) = Looked 0 ∷ Asked asked None ∷ Asked asked None ∷ []
  did (suc (suc who)) = []

  each : All GoesOn holds
  each =
      All-cons GoesOn (hold 1 first first) (hold 1 first armed_1 ∷ hold 0 armed_1 armed_1 ∷ hold 1 armed_1 heard_1 ∷ rest_1)
      (looks 1 first sound_first)
      (All-cons GoesOn (hold 1 first armed_1) (hold 0 armed_1 armed_1 ∷ hold 1 armed_1 heard_1 ∷ rest_1) (goes arms_1 refl sound_armed_1)
      (All-cons GoesOn (hold 0 armed_1 armed_1) (hold 1 armed_1 heard_1 ∷ rest_1) (looks 0 armed_1 sound_armed_1)
      (All-cons GoesOn (hold 1 armed_1 heard_1) rest_1 (goes takes_back_1 refl sound_heard_1)
      (All-cons GoesOn (hold 1 heard_1 armed_2) (hold 1 armed_2 heard_2 ∷ []) (goes arms_2 refl sound_armed_2)
      (All-cons GoesOn (hold 1 armed_2 heard_2) [] (goes takes_back_2 refl sound_heard_2) (All-nil GoesOn))))))

  asked_1 : IsAskedBetween 1 1 asked None armed_1 heard_1
  asked_1 = record {
    its = refl;
    fresh = omega arith;
    before = tt;
    answer = record {
      entry = record { from = 1; number = 1; outcome = Refused (Withdrawn 0 600); at = 0; ask = Some (ask_of 1 1 asked) };
      logged = refl;
      kept = refl;
      given = tt;
    };
    after = tt;
  }

  asked_2 : IsAskedBetween 1 2 asked None armed_2 heard_2
  asked_2 = record {
    its = refl;
    fresh = omega arith;
    before = tt;
    answer = record {
      entry = record { from = 1; number = 2; outcome = Refused (Withdrawn 700 1300); at = 0; ask = Some (ask_of 1 2 asked) };
      logged = refl;
      kept = refl;
      given = tt;
    };
    after = tt;
  }

  -- an ask has not been heard as long as nothing is logged of it
  not_heard_yet : IsAskedBetween 1 1 asked None armed_1 armed_1 → ⊥
  not_heard_yet is = nothing_found is.answer.logged
    where
      nothing_found : {entry : AskLog} → None ≡ Some entry → ⊥
      nothing_found same = cc

  does_1 : DoesInHolds 1 1 (did 1) (holds_of 1 holds)
  does_1 =
      DoesInHolds.looks 1 (Asked asked None ∷ Asked asked None ∷ []) (hold 1 first first)
      (hold 1 first armed_1 ∷ hold 1 armed_1 heard_1 ∷ rest_1) refl
      (DoesInHolds.asks 1 asked None (Asked asked None ∷ []) (hold 1 first armed_1) [] (hold 1 armed_1 heard_1) rest_1 asked_1
      (All-cons (StaysArmed 1) (hold 1 armed_1 heard_1) [] refl (All-nil (StaysArmed 1)))
      (DoesInHolds.asks 2 asked None [] (hold 1 heard_1 armed_2) [] (hold 1 armed_2 heard_2) [] asked_2
      (All-cons (StaysArmed 1) (hold 1 armed_2 heard_2) [] refl (All-nil (StaysArmed 1))) (DoesInHolds.ends 3)))

  nobody_else : (who : ℕ) → holds_of (suc (suc who)) holds ≡ []
  nobody_else who =
      holds_of-other (hold 1 first first) (hold 1 first armed_1 ∷ hold 0 armed_1 armed_1 ∷ hold 1 armed_1 heard_1 ∷ rest_1) (suc (suc who))
      (λ same. omega (arith, same))
      ∙ (holds_of-other (hold 1 first armed_1) (hold 0 armed_1 armed_1 ∷ hold 1 armed_1 heard_1 ∷ rest_1) (suc (suc who))
      (λ same. omega (arith, same))
      ∙ (holds_of-other (hold 0 armed_1 armed_1) (hold 1 armed_1 heard_1 ∷ rest_1) (suc (suc who)) (λ same. omega (arith, same))
      ∙ (holds_of-other (hold 1 armed_1 heard_1) rest_1 (suc (suc who)) (λ same. omega (arith, same))
      ∙ (holds_of-other (hold 1 heard_1 armed_2) (hold 1 armed_2 heard_2 ∷ []) (suc (suc who)) (λ same. omega (arith, same))
      ∙ holds_of-other (hold 1 armed_2 heard_2) [] (suc (suc who)) (λ same. omega (arith, same))))))

  does : (who : ℕ) → DoesInHolds who 1 (did who) (holds_of who holds)
  does zero = DoesInHolds.passes 1 [] (hold 0 armed_1 armed_1) [] refl (DoesInHolds.ends 1)
  does (suc zero) = does_1
  does (suc (suc who)) = subst (DoesInHolds (suc (suc who)) 1 []) (sym (nobody_else who)) (DoesInHolds.ends 1)

  none_armed : (who : ℕ) → armed_ask first who ≡ None
  none_armed who = unarmed_new first who refl

  all : AllDoInHolds did first heard_2 holds
  all = record { none = refl; unarmed = none_armed; chain = chained; each = each; sound = sound_heard_2; does = does }

  -- so what 1 sees never falls; each of its asks has its outcome; and what is refused is of these, in turn
  seen : AreSeen 0 (seen_in heard_2.log heard_2.asks 1 1 (did 1))
  seen = sees_by_holds 1 first heard_2 holds (did 1) chained each does_1

  answered : IsAnsweredSo heard_2.log heard_2.asks 1 2 asked None
  answered = answers_by_holds did first heard_2 holds all 1 1 asked None refl

  outcomes : All (IsOfAnAskOfATrace heard_2.log did) heard_2.asks
  outcomes = outcomes_by_holds did first heard_2 holds all

  in_turn : AreAsksInTurn heard_2.asks
  in_turn = turns_by_holds did first heard_2 holds all

-- what came to a heap in one hold stands together, and so does nothing
module _ (taken given : HeapView) (sound : heaps.IsSound given) (entries : List Entry) (came : given.history ≡ taken.history ++ entries)
  where
    together : StandTogether entries
    together = inr (record { hold = record { who = 1; taken = taken; given = given }; sound = sound; came = came })

nothing_there : StandTogether []
nothing_there = inl refl
