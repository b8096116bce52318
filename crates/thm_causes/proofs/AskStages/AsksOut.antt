-- Once a wait for an answer has ended all is quiet, but for an ask without an answer: that was lost.
use Rattle.std.proofs.Common.{◌≡◌, ℕ, zero, suc, true, false, ◌⊎◌, [], Some, None, inl, inr, refl, arith, true≢false, sym, ap, ◌∙◌, ◌+◌, ◌*◌, ◌≤◌, ◌==◌, List, Option}
use Rattle.std.specs.Prelude.{slice_get}
use Rattle.std.specs.List.{list_any, find}
use Rattle.std.proofs.lemmas.Bool.{false≢true, and_parts, eqb-true}
use Rattle.hp_core.specs.declared.asked.Asked.{Asked}
use Rattle.hp_core.specs.declared.asked.Asked.TheVariants as want
use Rattle.hp_core.specs.declared.phase.Phase.TheVariants.{Idle}
use Rattle.hp_segs.specs.SegsView.{grants_or_refuses, closed_number, is_grant_or_refusal, is_stale}
use Rattle.hp_segs.specs.declared.ask.Ask.{Ask}
use Rattle.hp_serve.specs.Party.{Party}
use Rattle.thm_causes.specs.Counting.{LosesNothing}
use Rattle.thm_causes.specs.RoundTrip.{AreDoubled, AreOthersEmpty, EndsLevel, HasCoordinator, HasRoomBack, IsAnsweredFor, IsUnanswered, MayBeTakenBack, Setting, AskPhase, RunState, mail_of, IsToDo}
use Rattle.thm_causes.specs.Quiet.{IsQuietOwing, IsQuietBut}
use Rattle.thm_causes.specs.Stages.{IsSent}
use Rattle.thm_causes.specs.Waits.{HasComeOut, is_ended, is_last}
use Rattle.thm_causes.proofs.TurnSteps.TurnsQuiet.{quiet_idle, quiet_but}
use Rattle.hp_segs.specs.declared.outcome.AskLog.{AskLog}
use Rattle.hp_segs.specs.declared.outcome.Outcome.{Outcome}
use Rattle.hp_segs.specs.declared.outcome.Outcome.TheVariants.{Freed, Granted, Refused, Stale}
use Rattle.hp_hall.proofs.StandingFacts.StandingAsks.{closed_above}
use Rattle.hp_segs.proofs.Finds.{any_found}
use Rattle.hp_heap.proofs.Members.{find_some}

all_empty : (world : RunState) → mail_of world 0 ≡ [] → AreOthersEmpty world → (who : ℕ) → mail_of world who ≡ []
all_empty world none empty zero = none
all_empty world none empty (suc who) = empty (suc who) (λ (same : suc who ≡ 0). omega (arith, same))

-- an ask was lost, and nothing else is under way
pub record WasLost (set : Setting) (call : Asked) (sent : ℕ) (world : RunState) : Type 0 where
  pub clock : world.shared.clock ≤ sent + 3 * set.deadline
  pub unanswered : IsUnanswered call world
  pub to_do : IsToDo call world
  pub coordinator : HasCoordinator set world Idle call false
  pub alone : world.shared.segs.growth ≡ None
  pub gone : mail_of world 0 ≡ []
  pub doubled : AreDoubled set world call false false
  pub back : MayBeTakenBack set call world
  pub loses : LosesNothing set.plan → ⊥

-- a stage at which nothing will be under way any more
ended_as : (set : Setting) (call : Asked) (sent : ℕ) (world : RunState) (stage : AskPhase set call sent true world) → is_ended stage ≡ true
    → ((is_last stage ≡ true) × IsAnsweredFor call world × EndsLevel set world) ⊎ WasLost set call sent world
ended_as set call sent world (AskPhase.fresh clock unanswered coordinator alone to_do copies some empty doubled level) ended =
    absurd (false≢true ended)
ended_as set call sent world (AskPhase.lost clock unanswered coordinator alone to_do gone empty doubled back loses) ended =
    inr (record {
      clock = clock;
      unanswered = unanswered;
      to_do = to_do;
      coordinator = coordinator;
      alone = alone;
      gone = gone;
      doubled = doubled;
      back = back;
      loses = loses;
    })
ended_as set call sent world
    (AskPhase.growing round holds kind from number unanswered coordinator its to_do clock bodies doubled follow awaited level) ended =
    absurd (false≢true ended)
ended_as set call sent world
    (AskPhase.settling round since holds kind from number unanswered coordinator alone closed early clock logged bodies doubled waits
    answered level)
    ended = absurd (false≢true ended)
ended_as set call sent world (AskPhase.over holds coordinator alone closed bodies doubled told answered level) ended =
    inl (refl, answered, level)

-- an ask that is to do has no grant and no refusal
grant_closes : (asks : List AskLog) (who number : ℕ) → list_any (grants_or_refuses who number) asks ≡ true → number ≤ closed_number asks who
grant_closes asks who number stands = by_found (find (grants_or_refuses who number) asks) refl
  where
    fresh_by : (outcome : Outcome) → is_grant_or_refusal outcome ≡ true → is_stale outcome ≡ false
    fresh_by (Granted generation) is = refl
    fresh_by (Refused cause) is = refl
    fresh_by (Stale done) is = cc
    fresh_by (Freed generation) is = cc

    by_found : (found : Option AskLog) → find (grants_or_refuses who number) asks ≡ found → number ≤ closed_number asks who
    by_found None none = absurd (true≢false (sym stands ∙ any_found (grants_or_refuses who number) asks none))
    by_found (Some entry) found =
        let is = find_some (grants_or_refuses who number) asks entry found in
        let parts = and_parts (entry.from == who) _ is.0 in
        let rest = and_parts (entry.number == number) _ parts.1 in
        let below = closed_above asks entry is.1 (fresh_by entry.outcome rest.1) in
        let own : closed_number asks entry.from ≡ closed_number asks who = ap (closed_number asks) (eqb-true entry.from who parts.0) in
        omega (arith, below, own, eqb-true entry.number number rest.0)

-- no growth is open at the end of a wait
pub none_open : (set : Setting) (call : Asked) (sent now : ℕ) (world : RunState) → HasComeOut set call sent now world
    → world.shared.segs.growth ≡ None
none_open set call sent now world out = elim (ended_as set call sent world out.at_turn.stage out.ended) [
  | inl last ↦ (out.at_turn.ended last.0).growth
  | inr lost ↦ lost.alone
]

-- all is quiet at the end of a wait for the answer to a notice, and where no message is lost nothing is left of what was given up
pub owing_out : (set : Setting) (from number sent now : ℕ) (world : RunState) → IsSent set (want.Shrink from number) sent
    → HasComeOut set (want.Shrink from number) sent now world → IsQuietOwing set false world
owing_out set from number sent now world is_sent out = elim (ended_as set (want.Shrink from number) sent world out.at_turn.stage out.ended) [
  | inl last ↦ record { quiet = out.at_turn.ended last.0; gone = λ none owed. last.2.gone }
  | inr lost ↦ record {
    quiet = quiet_idle set (want.Shrink from number) sent is_sent world out.at_turn.base (all_empty world lost.gone out.at_turn.empty)
        lost.coordinator lost.alone lost.doubled (inr lost.back) (λ none. absurd (lost.loses none));
    gone = λ none owed. absurd (lost.loses none);
  }
]

-- so it is at the end of one for the answer to an ask that has one
pub owing_answered : (set : Setting) (ask : Ask) (sent now : ℕ) (world : RunState) → HasComeOut set (want.Grow ask) sent now world
    → list_any (grants_or_refuses ask.from ask.number) world.shared.segs.asks ≡ true → IsQuietOwing set false world
owing_answered set ask sent now world out stands = elim (ended_as set (want.Grow ask) sent world out.at_turn.stage out.ended) [
  | inl last ↦ record { quiet = out.at_turn.ended last.0; gone = λ none owed. last.2.gone }
  | inr lost ↦
      let closed = grant_closes world.shared.segs.asks ask.from ask.number stands in
      let above = lost.to_do.0 in
      absurd (omega (arith, closed, above))
]

-- one that has none was lost: all else is quiet, and it may be taken back, no later than three deadlines after it was sent
pub record IsLostAsk (set : Setting) (ask : Ask) (sent now : ℕ) (world : RunState) : Type 0 where
  pub in_time : now ≤ sent + 3 * set.deadline
  pub asked : (party : Party) → slice_get world.parties ask.from ≡ Some party → party.asked ≡ ask.number
  pub room : HasRoomBack set ask.from world
  pub quiet : IsQuietBut set (want.Grow ask) world
  pub loses : LosesNothing set.plan → ⊥

pub lost_out : (set : Setting) (ask : Ask) (sent now : ℕ) (world : RunState) → IsSent set (want.Grow ask) sent
    → HasComeOut set (want.Grow ask) sent now world → list_any (grants_or_refuses ask.from ask.number) world.shared.segs.asks ≡ false
    → IsLostAsk set ask sent now world
lost_out set ask sent now world is_sent out none =
    elim (ended_as set (want.Grow ask) sent world out.at_turn.stage out.ended) [
      | inl last ↦ absurd (true≢false (sym last.1 ∙ none))
      | inr lost ↦
          record {
            in_time = omega (arith, lost.clock, out.now_is);
            asked = lost.unanswered.asked;
            room = lost.back;
            quiet = quiet_but set (want.Grow ask) sent is_sent world out.at_turn.base (all_empty world lost.gone out.at_turn.empty)
                lost.coordinator lost.alone lost.doubled (λ none. absurd (lost.loses none));
            loses = lost.loses;
          }
    ]
