-- Each outcome that a step of the coordinator logs beside its ask is of the ask with which its participant is armed.
use Rattle.std.proofs.Common.{◌≡◌, ℕ, Bool, true, false, List, [], ◌∷◌, ◌++◌, length, drop, replicate, Contains, Option, Some, None, IfSome, refl, ap, ◌∙◌, sym, subst, append-nil, arith, if◌then◌else◌}
use Rattle.std.specs.Prelude.{slice_index_or}
use Rattle.std.proofs.lemmas.List.{drop_at}
use Rattle.hp_base.specs.declared.caught.Caught.{Caught}
use Rattle.hp_segs.specs.GrowthLaws.{HasArmedGrowth, IsOfArmed}
use Rattle.hp_segs.specs.LaterSteps.{after_stale, armed_ask, is_noted, noting}
use Rattle.hp_segs.specs.SegsView.{SegsView, closed_number}
use Rattle.hp_segs.specs.Steps.{after_agree, after_cancel, after_close, after_drop, after_freed, after_grant, after_open, agreed_growth, cancelled_growth, granted_unless, lowest_member_below}
use Rattle.hp_segs.specs.declared.ask.Ask.{Ask}
use Rattle.hp_segs.specs.declared.fault.NotAll.{NotAll}
use Rattle.hp_segs.specs.declared.growth.Growth.{Growth}
use Rattle.hp_segs.specs.declared.outcome.AskLog.{AskLog}
use Rattle.hp_segs.specs.declared.outcome.Cause.{Cause}
use Rattle.hp_segs.specs.declared.outcome.Cause.TheVariants.{MapFailed}
use Rattle.hp_segs.specs.declared.outcome.Outcome.{Outcome}
use Rattle.hp_segs.specs.declared.outcome.Outcome.TheVariants.{Freed, Granted, Refused, Stale}
use Rattle.hp_core.specs.Following.{after_catching, failure_of, noted}
use Rattle.hp_core.specs.Giving.{AnswersArmed, StepsAnswerArmed}
use Rattle.hp_core.specs.declared.asked.Asked.TheVariants as want
use Rattle.hp_core.specs.declared.event.CoreEvent.TheVariants.{Grow, Shrink, SelfMapped, Poll}
use Rattle.hp_core.specs.declared.following.Failure.{Failure}
use Rattle.hp_core.proofs.ArmedSteps.{noted_armed}
use Rattle.hp_core.proofs.GivingLemmas.{only_one}
use Rattle.hp_core.proofs.StepWalk.{HoldsAlone, HoldsInRound, HoldsStarted, came_holds, caught_holds, poll_holds}

-- the outcomes that came are those after the old ones
answers_new : (old new : SegsView) (outcomes : List AskLog) → new.asks ≡ old.asks ++ outcomes
    → ((entry : AskLog) (ask : Ask) → Contains outcomes entry → entry.ask ≡ Some ask → armed_ask old entry.from ≡ Some ask)
    → AnswersArmed old new
answers_new old new outcomes asks armed entry ask has is =
    let behind : drop (length old.asks) new.asks ≡ outcomes =
    ap (drop (length old.asks)) asks ∙ drop_at old.asks outcomes (length old.asks) refl in
    armed entry ask (subst (λ outcomes. Contains outcomes entry) behind has) is

-- no outcome came
answers_none : (old new : SegsView) → new.asks ≡ old.asks → AnswersArmed old new
answers_none old new asks =
    answers_new old new [] (asks ∙ sym (append-nil old.asks)) (λ entry ask has is. absurd (omega (arith, has.1)))

-- one came
answers_one : (old new : SegsView) (one : AskLog) → new.asks ≡ old.asks ++ one ∷ []
    → ((ask : Ask) → one.ask ≡ Some ask → armed_ask old one.from ≡ Some ask) → AnswersArmed old new
answers_one old new one asks armed =
    answers_new old new (one ∷ []) asks
    (λ entry ask has is.
    let same : one ≡ entry = only_one one entry has in
    subst (λ entry. armed_ask old entry.from ≡ Some ask) same (armed ask (ap (λ entry. entry.ask) same ∙ is)))

-- one came that keeps no ask
answers_unkept : (old new : SegsView) (one : AskLog) → new.asks ≡ old.asks ++ one ∷ [] → one.ask ≡ None → AnswersArmed old new
answers_unkept old new one asks none = answers_one old new one asks (λ ask is. absurd (never ask (sym none ∙ is)))
  where
    never : (ask : Ask) → None ≡ Some ask → ⊥
    never ask same = cc

-- one came that keeps the ask with which its participant is armed
answers_kept : (old new : SegsView) (its : Ask) (outcome : Outcome) (at : ℕ)
    → new.asks ≡ old.asks ++ record { from = its.from; number = its.number; outcome = outcome; at = at; ask = Some its } ∷ []
    → armed_ask old its.from ≡ Some its → AnswersArmed old new
answers_kept old new its outcome at asks armed =
    answers_one old new (record { from = its.from; number = its.number; outcome = outcome; at = at; ask = Some its }) asks
    (λ ask same. armed ∙ same)

-- outcomes come after a value with the same outcomes and armed asks
answers_behind : (old mid new : SegsView) → mid.asks ≡ old.asks → mid.armed ≡ old.armed → AnswersArmed mid new → AnswersArmed old new
answers_behind old mid new asks armed answers entry ask has is =
    let kept : Contains (drop (length mid.asks) new.asks) entry =
    subst (λ asks. Contains (drop (length asks) new.asks) entry) (sym asks) has in
    subst (λ armed. slice_index_or armed entry.from None ≡ Some ask) armed (answers entry ask kept is)

starts_answer : (segs : SegsView) → HoldsStarted (AnswersArmed segs) segs
starts_answer segs = record {
  stale = λ from number.
      answers_unkept segs (after_stale from number segs)
      (record { from = from; number = number; outcome = Stale (closed_number segs.asks from); at = length segs.log; ask = None })
      refl refl;
  refused = λ ask cause armed.
      answers_kept segs (after_close ask cause (after_drop segs)) ask (Refused cause) (length (after_drop segs).log) refl armed;
  opened = λ ask run armed fresh. answers_none segs (after_open ask run (after_drop segs)) refl;
  freed = λ from number.
      answers_unkept segs (after_freed from number (after_drop segs))
      (record {
        from = from;
        number = number;
        outcome = Freed (length (after_drop segs).log);
        at = length (after_drop segs).log;
        ask = None;
      })
      refl refl;
}

module _ (segs : SegsView) where
  same_answers : AnswersArmed segs segs
  same_answers = answers_none segs segs refl

  -- a growth that is cancelled is refused to its ask
  cancel_answers : (cause : Cause) (open_now : Option Growth) → IfSome open_now (IsOfArmed segs.asks segs.armed)
      → AnswersArmed segs (cancelled_growth cause segs open_now)
  cancel_answers cause None old = same_answers
  cancel_answers cause (Some growth) old =
      answers_kept segs (cancelled_growth cause segs (Some growth)) growth.ask (Refused cause) (length segs.log) refl old.its_ask

  granted_answers : (growth : Growth) (below : Option NotAll) → IsOfArmed segs.asks segs.armed growth
      → AnswersArmed segs (granted_unless growth segs below)
  granted_answers growth None old =
      answers_kept segs (after_grant growth segs) growth.ask (Granted growth.generation) (length segs.log) refl old.its_ask
  granted_answers growth (Some member) old = same_answers

  -- a growth that all have acknowledged is granted to its ask
  agree_answers : (acks : List ℕ) (open_now : Option Growth) → IfSome open_now (IsOfArmed segs.asks segs.armed)
      → AnswersArmed segs (agreed_growth acks segs open_now)
  agree_answers acks None old = same_answers
  agree_answers acks (Some growth) old = granted_answers growth (lowest_member_below segs.roster acks growth.generation) old

round_answers : (acks : List ℕ) (segs : SegsView) → HasArmedGrowth segs → HoldsInRound (AnswersArmed segs) acks segs
round_answers acks segs old =
    record { cancelled = λ cause why. cancel_answers segs cause segs.growth old; agreed = agree_answers segs acks segs.growth old }

-- the outcomes and the armed asks that a value has in common with another
record IsBeside (old mid : SegsView) : Type 0 where
  pub asks : mid.asks ≡ old.asks
  pub armed : mid.armed ≡ old.armed

-- a noted failure leaves both
note_beside : (segs : SegsView) (cause : Cause) (taken : Bool)
    → IsBeside segs (if taken then record segs { growth = noting cause segs.growth } else segs)
note_beside segs cause true = record { asks = refl; armed = refl }
note_beside segs cause false = record { asks = refl; armed = refl }

noted_beside : (segs : SegsView) (failure : Option Failure) → IsBeside segs (noted 0 segs failure)
noted_beside segs None = record { asks = refl; armed = refl }
noted_beside segs (Some one) =
    note_beside segs (MapFailed 0 one.call one.row.addr one.got) (is_noted segs 0 one.call one.row segs.growth)

alone_answers : (caught : Caught) (segs mid : SegsView) → IsBeside segs mid → HasArmedGrowth mid → HoldsAlone (AnswersArmed segs) caught mid
alone_answers caught segs mid beside old = record {
  cancelled = λ cause why.
      answers_behind segs mid (after_cancel cause mid) beside.asks beside.armed (cancel_answers mid cause mid.growth old);
  agreed = λ generation none mapped.
      answers_behind segs mid (after_agree (replicate 16 generation) mid) beside.asks beside.armed
      (agree_answers mid (replicate 16 generation) mid.growth old);
}

-- each step answers armed asks alone
pub steps_answer_armed : StepsAnswerArmed
steps_answer_armed denial (Grow ask) core segs old =
    came_holds (AnswersArmed segs) denial segs (same_answers segs) (λ alone. starts_answer segs) (want.Grow ask) core
steps_answer_armed denial (Shrink from number) core segs old =
    came_holds (AnswersArmed segs) denial segs (same_answers segs) (λ alone. starts_answer segs) (want.Shrink from number) core
steps_answer_armed denial (SelfMapped caught now) core segs old =
    let mid = after_catching 0 caught segs in
    let beside : IsBeside segs mid = noted_beside segs (failure_of caught) in
    let behind : HasArmedGrowth mid = noted_armed segs (failure_of caught) old in
    caught_holds (AnswersArmed segs) core segs caught now core.phase (same_answers segs) (answers_none segs mid beside.asks)
    (alone_answers caught segs mid beside behind)
steps_answer_armed denial (Poll now acks) core segs old =
    poll_holds (AnswersArmed segs) denial core segs now acks core.phase (same_answers segs) (λ alone. starts_answer segs)
    (round_answers acks segs old)
