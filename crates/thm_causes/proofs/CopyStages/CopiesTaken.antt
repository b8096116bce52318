-- What becomes of a further copy of an ask: the coordinator holds it, or it is stale, and nothing is posted.
use Rattle.std.proofs.Common.{◌≡◌, ◌∙◌, ℕ, Bool, true, false, not, ◌&&◌, length, Option, List, Some, None, inl, refl, ap, sym, subst, ◌+◌, ◌==◌}
use Rattle.std.specs.List.{list_any, All}
use Rattle.std.proofs.Math.Bool.{and-false}
use Rattle.std.proofs.lemmas.Bool.{cond-false, cond-true, le-leb}
use Rattle.std.proofs.lemmas.Option.{same_Some}
use Rattle.hp_core.specs.Asks.{asker, is_armed, is_closed, is_unarmed, number_of}
use Rattle.hp_core.specs.Core.{Core, Stepped, going_on, is_foreign, is_idle, is_open_for, unchanged}
use Rattle.hp_core.specs.Outs.{IsAskOf}
use Rattle.hp_core.specs.Stepping.{came, holding}
use Rattle.hp_core.specs.declared.asked.Asked.{Asked}
use Rattle.hp_core.specs.declared.asked.Asked.TheVariants as want
use Rattle.hp_core.specs.declared.event.CoreEvent.{CoreEvent}
use Rattle.hp_core.specs.declared.event.CoreEvent.TheVariants.{Grow, Poll, SelfMapped, Shrink}
use Rattle.hp_core.specs.declared.out.Out.{Out}
use Rattle.hp_core.specs.declared.out.Out.TheVariants as out
use Rattle.hp_core.specs.declared.phase.Phase.{Phase}
use Rattle.hp_core.specs.declared.phase.Phase.TheVariants.{Idle, Waiting}
use Rattle.hp_core.specs.declared.phase.Round.{Round}
use Rattle.hp_segs.specs.Standing.{IsArmed}
use Rattle.hp_segs.specs.LaterSteps.{after_stale, has_failed_from}
use Rattle.hp_segs.specs.SegsView.{SegsView, closed_number, grants_or_refuses}
use Rattle.hp_segs.specs.Sound.{IsSound}
use Rattle.hp_segs.specs.declared.growth.Growth.{Growth}
use Rattle.hp_segs.specs.declared.outcome.AskLog.{AskLog}
use Rattle.hp_serve.specs.Coordinating.{MustMap, stepping, with_core, with_room}
use Rattle.hp_serve.specs.Denials.{Denials}
use Rattle.hp_serve.specs.Party.{Party}
use Rattle.thm_causes.specs.RoundTrip.{IsClosed, IsToDo, RunState}
use Rattle.thm_causes.specs.Failing.{AreGrantsWithin}
use Rattle.thm_causes.specs.Outcomes.{late_outcomes, stale_outcomes, withdrawn_outcomes, IsApart}
use Rattle.thm_causes.specs.Servings.{CarriesOut, Handles, PostsFor}
use Rattle.thm_causes.specs.Shared.{Shared, with_segs}
use Rattle.thm_causes.proofs.CopyStages.CopiesAlong.{IsLike}
use Rattle.thm_causes.proofs.CopyStages.CopiesStale.{answered_stays, closed_stays, failed_stays, granted_before, late_stays, stale_rises, withdrawn_stays}
use Rattle.thm_causes.proofs.CountingLemmas.{one_if}
use Rattle.thm_causes.proofs.Told.{heard_more, heard_same}
use Rattle.std.proofs.lemmas.List.Elements.{All-push}

-- where the outcomes are the same, and nothing else changes that counts
like_by : (old new : SegsView) → new.log ≡ old.log → new.roster ≡ old.roster → new.growth ≡ old.growth → new.armed ≡ old.armed
    → new.retiring ≡ old.retiring → new.asks ≡ old.asks → IsLike old new
like_by old new log roster growth armed retiring same = record {
  log = log;
  roster = roster;
  growth = growth;
  armed = armed;
  retiring = retiring;
  closed = λ who. ap (λ (asks : List AskLog). closed_number asks who) same;
  late = λ who. ap (late_outcomes who) same;
  withdrawn = λ who. ap (withdrawn_outcomes who) same;
  heard = λ call who. heard_same call who old.asks new.asks same;
  failed = λ who call. ap (λ (asks : List AskLog). has_failed_from asks who call) same;
  granted = λ number are. subst (AreGrantsWithin number) (sym same) are;
  answered = λ from number is. ap (list_any (grants_or_refuses from number)) same ∙ is;
  apart = λ deadline are. subst (All (IsApart deadline)) (sym same) are;
}

-- nothing was done, places alone were made, or a stale outcome was logged after that
pub like_same : (segs : SegsView) → IsLike segs segs
like_same segs = like_by segs segs refl refl refl refl refl refl

pub like_room : (segs : SegsView) → IsLike segs (with_room segs)
like_room segs = like_by segs (with_room segs) refl refl refl refl refl refl

pub like_stale : (segs : SegsView) (from number : ℕ) → IsLike segs (after_stale from number (with_room segs))
like_stale segs from number = record {
  log = refl;
  roster = refl;
  growth = refl;
  armed = refl;
  retiring = refl;
  closed = closed_stays segs.asks from number (closed_number segs.asks from) (length segs.log);
  late = late_stays segs.asks from number (closed_number segs.asks from) (length segs.log);
  withdrawn = withdrawn_stays segs.asks from number (closed_number segs.asks from) (length segs.log);
  heard = λ call who.
      heard_more call who segs.asks (after_stale from number (with_room segs)).asks _ refl
      (withdrawn_stays segs.asks from number (closed_number segs.asks from) (length segs.log) who) (inl refl);
  failed = failed_stays segs.asks from number (closed_number segs.asks from) (length segs.log);
  granted = λ bound are entry generation there grants.
      are entry generation
      (granted_before segs.asks from number (closed_number segs.asks from) (length segs.log) entry generation there grants) grants;
  answered = answered_stays segs.asks from number (closed_number segs.asks from) (length segs.log);
  apart = λ deadline are. All-push (IsApart deadline) segs.asks _ are (λ cause is. absurd (cc is));
}

-- then one more of its asker's outcomes is stale
pub stale_more : (segs : SegsView) (from number who : ℕ)
    → stale_outcomes who (after_stale from number (with_room segs)).asks ≡ stale_outcomes who segs.asks + one_if (from == who)
stale_more segs from number who = stale_rises segs.asks from number (closed_number segs.asks from) (length segs.log) who

-- what the coordinator does with an ask that comes
asked_step : (denied : Option (List ℕ × ℕ)) (event : CoreEvent) (call : Asked) (core : Core) (segs : SegsView) → IsAskOf event call
    → stepping denied event core segs ≡ came (λ socket total. denied) call core (with_room segs)
asked_step denied (Grow ask) call core segs is = ap (λ (asked : Asked). came (λ socket total. denied) asked core (with_room segs)) (sym is)
asked_step denied (Shrink from number) call core segs is =
    ap (λ (asked : Asked). came (λ socket total. denied) asked core (with_room segs)) (sym is)
asked_step denied (SelfMapped caught now) call core segs is = absurd is
asked_step denied (Poll now acks) call core segs is = absurd is

-- the growth of a round is not another's
own_growth : (round : Round) (since : ℕ) (growth : Option Growth) → is_open_for round growth ≡ true
    → is_foreign (Waiting round since) growth ≡ false
own_growth round since None its = refl
own_growth round since (Some growth) its = ap not its

-- nor is none
no_growth : (phase : Phase) (growth : Option Growth) → growth ≡ None → is_foreign phase growth ≡ false
no_growth phase growth none = ap (is_foreign phase) none

-- who is armed with it, or has closed it, is not refused a place for it
pub armed_so : (call : Asked) (world : RunState) → IsToDo call world → is_unarmed call (with_room world.shared.segs) ≡ false
armed_so (want.Grow ask) world is =
    ap (λ (armed : Bool). not (is_closed (want.Grow ask) world.shared.segs) && not armed) is.1
    ∙ and-false (not (is_closed (want.Grow ask) world.shared.segs))
armed_so (want.Shrink from number) world is = refl

closed_so : (call : Asked) (world : RunState) → IsClosed call world → is_closed call (with_room world.shared.segs) ≡ true
closed_so call world is = le-leb (number_of call) (closed_number world.shared.segs.asks (asker call)) is

pub unarmed_so : (call : Asked) (world : RunState) → IsClosed call world → is_unarmed call (with_room world.shared.segs) ≡ false
unarmed_so (want.Grow ask) world is =
    ap (λ (closed : Bool). not closed && not (is_armed ask world.shared.segs)) (closed_so (want.Grow ask) world is)
unarmed_so (want.Shrink from number) world is = refl

-- while a round is under way the ask is held
pub held_step : (denied : Option (List ℕ × ℕ)) (event : CoreEvent) (call : Asked) (core : Core) (segs : SegsView) (round : Round)
    (since : ℕ) → IsAskOf event call
    → core.phase ≡ Waiting round since → is_foreign (Waiting round since) segs.growth ≡ false → is_unarmed call (with_room segs) ≡ false
    → stepping denied event core segs ≡ unchanged (holding call core) (with_room segs)
held_step denied event call core segs round since asked phase own armed =
    asked_step denied event call core segs asked
    ∙ (cond-false (is_foreign core.phase segs.growth) _ _ (ap (λ (phase : Phase). is_foreign phase segs.growth) phase ∙ own)
    ∙ (cond-false (is_idle core.phase) _ _ (ap is_idle phase) ∙ cond-false (is_unarmed call (with_room segs)) _ _ armed))

-- what is held in a round of an open growth, and in one after it
pub held_growing : (denied : Option (List ℕ × ℕ)) (event : CoreEvent) (call : Asked) (core : Core) (world : RunState) (round : Round)
    (since : ℕ) → IsAskOf event call
    → core.phase ≡ Waiting round since → is_open_for round world.shared.segs.growth ≡ true → IsToDo call world
    → stepping denied event core world.shared.segs ≡ unchanged (holding call core) (with_room world.shared.segs)
held_growing denied event call core world round since asked phase its to_do =
    held_step denied event call core world.shared.segs round since asked phase (own_growth round since world.shared.segs.growth its)
    (armed_so call world to_do)

pub held_settling : (denied : Option (List ℕ × ℕ)) (event : CoreEvent) (call : Asked) (core : Core) (world : RunState) (round : Round)
    (since : ℕ) → IsAskOf event call
    → core.phase ≡ Waiting round since → world.shared.segs.growth ≡ None → IsClosed call world
    → stepping denied event core world.shared.segs ≡ unchanged (holding call core) (with_room world.shared.segs)
held_settling denied event call core world round since asked phase alone closed =
    held_step denied event call core world.shared.segs round since asked phase
    (no_growth (Waiting round since) world.shared.segs.growth alone) (unarmed_so call world closed)

-- the coordinator after an ask that is stale
abbrev pub rested : Core → Core
rested core = record core { phase = Idle }

-- while nothing is under way an ask that is closed is stale
pub stale_step : (denied : Option (List ℕ × ℕ)) (event : CoreEvent) (call : Asked) (core : Core) (world : RunState) → IsAskOf event call
    → core.phase ≡ Idle
    → world.shared.segs.growth ≡ None → IsClosed call world
    → stepping denied event core world.shared.segs
    ≡ unchanged (rested core) (after_stale (asker call) (number_of call) (with_room world.shared.segs))
stale_step denied event call core world asked phase alone closed =
    asked_step denied event call core world.shared.segs asked
    ∙ (cond-false (is_foreign core.phase world.shared.segs.growth) _ _ (no_growth core.phase world.shared.segs.growth alone)
    ∙ (cond-true (is_idle core.phase) _ _ (ap is_idle phase)
    ∙ ap (going_on core) (cond-true (is_closed call (with_room world.shared.segs)) _ _ (closed_so call world closed))))

-- nothing is posted after an answer that is none
nothing_posted : (count : ℕ) (old new : Shared) (party after : Party) (answer : Out) → answer ≡ out.Nothing
    → PostsFor count old new party after answer → (new ≡ old) × (after ≡ party)
nothing_posted count old new party after _ is (PostsFor.nothing same stays) = (same, stays)
nothing_posted count old new party after _ is (PostsFor.syncs generation round members frame says posts sends) = cc
nothing_posted count old new party after _ is (PostsFor.answers to number what good frame its says posts sends) = cc
nothing_posted count old new party after _ is (PostsFor.nobody to number what good its same stays) = cc

-- and it is not to catch up
nothing_carried : (count : ℕ) (old new : Shared) (party after : Party) (answer : Out) → answer ≡ out.Nothing
    → CarriesOut count old new party after answer → (new ≡ old) × (after ≡ party)
nothing_carried count _ _ _ _ _ is (CarriesOut.posts old new party after answer posts) =
    nothing_posted count old new party after answer is posts
nothing_carried count _ _ _ _ _ is (CarriesOut.maps old mid new party between after answer next must maps more) =
    absurd (subst MustMap is must)

-- the segment value and the coordinator have come to these, and nothing else has changed
pub record IsTaken (segs : SegsView) (core : Core) (old new : Shared) (party after : Party) : Type 0 where
  pub shared : new ≡ with_segs segs old
  pub after_is : after ≡ with_core core party
  pub sound : IsSound segs
  pub armed : IsArmed old.segs → IsArmed segs

-- an event is handled at which the coordinator answers nothing
pub handled_so : {denies : Denials} (count : ℕ) (event : CoreEvent) (old new : Shared) (party after : Party) (core next : Core)
    (segs : SegsView)
    → (handles : Handles denies count event old new party after) → party.core ≡ Some core
    → stepping handles.steps.denied event core old.segs ≡ unchanged next segs
    → IsTaken segs next old new party after
handled_so count event old new party after core next segs handles there is =
    let same : handles.core ≡ core = same_Some handles.core core (sym handles.there ∙ there) in
    let denied : Option (List ℕ × ℕ) = handles.steps.denied in
    let all : stepping denied event handles.core old.segs ≡ unchanged next segs =
    ap (λ (c : Core). stepping denied event c old.segs) same ∙ is in
    let answer : handles.answer ≡ out.Nothing = handles.steps.answer_is ∙ ap (λ (s : Stepped). s.out) all in
    let core_is : handles.next ≡ next = handles.steps.core_is ∙ ap (λ (s : Stepped). s.core) all in
    let mid : handles.mid ≡ with_segs segs old = handles.steps.shared ∙ ap (λ (s : Stepped). with_segs s.segs old) all in
    let done = nothing_carried count handles.mid new (with_core handles.next party) after handles.answer answer handles.carries in
    record {
      shared = done.0 ∙ mid;
      after_is = done.1 ∙ ap (λ (c : Core). with_core c party) core_is;
      sound = subst (λ (s : Shared). IsSound s.segs) mid handles.steps.sound;
      armed = λ was. subst (λ (s : Shared). IsArmed s.segs) mid (handles.steps.armed was);
    }
