-- Where participant 0 starts an ask that is to do, from a quiet world but for copies of the ask, it comes to a stage of the ask.
use Rattle.std.proofs.Common.{◌≡◌, ℕ, ◌<◌, false, true, List, Option, Some, refl, sym, ap, subst, ◌∙◌, arith}
use Rattle.std.proofs.lemmas.Bool.Decides.{nat_tests}
use Rattle.std.proofs.lemmas.Option.{same_Some}
use Rattle.std.specs.Prelude.{nat_le, slice_get}
use Rattle.hp_core.specs.Asks.{asker, is_armed, is_closed}
use Rattle.hp_core.specs.Core.{Core, Done, Stepped, going_on}
use Rattle.hp_core.specs.Outs.{IsAskOf}
use Rattle.hp_core.specs.Starting.{started_by}
use Rattle.hp_core.specs.declared.asked.Asked.{Asked}
use Rattle.hp_core.specs.declared.asked.Asked.TheVariants as want
use Rattle.hp_core.specs.declared.event.CoreEvent.{CoreEvent}
use Rattle.hp_core.specs.declared.event.CoreEvent.TheVariants.{Grow, Poll, SelfMapped, Shrink}
use Rattle.hp_core.specs.declared.phase.Phase.TheVariants.{Idle}
use Rattle.hp_segs.specs.declared.ask.Ask.{Ask}
use Rattle.hp_serve.specs.Coordinating.{stepping, with_room}
use Rattle.hp_serve.specs.Denials.{Denials}
use Rattle.hp_serve.specs.Party.{Party}
use Rattle.thm_causes.specs.RoundTrip.{IsBase, IsSetting, IsToDo, Setting, RunState}
use Rattle.thm_causes.specs.Servings.{Handles}
use Rattle.thm_causes.specs.Shared.{Shared, with_segs}
use Rattle.thm_causes.specs.Stages.{ComesTo, IsStarting, StartsFresh}
use Rattle.thm_causes.proofs.StartSteps.StartingAsks.{frees_so, opens_so, refuses_so}
use Rattle.thm_causes.proofs.StartSteps.StartingFirst.{HasStarted, ask_begins, came_starts, opens, refuses}

not_closed : (number done : ℕ) → done < number → nat_le number done ≡ false
not_closed number done above = grind (arith, nat_tests)

-- an ask that is to do is not closed
open_ask : (call : Asked) (world : RunState) → IsToDo call world → is_closed call world.shared.segs ≡ false
open_ask (want.Grow ask) world to_do = not_closed ask.number _ to_do.0
open_ask (want.Shrink from number) world to_do = not_closed number _ to_do

module _ {denies : Denials} (set : Setting) (call : Asked) (sent : ℕ) (event : CoreEvent) (world : RunState) (shared : Shared)
    (primary after : Party)
    (base : IsBase set world) (starting : IsStarting set call sent world) (there : slice_get world.parties 0 ≡ Some primary)
    (handles : Handles denies set.count event world.shared shared primary after) where
  -- what the judge answers
  abbrev denied : Option (List ℕ × ℕ)
  denied = handles.steps.denied

  -- what the coordinator makes of the ask
  abbrev begun : Done
  begun = started_by (λ socket total. denied) (with_room world.shared.segs) call

  rests : handles.core.phase ≡ Idle
  rests =
      let old = starting.coordinator in
      let same : primary ≡ old.primary = cc (there, old.there) in
      let cores : Some handles.core ≡ Some old.is.its = sym handles.there ∙ (ap (λ (party : Party). party.core) same ∙ old.is.there) in
      ap (λ (core : Core). core.phase) (same_Some handles.core old.is.its cores) ∙ old.is.phase_is

  starts_as : stepping denied event handles.core world.shared.segs ≡ going_on handles.core begun
      → HasStarted world handles.mid primary handles.core handles.next handles.answer begun
  starts_as is = record {
    core_is = handles.steps.core_is ∙ ap (λ (after : Stepped). after.core) is;
    answer_is = handles.steps.answer_is ∙ ap (λ (after : Stepped). after.out) is;
    shared = handles.steps.shared ∙ ap (λ (after : Stepped). with_segs after.segs world.shared) is;
    sound = handles.steps.sound;
    armed = handles.steps.armed base.armed;
  }

  steps_as : IsAskOf event call → stepping denied event handles.core world.shared.segs ≡ going_on handles.core begun
  steps_as ask_is = by_event event ask_is
    where
      by_event : (event : CoreEvent) → IsAskOf event call → stepping denied event handles.core world.shared.segs
          ≡ going_on handles.core begun
      by_event (Grow ask) is =
          subst
          (λ (one : Asked). stepping denied (Grow ask) handles.core world.shared.segs
          ≡ going_on handles.core (started_by (λ socket total. denied) (with_room world.shared.segs) one)) (sym is)
          (came_starts denied handles.core world.shared.segs (want.Grow ask) rests starting.alone
          (subst (λ (one : Asked). is_closed one world.shared.segs ≡ false) is (open_ask call world starting.to_do)))
      by_event (Shrink from number) is =
          subst
          (λ (one : Asked). stepping denied (Shrink from number) handles.core world.shared.segs
          ≡ going_on handles.core (started_by (λ socket total. denied) (with_room world.shared.segs) one)) (sym is)
          (came_starts denied handles.core world.shared.segs (want.Shrink from number) rests starting.alone
          (subst (λ (one : Asked). is_closed one world.shared.segs ≡ false) is (open_ask call world starting.to_do)))
      by_event (SelfMapped caught now) is = absurd is
      by_event (Poll now acks) is = absurd is

  module _ (setting : IsSetting set) (declared : asker call < set.count)
      (has : HasStarted world handles.mid primary handles.core handles.next handles.answer begun) where
    grows_so : (ask : Ask) → call ≡ want.Grow ask → ComesTo set call sent true world 0 shared after
    grows_so ask is =
        let armed : is_armed ask world.shared.segs ≡ true = (subst (λ (call : Asked). IsToDo call world) is starting.to_do).1 in
        let done_is : begun ≡ started_by (λ socket total. denied) (with_room world.shared.segs) (want.Grow ask) =
        ap (started_by (λ socket total. denied) (with_room world.shared.segs)) is in
        elim (ask_begins denied ask world.shared.segs armed) [
          | refuses cause once done ↦
              refuses_so set call sent world primary setting declared base starting there handles.mid shared after handles.core handles.next handles.there
              handles.answer begun has handles.carries ask is cause once (done_is ∙ done)
          | opens run done ↦
              opens_so set call sent world primary setting declared base starting there handles.mid shared after handles.core handles.next handles.there
              handles.answer begun has handles.carries ask is run (done_is ∙ done)
        ]

    begins_so : (one : Asked) → call ≡ one → ComesTo set call sent true world 0 shared after
    begins_so (want.Grow ask) is = grows_so ask is
    begins_so (want.Shrink from number) is =
        frees_so set call sent world primary setting declared base starting there handles.mid shared after handles.core handles.next handles.there
        handles.answer begun has handles.carries from number is (ap (started_by (λ socket total. denied) (with_room world.shared.segs)) is)

-- participant 0 starts a fresh ask
pub starts_fresh : StartsFresh
starts_fresh denies set call sent event world shared primary after is_sent base starting there ask_is handles =
    begins_so set call sent event world shared primary after base starting there handles is_sent.setting is_sent.declared
    (starts_as set call sent event world shared primary after base starting there handles
    (steps_as set call sent event world shared primary after base starting there handles ask_is))
    call refl
