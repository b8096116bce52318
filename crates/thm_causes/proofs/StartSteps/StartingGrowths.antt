-- Where participant 0 is told to catch up for a growth that was opened: the growth is granted or cancelled, or it waits for its members.
use Rattle.std.proofs.Common.{◌≡◌, ℕ, ◌<◌, false, true, Some}
use Rattle.std.specs.Prelude.{slice_get}
use Rattle.hp_core.specs.Asks.{asker}
use Rattle.hp_core.specs.declared.asked.Asked.{Asked}
use Rattle.hp_core.specs.declared.out.Out.{Out}
use Rattle.hp_core.specs.declared.phase.Round.{Round}
use Rattle.hp_serve.specs.Coordinating.{MustMap}
use Rattle.hp_serve.specs.Party.{Party}
use Rattle.thm_causes.specs.RoundTrip.{IsSetting, Setting, RunState}
use Rattle.thm_causes.specs.Servings.{CarriesOut}
use Rattle.thm_causes.specs.Shared.{Shared}
use Rattle.thm_causes.specs.Stages.{ComesTo}
use Rattle.thm_causes.proofs.StartSteps.StartingAlong.{carries_maps}
use Rattle.thm_causes.proofs.StartSteps.StartingFails.{cancels_so}
use Rattle.thm_causes.proofs.StartSteps.StartingGrants.{grants_so}
use Rattle.thm_causes.proofs.StartSteps.StartingGrowing.{IsOpening, opens_so}
use Rattle.thm_causes.proofs.StartSteps.StartingMaps.{has_mapped}
use Rattle.thm_causes.proofs.StartSteps.StartingOpens.{cancels, grants, tells}
use Rattle.thm_causes.proofs.StartSteps.StartingTells.{tells_so}

-- from there it comes to a stage of its ask
pub opened_on : (set : Setting) (call : Asked) (sent : ℕ) (round : Round) (world : RunState) (primary : Party) → IsSetting set → asker call < set.count
    → IsOpening set call sent round world → slice_get world.parties 0 ≡ Some primary → (new : Shared) (after : Party) (answer : Out) → MustMap answer
    → CarriesOut set.count world.shared new primary after answer → ComesTo set call sent true world 0 new after
opened_on set call sent round world primary setting declared begun there new after answer must carried =
    let then_so = carries_maps set.count world.shared new primary after answer must carried in
    let mid = then_so.mid in
    let between = then_so.between in
    let has = has_mapped set world round mid primary between then_so.next begun.base there setting.some call false begun.coordinator then_so.maps_so in
    elim (opens_so set call sent round world primary setting begun there mid between then_so.next has)
    as (λ how. ComesTo set call sent true world 0 new after) [
      | grants none alone done ↦
          grants_so set call sent round world primary setting declared begun there mid new between after then_so.next has then_so.carried none alone done
      | cancels cause alone noted done ↦
          cancels_so set call sent round world primary setting declared begun there mid new between after then_so.next has then_so.carried cause noted done
      | tells how done ↦
          tells_so set call sent round world primary setting declared begun there mid new between after then_so.next has then_so.carried how done
    ]
