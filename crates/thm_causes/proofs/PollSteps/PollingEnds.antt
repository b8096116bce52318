-- A round ends, and its ask is answered: by its outcome, or by nothing where none is logged.
use Rattle.std.proofs.Common.{◌≡◌, ℕ, ◌<◌, ◌≤◌, Bool, true, List, Option, Some, None, sym, ap, subst}
use Rattle.std.specs.Prelude.{slice_get}
use Rattle.hp_core.specs.Asks.{answer_by, asker, is_good}
use Rattle.hp_core.specs.declared.asked.Asked.{Asked}
use Rattle.hp_core.specs.declared.out.Out.TheVariants as out
use Rattle.hp_segs.specs.declared.outcome.Outcome.{Outcome}
use Rattle.hp_serve.specs.Party.{Party}
use Rattle.thm_causes.specs.RoundTrip.{IsBase, Setting, AskPhase, RunState}
use Rattle.thm_causes.specs.Servings.{CarriesOut}
use Rattle.thm_causes.specs.Shared.{Shared}
use Rattle.thm_causes.specs.Stages.{ComesTo, world_with}
use Rattle.thm_causes.proofs.PollSteps.PollingSteps.{carried_nothing}
use Rattle.thm_causes.proofs.Said.{set_same}
use Rattle.thm_causes.proofs.StartSteps.StartingAlong.{carries_posts}
use Rattle.thm_causes.proofs.StartSteps.StartingResults.{IsEnding, ends_posted}

module _ (set : Setting) (call : Asked) (sent : ℕ) (holds : Bool) (world : RunState) (primary : Party) (ends : IsEnding set call holds world)
    (there : slice_get world.parties 0 ≡ Some primary) (few : set.count ≤ 16) (declared : asker call < set.count) where
  -- nothing is posted: the world is as it was
  over_so : ComesTo set call sent true world 0 world.shared primary
  over_so =
      let same : world ≡ world_with world.shared world.mail 0 primary world =
      ap (λ (parties : List Party). record { shared = world.shared; mail = world.mail; parties = parties })
      (sym (set_same world.parties 0 primary there)) in
      record {
        mail = world.mail;
        base = subst (IsBase set) same ends.base;
        stage = subst (AskPhase set call sent true) same
            (AskPhase.over holds ends.coordinator ends.alone ends.closed ends.copies ends.doubled ends.no_sync ends.answered
            ends.level);
      }

  -- the ask is over once it was answered
  pub ends_by : (new : Shared) (after : Party) (from number what : ℕ) (outcome : Option Outcome) → from ≡ asker call
      → CarriesOut set.count world.shared new primary after (answer_by from number what outcome)
      → ComesTo set call sent true world 0 new after
  ends_by new after from number what None own carries =
      let same = carried_nothing set.count world.shared new primary after carries in
      subst (λ (one : Shared). ComesTo set call sent true world 0 one after) (sym same.0)
      (subst (λ (one : Party). ComesTo set call sent true world 0 world.shared one) (sym same.1) over_so)
  ends_by new after from number what (Some outcome) own carries =
      ends_posted set call sent true holds world primary ends there few declared new after
      (out.Answer from number what (is_good outcome)) number what
      (is_good outcome) (ap (λ (to : ℕ). out.Answer to number what (is_good outcome)) own)
      (carries_posts set.count world.shared new primary after (out.Answer from number what (is_good outcome)) (λ must. must) carries)
