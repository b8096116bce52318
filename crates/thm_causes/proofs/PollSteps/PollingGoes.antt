-- Worlds in which the coordinator made a step by which, beside it, the segment value alone has changed: what stays of an ask.
use Rattle.std.proofs.Common.{◌≡◌, ◌≢◌, ◌∙◌, ℕ, ◌+◌, ◌≤◌, Bool, Option, Some, inl, inr, refl, sym, ap, subst, arith, if◌then◌else◌}
use Rattle.std.specs.Prelude.{slice_get}
use Rattle.std.proofs.lemmas.Option.{same_Some}
use Rattle.hp_core.specs.Asks.{asker}
use Rattle.hp_core.specs.Core.{Core}
use Rattle.hp_core.specs.declared.asked.Asked.{Asked}
use Rattle.hp_core.specs.declared.phase.Phase.{Phase}
use Rattle.hp_segs.specs.SegsView.{SegsView}
use Rattle.hp_serve.specs.Coordinating.{with_core}
use Rattle.hp_serve.specs.Party.{Party}
use Rattle.hp_serve.specs.declared.sent.Sent.{Sent}
use Rattle.thm_causes.specs.RoundTrip.{AreDoubled, HasCoordinator, IsCoordinator, IsUnanswered, Setting, RunState}
use Rattle.thm_causes.specs.Outcomes.{stale_outcomes}
use Rattle.thm_causes.specs.Shared.{with_segs}
use Rattle.thm_causes.specs.Stages.{world_with}
use Rattle.thm_causes.proofs.CopyStages.CopiesAlong.{CameOf, IsSameBut}
use Rattle.thm_causes.proofs.CopyStages.CopiesCarried.{IsUnheard}
use Rattle.thm_causes.proofs.CopyStages.CopiesSet.{came_from}
use Rattle.thm_causes.proofs.CopyStages.CopiesStages.{doubles_same}
use Rattle.thm_causes.proofs.Said.{get_set, set_found}
use Rattle.thm_causes.proofs.Told.{IsHeardOn, told_on}

-- the world after such a step
abbrev pub goes : RunState → Party → Core → SegsView → RunState
goes world primary next segs = world_with (with_segs segs world.shared) world.mail 0 (with_core next primary) world

-- participant 0's coordinator is that of the world
pub its_coordinator : (set : Setting) (world : RunState) (phase : Phase) (call : Asked) (holds : Bool) (primary : Party)
    → HasCoordinator set world phase call holds → slice_get world.parties 0 ≡ Some primary
    → IsCoordinator set phase call holds primary.core
its_coordinator set world phase call holds primary has there =
    subst (λ (one : Party). IsCoordinator set phase call holds one.core) (same_Some has.primary primary (sym has.there ∙ there)) has.is

-- the coordinator has come to another phase
pub with_phase : (set : Setting) (old new : Phase) (call : Asked) (holds : Bool) (core : Option Core)
    (is : IsCoordinator set old call holds core)
    → IsCoordinator set new call holds (Some (record is.its { phase = new }))
with_phase set old new call holds core is =
    record { its = record is.its { phase = new }; there = refl; deadline = is.deadline; phase_is = refl; held = is.held }

-- a participant is as it was, but for its coordinator
pub with_core_same : (next : Core) (party : Party) → IsSameBut party (with_core next party)
with_core_same next party =
    record { me = refl; deadline = refl; plan = refl; joined = refl; maps = refl; sent = refl; asked = refl }

module _ (world : RunState) (primary : Party) (next : Core) (segs : SegsView) (there : slice_get world.parties 0 ≡ Some primary) where
  pub goes_there : slice_get (goes world primary next segs).parties 0 ≡ Some (with_core next primary)
  goes_there = set_found world.parties 0 primary (with_core next primary) there

  -- whoever is there was there
  pub came_of : (who : ℕ) (party : Party) → slice_get (goes world primary next segs).parties who ≡ Some party → CameOf world who party
  came_of = came_from world primary (with_core next primary) there (with_core_same next primary)

  module _ (set : Setting) (call : Asked) where
    pub goes_coordinated : (phase : Phase) (holds : Bool) → IsCoordinator set phase call holds (Some next)
        → HasCoordinator set (goes world primary next segs) phase call holds
    goes_coordinated phase holds is = record { primary = with_core next primary; there = goes_there; is = is }

    -- its asker has heard nothing
    pub goes_unheard : IsUnanswered call world → IsUnheard call (goes world primary next segs)
    goes_unheard unanswered party found =
        elim (get_set world.parties 0 (asker call) (with_core next primary) party found) [
          | inl own ↦
              ap (λ (one : Party). one.answered) own.1 ∙ unanswered.unheard primary (ap (slice_get world.parties) own.0 ∙ there)
          | inr other ↦ unanswered.unheard party other.1
        ]

    pub goes_unanswered : IsUnanswered call world → IsUnanswered call (goes world primary next segs)
    goes_unanswered unanswered = record {
      asked = λ party found.
          let came = came_of (asker call) party found in
          came.same.asked ∙ unanswered.asked came.its came.there;
      unheard = goes_unheard unanswered;
      nowhere = unanswered.nowhere;
    }

    -- no more asks came twice, where a held one that is no more held may be stale
    pub goes_doubled : (holds later fresh : Bool)
        → stale_outcomes (asker call) segs.asks + (if later then 1 else 0)
        ≤ stale_outcomes (asker call) world.shared.segs.asks + (if holds then 1 else 0)
        → ((who : ℕ) → who ≢ asker call → stale_outcomes who segs.asks ≡ stale_outcomes who world.shared.segs.asks)
        → ((who : ℕ) → IsHeardOn call who world.shared.segs.asks segs.asks)
        → AreDoubled set world call holds fresh → AreDoubled set (goes world primary next segs) call later fresh
    goes_doubled holds later fresh own others heard doubled = record {
      asker_is = λ party found.
          let came = came_of (asker call) party found in
          omega (arith, own, doubled.asker_is came.its came.there, doubles_same set (asker call) came.its party came.same.sent);
      others = λ who party apart found.
          let came = came_of who party found in
          omega (
            arith,
            others who apart,
            doubled.others who came.its apart came.there,
            doubles_same set who came.its party
                came.same.sent,
          );
      told = λ who party found.
          let came = came_of who party found in
          told_on set world.shared.segs.asks segs.asks call who came.its party (heard who) came.same.asked
          (ap (λ (sent : Sent). sent.frees) came.same.sent)
          (doubled.told who came.its came.there);
    }
