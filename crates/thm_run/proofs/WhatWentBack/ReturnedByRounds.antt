-- Each step of the coordinator leaves what has gone back or is Retiring. It goes by hp_core's walk, whose cases carry the value alone.
use Rattle.std.proofs.Common.{◌≡◌, ◌∙◌, ℕ, List, replicate, Option, None, refl}
use Rattle.hp_base.specs.declared.caught.Caught.{Caught}
use Rattle.hp_core.specs.Core.{Core}
use Rattle.hp_core.specs.Following.{after_catching}
use Rattle.hp_core.specs.Stepping.{caught_in, stepped}
use Rattle.hp_core.specs.declared.asked.Asked.TheVariants as want
use Rattle.hp_core.specs.declared.event.CoreEvent.{CoreEvent}
use Rattle.hp_core.specs.declared.event.CoreEvent.TheVariants.{Grow, Shrink, SelfMapped, Poll}
use Rattle.hp_core.proofs.GivingLemmas.{catches_note}
use Rattle.hp_core.proofs.StepWalk.{HoldsAlone, HoldsInRound, HoldsStarted, came_holds, caught_holds, poll_holds}
use Rattle.hp_segs.specs.Moved.{is_log_call}
use Rattle.hp_segs.specs.SegsView.{SegsView}
use Rattle.hp_segs.specs.Sound.{IsSound}
use Rattle.hp_segs.specs.Steps.{after_drop}
use Rattle.hp_segs.proofs.Moves.{moves_keep}
use Rattle.hp_segs.proofs.RetiredRuns.ReturnedBySteps.{IsGoneAlike, close_gone, drop_gone, freed_gone, open_gone, stale_gone}
use Rattle.thm_run.proofs.WhatWentBack.ReturnedBySteps.{agree_gone, cancel_gone}
use Rattle.thm_run.proofs.RunFacts.CallCases.{catching_holds}

module _ (segs : SegsView) where
  -- an ask that is started: what is Retiring goes back first
  starts_gone : IsSound segs → segs.growth ≡ None → HoldsStarted (IsGoneAlike segs) segs
  starts_gone sound alone =
      let behind = after_drop segs in
      let dropped : IsGoneAlike segs behind = drop_gone segs sound alone in
      record {
        stale = stale_gone segs;
        refused = λ ask cause armed. close_gone behind ask cause ∙ dropped;
        opened = λ ask run armed fresh. open_gone behind ask run ∙ dropped;
        freed = λ from number. freed_gone behind from number ∙ dropped;
      }

  round_gone : IsSound segs → (acks : List ℕ) → HoldsInRound (IsGoneAlike segs) acks segs
  round_gone sound acks = record { cancelled = λ cause its. cancel_gone segs sound cause; agreed = agree_gone segs sound acks }

  catching_gone : (one : Caught) → IsGoneAlike segs (after_catching 0 one segs)
  catching_gone one = catching_holds (IsGoneAlike segs) segs refl (λ call addr got. refl) one

  alone_gone : (one : Caught) (mid : SegsView) → IsSound mid → IsGoneAlike segs mid → HoldsAlone (IsGoneAlike segs) one mid
  alone_gone one mid sound beside = record {
    cancelled = λ cause its. cancel_gone mid sound cause ∙ beside;
    agreed = λ generation none mapped. agree_gone mid sound (replicate 16 generation) ∙ beside;
  }

-- participant 0 has caught up, or failed to
caught_gone : (core : Core) (segs : SegsView) (one : Caught) (now : ℕ) → IsSound segs
    → IsGoneAlike segs (caught_in core segs one now core.phase).segs
caught_gone core segs one now sound =
    let mid = after_catching 0 one segs in
    let notes = catches_note 0 one segs sound.places.primary in
    let kept : IsSound mid = moves_keep is_log_call 0 segs mid sound notes.moved in
    caught_holds (IsGoneAlike segs) core segs one now core.phase refl (catching_gone segs one)
    (alone_gone segs one mid kept (catching_gone segs one))

-- each step
pub step_gone : (denial : ℕ → ℕ → Option (List ℕ × ℕ)) (event : CoreEvent) (core : Core) (segs : SegsView) → IsSound segs
    → IsGoneAlike segs (stepped denial event core segs).segs
step_gone denial (Grow ask) core segs sound =
    came_holds (IsGoneAlike segs) denial segs refl (starts_gone segs sound) (want.Grow ask) core
step_gone denial (Shrink from number) core segs sound =
    came_holds (IsGoneAlike segs) denial segs refl (starts_gone segs sound) (want.Shrink from number) core
step_gone denial (SelfMapped caught now) core segs sound = caught_gone core segs caught now sound
step_gone denial (Poll now acks) core segs sound =
    poll_holds (IsGoneAlike segs) denial core segs now acks core.phase refl (starts_gone segs sound) (round_gone segs sound acks)
