-- A step that logs at most a stale outcome: what holds at every moment stays, and where it is taken a stage is come to.
use Rattle.std.proofs.Common.{◌≡◌, ℕ, ◌-◌, true, Some, inl, refl, sym, ap, subst, arith}
use Rattle.std.specs.Prelude.{slice_get}
use Rattle.hp_base.specs.declared.plan_entry.MsgKind.TheVariants as message
use Rattle.hp_core.specs.Core.{Core}
use Rattle.hp_core.specs.declared.asked.Asked.{Asked}
use Rattle.hp_core.specs.declared.asked.Asked.TheVariants as want
use Rattle.hp_segs.specs.Standing.{IsArmed}
use Rattle.hp_segs.specs.SegsView.{SegsView}
use Rattle.hp_segs.specs.Sound.{IsSound}
use Rattle.hp_segs.specs.declared.ask.Ask.{Ask}
use Rattle.hp_serve.specs.Coordinating.{with_core}
use Rattle.hp_serve.specs.Party.{Party}
use Rattle.hp_serve.specs.declared.sent.Sent.{Sent}
use Rattle.thm_causes.specs.Counting.{lost_among}
use Rattle.thm_causes.specs.RoundTrip.{HasRoomBack, IsBase, MayBeTakenBack, MayMissOne, Setting, AskPhase, RunState}
use Rattle.thm_causes.specs.Shared.{Shared, with_segs}
use Rattle.thm_causes.specs.Stages.{ComesTo}
use Rattle.thm_causes.proofs.CopyStages.CopiesAlong.{IsAlong, IsLike}
use Rattle.thm_causes.proofs.CopyStages.CopiesSet.{along_set, base_set}
use Rattle.thm_causes.proofs.CopyStages.CopiesTaken.{IsTaken}
use Rattle.thm_causes.proofs.PollSteps.PollingGoes.{came_of, goes, with_core_same}
use Rattle.thm_causes.proofs.Told.{notices_lost_same, unanswered_fewer}

module _ (set : Setting) (world : RunState) (primary : Party) (next : Core) (segs : SegsView) (base : IsBase set world)
    (there : slice_get world.parties 0 ≡ Some primary) (like : IsLike world.shared.segs segs) where
  pub goes_along : IsAlong world (goes world primary next segs)
  goes_along =
      along_set set world segs world.shared.boxes world.mail primary (with_core next primary) there (with_core_same next primary) like
      (λ who apart. refl) (inl refl)

  pub goes_base : IsSound segs → (IsArmed world.shared.segs → IsArmed segs) → IsBase set (goes world primary next segs)
  goes_base sound armed =
      base_set set world segs world.shared.boxes world.mail primary (with_core next primary) there
      (with_core_same next primary) like goes_along
      base refl refl base.said sound (armed base.armed)

  back_grown : (ask : Ask) → HasRoomBack set ask.from world → HasRoomBack set ask.from (goes world primary next segs)
  back_grown ask may party found =
      let came = came_of world primary next segs there ask.from party found in
      let same : lost_among set.plan message.Alloc ask.from party.sent.allocs ≡ lost_among set.plan message.Alloc ask.from
      came.its.sent.allocs =
      ap (λ (sent : Sent). lost_among set.plan message.Alloc ask.from sent.allocs) came.same.sent in
      omega (arith, like.withdrawn ask.from, may came.its came.there, same)

  -- there is still room for one more without an outcome
  misses_still : (who number : ℕ) → MayMissOne set who number world → MayMissOne set who number (goes world primary next segs)
  misses_still who number may party found =
      let came = came_of world primary next segs there who party found in
      let lost =
      notices_lost_same set who came.its party (ap (λ (sent : Sent). sent.frees) came.same.sent) in
      let fewer =
      unanswered_fewer (want.Shrink who number) who world.shared.segs.asks segs.asks (like.heard (want.Shrink who number) who) (number - 1) in
      omega (arith, may came.its came.there, fewer, lost)

  -- an ask that was lost may still be taken back
  pub goes_back : (call : Asked) → MayBeTakenBack set call world → MayBeTakenBack set call (goes world primary next segs)
  goes_back (want.Grow ask) may = back_grown ask may
  goes_back (want.Shrink from number) may = misses_still from number may

  -- where the step is taken, it comes to that stage
  pub comes_taken : (call : Asked) (sent : ℕ) (shared : Shared) (after : Party) → IsTaken segs next world.shared shared primary after
      → AskPhase set call sent true (goes world primary next segs) → ComesTo set call sent true world 0 shared after
  comes_taken call sent shared after taken stage =
      subst (λ (one : Shared). ComesTo set call sent true world 0 one after) (sym taken.shared)
      (subst (λ (one : Party). ComesTo set call sent true world 0 (with_segs segs world.shared) one) (sym taken.after_is)
      (record { mail = world.mail; base = goes_base taken.sound taken.armed; stage = stage }))
