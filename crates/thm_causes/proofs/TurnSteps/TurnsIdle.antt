-- In a quiet world nobody has anything to do: a turn leaves it quiet.
use Rattle.std.proofs.Common.{◌≡◌, ◌≢◌, ◌∙◌, ◌<◌, ℕ, zero, suc, Bool, List, [], ◌∷◌, length, Some, refl, sym, ap, subst, arith}
use Rattle.std.specs.Prelude.{slice_get}
use Rattle.std.proofs.lemmas.Option.{none-some}
use Rattle.hp_hall.specs.Mail.{MailStep}
use Rattle.hp_plain.specs.Boxes.{box_of}
use Rattle.hp_hall.specs.Measures.{pending_at}
use Rattle.hp_serve.specs.Denials.{Denials}
use Rattle.hp_serve.specs.Falling.{if_moved, own_measure}
use Rattle.hp_serve.specs.Party.{Party}
use Rattle.hp_serve.specs.Waiting.{IsTurned}
use Rattle.hp_solo.specs.Sequence.{Sequence}
use Rattle.hp_solo.specs.Solo.{SoloView}
use Rattle.thm_causes.specs.RoundTrip.{IsSetting, Setting, RunState}
use Rattle.thm_causes.specs.Quiet.{IsQuietOwing, IsQuietState}
use Rattle.thm_causes.specs.Lines.{TurnsInQuiet}
use Rattle.thm_causes.specs.Servings.{CoreServes, MemberServes}
use Rattle.thm_causes.specs.Shared.{Shared}
use Rattle.thm_causes.specs.Stages.{world_with}
use Rattle.thm_causes.specs.Waits.{AreServingsKnown, LeadsTo, core_in, measure_in}
use Rattle.thm_causes.specs.RunStates.{IsRunStateOf}
use Rattle.thm_causes.proofs.Said.{set_same}
use Rattle.thm_causes.proofs.TurnSteps.TurnsAll.{all_serve}
use Rattle.thm_causes.proofs.TurnSteps.TurnsMembers.{box_empty}
use Rattle.thm_causes.proofs.TurnSteps.TurnsOnward.{pause_on}
use Rattle.thm_causes.proofs.TurnSteps.TurnsPause.{at_clock, owing_at}
use Rattle.thm_causes.proofs.TurnSteps.TurnsSequence.{cut_in}
use Rattle.thm_causes.proofs.TurnSteps.TurnsServings.{ServedTo}
use Rattle.thm_causes.proofs.TurnSteps.TurnsVisits.{AreOn}
use Rattle.thm_causes.proofs.IdleServings.{DidNothing, IsIdleCore, core_idle, member_idle}
use Rattle.thm_causes.proofs.AskStages.AsksWeights.{empty_weigh, idle_weighs}

-- WHAT A QUIET WORLD WEIGHS

-- A QUIET WORLD STAYS SO

module _ (set : Setting) (setting : IsSetting set) (me : ℕ) where
  -- participant 0 is there
  first_party : (parties : List Party) → 0 < length parties → (primary : Party) × (slice_get parties 0 ≡ Some primary)
  first_party [] some = absurd (omega arith)
  first_party (first ∷ parties) some = (first, refl)

  quiet_core : (world : RunState) → IsQuietState set world → (primary : Party) → slice_get world.parties 0 ≡ Some primary → IsIdleCore primary.core
  quiet_core world quiet primary found =
      let idle = quiet.idle primary found in
      record { its = idle.0; there = idle.1; phase = idle.3; held = idle.4 }

  quiet_boxes : (world : RunState) → IsQuietState set world → (who : ℕ) → box_of world.shared.boxes who ≡ []
  quiet_boxes world quiet who = box_empty set world who quiet.base (quiet.empty who)

  pub quiet_weighs : (world : RunState) → IsQuietState set world → measure_in world ≡ 0
  quiet_weighs world quiet =
      let first = first_party world.parties (omega (arith, quiet.base.parties, setting.some)) in
      let idle = quiet_core world quiet first.0 first.1 in
      let core : core_in (slice_get world.parties 0) ≡ Some idle.its = ap core_in first.1 ∙ idle.there in
      let own : own_measure 1 (pending_at world.shared.clock) (core_in (slice_get world.parties 0)) ≡ 0 =
      ap (own_measure 1 (pending_at world.shared.clock)) core ∙ idle_weighs (pending_at world.shared.clock) idle.its idle.phase idle.held in
      omega (arith, own, empty_weigh world.shared.boxes (quiet_boxes world quiet))

  same_world : (world : RunState) (who : ℕ) (at : Shared) (party after : Party) → slice_get world.parties who ≡ Some party → at ≡ world.shared
      → after ≡ party → world_with at world.mail who after world ≡ world
  same_world world who at party after there same stays =
      ap (λ (at : Shared). world_with at world.mail who after world) same
      ∙ ap (λ (after : Party). world_with world.shared world.mail who after world) stays
      ∙ ap (λ (parties : List Party). record { shared = world.shared; mail = world.mail; parties = parties }) (set_same world.parties who party there)

  nothing_served : (owes : Bool) (who : ℕ) (moved : Bool) (world : RunState) (at : Shared) (party after : Party) → IsQuietOwing set owes world
      → slice_get world.parties who ≡ Some party → DidNothing world.shared at party after moved
      → ServedTo (λ who world. IsQuietOwing set owes world) who moved world at after
  nothing_served owes who moved world at party after owing there did =
      let same = same_world world who at party after there did.same did.stays in
      record {
        mail = world.mail;
        during = subst (IsQuietOwing set owes) (sym same) owing;
        lighter = omega (arith, ap measure_in same, ap if_moved did.still);
        rests = λ still. (did.same, ap (λ (at : Shared). box_of at.boxes who) did.same ∙ quiet_boxes world owing.quiet who);
      }

  does_nothing : (denies : Denials) (who : ℕ) (moved : Bool) (world : RunState) (at : Shared) (party after : Party) → IsQuietState set world
      → slice_get world.parties who ≡ Some party → (who ≡ 0 → CoreServes denies set.count world.shared at party after moved)
      → (who ≢ 0 → MemberServes world.shared at party after moved) → DidNothing world.shared at party after moved
  does_nothing denies zero moved world at party after quiet there core member =
      core_idle set.count world.shared at party after moved (core refl)
      (quiet_boxes world quiet party.me) (quiet_core world quiet party there)
  does_nothing denies (suc who) moved world at party after quiet there core member =
      member_idle world.shared at party after moved (member (λ (same : suc who ≡ 0). omega arith)) (quiet_boxes world quiet party.me)

  -- nothing is served in it, so what was given up stays as well
  pub quiet_on : (owes : Bool) → AreOn set me (λ who world. IsQuietOwing set owes world)
  quiet_on owes = record {
    setting = setting;
    base = λ who world owing. owing.quiet.base;
    light = λ who world owing. omega (arith, quiet_weighs world owing.quiet);
    serves = λ denies who moved world at party after owing there core member.
        nothing_served owes who moved world at party after owing there
        (does_nothing denies who moved world at party after owing.quiet there core member);
    passes = λ who hall party world apart its owing none. owing;
  }

-- a turn of a wait leads from a quiet world to a quiet one
pub quiet_turn : AreServingsKnown → (denies : Denials) (set : Setting) (until me : ℕ) (owes : Bool) (old new : SoloView)
    (party after : Party) (moved : Bool)
    (steps : List MailStep) (world : RunState) → IsSetting set → IsRunStateOf old me party world → IsQuietOwing set owes world
    → Sequence me old steps new → IsTurned denies set.count until party after steps (Some moved)
    → LeadsTo (IsQuietOwing set owes) new me after
quiet_turn known denies set until me owes old new party after moved steps world setting its owing sequence (IsTurned.stops served is) =
    absurd (none-some moved (sym is))
quiet_turn known denies set until me owes old new party after moved steps world setting its owing sequence
    (IsTurned.ends any served paused have pauses did is) =
    let cut = cut_in me old new steps served paused did sequence in
    let all =
    all_serve known set me (λ who world. IsQuietOwing set owes world)
    (quiet_on set setting me owes) denies old cut.mid party after served any
    world its owing cut.begins have in
    let behind = pause_on known me until cut.mid new after paused any all.world all.its cut.ends pauses in
    record { world = at_clock behind.now all.world; its = behind.its; holds = owing_at set owes behind.now all.world all.during }

-- so it is whatever the clock says
pub turns_in_quiet : TurnsInQuiet
turns_in_quiet known denies set until me owes old new party after moved steps world setting its owing early sequence turned =
    quiet_turn known denies set until me owes old new party after moved steps world setting its owing sequence turned
