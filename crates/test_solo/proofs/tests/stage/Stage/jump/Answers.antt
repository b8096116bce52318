-- A pause is a note of participant 0, and the clock's reading: the stage is as it was.
use Rattle.std.proofs.Common.{◌≡◌, false, None, refl, sym, subst}
use Rattle.hp_plain.specs.Course.{IsCourse}
use Rattle.hp_plain.specs.HallSteps.{after_pause}
use Rattle.hp_plain.specs.HallView.{HallView}
use Rattle.test_solo.proofs.StageLemmas.{IsStagedWith, staged_on}
use Rattle.test_solo.proofs.tests.stage.Stage.jump.Goals as goal

pub invariant_of-self : goal.invariant_of-self
invariant_of-self c =
    let old = c.self.inside.hall in
    let paused = after_pause 0 false None c.args.reading old in
    subst (λ (hall : HallView). IsStagedWith hall c.self.inside.primary c.self.inside.secondary) (sym c.pause.ensures.hall)
    (staged_on old paused c.self.inside.primary c.self.inside.secondary (subst (IsCourse old) c.pause.ensures.hall c.pause.ensures.course)
    (λ number home. home) (λ who. refl) (λ who. refl) (λ who heap. refl) c.self.invariant)
