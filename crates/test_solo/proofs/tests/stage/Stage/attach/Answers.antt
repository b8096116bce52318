-- Participant 1 does its line, and participant 0 stays as it was.
use Rattle.std.proofs.Common.{◌≡◌, ◌∙◌, ℕ, refl, sym, subst, arith}
use Rattle.hp_plain.specs.HallView.{joined_in}
use Rattle.test_solo.proofs.Callers.{stage_can}
use Rattle.hp_serve.proofs.SegmentSlots.{may_hold}
use Rattle.test_solo.proofs.StageLemmas.{attached_notes, staged_attached}
use Rattle.test_solo.proofs.tests.stage.Stage.attach.Goals as goal

pub do_attach-requires : goal.do_attach-requires
do_attach-requires c =
    let is = c.self.invariant.0 in
    let number = is.3.number in
    let can = stage_can c.self.inside.hall 1 c.self.inside.secondary.party is.0 (omega arith) is.1 is.3 in
    let attached =
    subst (λ (n : ℕ). joined_in c.self.inside.hall n ≡ c.self.inside.secondary.context.standing.attached) (sym number) c.self.invariant.1 in
    record { act = refl; secondary = omega (arith, number); may = record { may = may_hold can.may; tied = can.tied; attached = attached } }

pub invariant_of-self : goal.invariant_of-self
invariant_of-self c =
    staged_attached c.self.inside.hall c.do_attach.new.hall c.self.inside.primary c.self.inside.secondary c.do_attach.new.self c.do_attach.ensures.goes_on
    c.do_attach.ensures.changes
    (attached_notes _ _ c.do_attach.result _ c.self.inside.secondary c.do_attach.new.self _ _ refl c.do_attach.ensures.does c.do_attach.ensures.err
    ∙ c.self.invariant.2.0)
    c.self.invariant
