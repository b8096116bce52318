use Rattle.test_solo.proofs.Callers.{stage_joins, stage_marks, stage_owns}
use Rattle.test_solo.proofs.StageLemmas.{staged_on}
use Rattle.test_solo.proofs.tests.stage.Stage.post.Goals as goal

pub invariant_of-self : goal.invariant_of-self
invariant_of-self c =
    let stays = c.post.ensures.stays in
    staged_on c.self.inside.hall c.post.new.self c.self.inside.primary c.self.inside.secondary c.post.ensures.goes_on stays.slots.home
    (stage_owns c.self.inside.hall c.post.new.self stays) (stage_joins c.self.inside.hall c.post.new.self stays)
    (stage_marks c.self.inside.hall c.post.new.self stays) c.self.invariant
