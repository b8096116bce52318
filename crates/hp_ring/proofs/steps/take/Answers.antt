use Rattle.hp_ring.proofs.RingSteps.{may_take, may_learn}
use Rattle.hp_ring.proofs.steps.take.Goals as goal

pub pop_as-requires-clause-rule : goal.pop_as-requires-clause-rule
pop_as-requires-clause-rule g c = (may_take _ _ c.requires.takes, may_learn _ _)
