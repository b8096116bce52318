use Rattle.hp_ring.proofs.RingSteps.{may_learn}
use Rattle.hp_ring.proofs.steps.see_empty.Goals as goal

pub is_empty_as-requires-clause-rule : goal.is_empty_as-requires-clause-rule
is_empty_as-requires-clause-rule g c = may_learn _ _
