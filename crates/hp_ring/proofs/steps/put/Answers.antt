use Rattle.hp_ring.proofs.RingSteps.{may_put, may_learn}
use Rattle.hp_ring.proofs.steps.put.Goals as goal

pub push_as-requires-clause-rule : goal.push_as-requires-clause-rule
push_as-requires-clause-rule g c = (may_put _ _ _ c.args.bulk c.requires.one c.requires.from, may_learn _ _)
