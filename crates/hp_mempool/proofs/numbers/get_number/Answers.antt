use Rattle.hp_mempool.proofs.PoolSteps.{may_get, may_learn}
use Rattle.hp_mempool.proofs.numbers.get_number.Goals as goal

pub pop_as-requires-clause-rule : goal.pop_as-requires-clause-rule
pop_as-requires-clause-rule g c = (may_get _ _ c.requires.total.some, may_learn _ _ c.requires.total.some)
