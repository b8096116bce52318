use Rattle.hp_mempool.proofs.PoolSteps.{begins}
use Rattle.hp_mempool.proofs.filling.filled.Goals as goal

pub ruled-requires-clause-rule : goal.ruled-requires-clause-rule
ruled-requires-clause-rule c = begins
