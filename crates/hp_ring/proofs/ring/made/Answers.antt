use Rattle.hp_ring.proofs.RingSteps.{begins}
use Rattle.hp_ring.proofs.ring.made.Goals as goal

pub ruled-requires-clause-rule : goal.ruled-requires-clause-rule
ruled-requires-clause-rule c = begins
