use Rattle.hp_ring.proofs.RingSteps.{may_deal}
use Rattle.hp_ring.proofs.dealing.next_token.Goals as goal

pub another-requires-clause-rule : goal.another-requires-clause-rule
another-requires-clause-rule c = may_deal _ _ c.requires.left.senders c.requires.left.deals
