use Rattle.hp_elem.proofs.ChainLemmas.{linked_roomier}
use Rattle.hp_elem.proofs.chain.Chain.reserve.Goals as goal

pub invariant_of-self : goal.invariant_of-self
invariant_of-self c = rw c.reserve.ensures.rest_kept (linked_roomier c.self.inside.slots c.reserve.new.self.capacity c.self.inside.first c.self.inside.last c.self.invariant)
