use Rattle.hp_freelist.proofs.BitLemmas.{is_last}
use Rattle.hp_freelist.proofs.heads.Heads.last.Goals as goal

pub returns-else-self-eq0-clause-last : goal.returns-else-self-eq0-clause-last
returns-else-self-eq0-clause-last c =
    rw (← c.self.view_is) (is_last c.self.inside.firsts c.self.inside.filled c.self.invariant c.ilog2.result c.ilog2.ensures.power_le c.ilog2.ensures.next_power_gt c.ilog2.ensures.bound)
