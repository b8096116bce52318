use Rattle.std.proofs.Common.{arith}
use Rattle.hp_freelist.proofs.BitLemmas.{none_from, is_next}
use Rattle.hp_freelist.proofs.heads.Heads.next_from.Goals as goal

pub returns-then-rest-eq0-clause-none : goal.returns-then-rest-eq0-clause-none
returns-then-rest-eq0-clause-none c =
    rw (← c.self.view_is) (none_from c.self.inside.filled c.args.class c.requires c.self.inside.firsts c.self.invariant c.if-rest-eq0.true)

pub returns-else-rest-eq0-clause-next : goal.returns-else-rest-eq0-clause-next
returns-else-rest-eq0-clause-next c =
    rw (← c.self.view_is) (is_next c.self.inside.filled c.args.class c.requires c.self.inside.firsts c.self.invariant (omega arith) (omega (arith, c.if-rest-eq0.false)))
