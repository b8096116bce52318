-- What is kept beside the outcomes, with the entry.
use Rattle.hp_segs.proofs.SinceLemmas.{kept_push}
use Rattle.hp_segs.proofs.asks.Asks.push.Goals as goal

pub invariant_of-self : goal.invariant_of-self
invariant_of-self c =
    let small = rw c.failure_of.ensures.failure at c.failure_of.ensures.small in
    rw (c.append.ensures.items, c.count_failure.ensures, c.deref_mut.ensures.value, c.failure_of.ensures.failure, c.close.ensures, c.push_reserved.ensures.items)
    (kept_push c.self.inside.entries.items c.self.inside.above.items c.self.inside.closed c.self.inside.failed.value c.args.entry c.self.invariant
    c.requires.participant small)
