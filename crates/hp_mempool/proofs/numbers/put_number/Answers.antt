use Rattle.crossbeam_queue.specs.Passes.{view}
use Rattle.hp_mempool.proofs.PoolSteps.{may_learn, may_put, no_room}
use Rattle.hp_mempool.proofs.numbers.put_number.Goals as goal

pub push_as-requires-clause-rule : goal.push_as-requires-clause-rule
push_as-requires-clause-rule g c = (may_put _ _ c.requires.total.some _ c.args.number c.requires.has, may_learn _ _ c.requires.total.some)

-- the queue would have a number too many
pub unreachable-requires : goal.unreachable-requires
unreachable-requires g c =
    let held = c.in_default.ensures.rule.2 in
    no_room (view c.args.token.now) _ c.args.number c.requires.total.total c.requires.has held.0 held.1 held.2
