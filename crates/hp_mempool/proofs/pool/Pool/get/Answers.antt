use Rattle.hp_mempool.proofs.PassLaws.{gets_same}
use Rattle.hp_mempool.proofs.pool.Pool.get.Goals as goal

pub returns-clause-same : goal.returns-clause-same
returns-clause-same g c = gets_same c.args.pass.now c.next_number.new.pass c.in_ok-number.number c.in_ok-number.ensures.got
