use Rattle.std.proofs.Common.{arith}
use Rattle.hp_mempool.proofs.OutcomeLemmas.{few_calls}
use Rattle.hp_mempool.proofs.top_call.calls_of.Goals as goal

pub overflow_mul-result : goal.overflow_mul-result
overflow_mul-result c = let few = few_calls c.args.load.now c.requires in omega (arith, few)
