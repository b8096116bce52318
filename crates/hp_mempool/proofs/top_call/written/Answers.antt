use Rattle.std.proofs.Common.{refl}
use Rattle.hp_mempool.proofs.OutcomeLemmas.{put_whole}
use Rattle.hp_mempool.proofs.top_call.written.Goals as goal

pub returns-in-Ok-clause-outcome : goal.returns-in-Ok-clause-outcome
returns-in-Ok-clause-outcome g c = put_whole _ _ _ _ c.args.status c.requires c.in-Ok.ensures.ok

pub returns-in-Err-clause-outcome : goal.returns-in-Err-clause-outcome
returns-in-Err-clause-outcome g c = (c.in-Err.ensures.err, c.in-Err.ensures.cause.rose refl)
