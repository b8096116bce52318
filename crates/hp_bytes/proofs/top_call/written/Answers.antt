use Rattle.std.proofs.Common.{refl}
use Rattle.hp_bytes.specs.Outcome.IsWritten.{whole, front}
use Rattle.hp_bytes.proofs.top_call.written.Goals as goal

pub returns-in-Ok-clause-written : goal.returns-in-Ok-clause-written
returns-in-Ok-clause-written g c = whole c.in-Ok.ensures.ok

pub returns-in-Err-clause-written : goal.returns-in-Err-clause-written
returns-in-Err-clause-written g c = front c.in-Err.ensures.err (c.in-Err.ensures.cause.rose refl)
