use Rattle.std.proofs.Common.{refl}
use Rattle.hp_run.specs.Outcome.IsPut.{whole, front}
use Rattle.hp_run.proofs.writing.written.Goals as goal

pub returns-in-Ok-clause-written : goal.returns-in-Ok-clause-written
returns-in-Ok-clause-written g c = whole c.in-Ok.ensures.ok

pub returns-in-Err-clause-written : goal.returns-in-Err-clause-written
returns-in-Err-clause-written g c = front c.in-Err.ensures.err (c.in-Err.ensures.cause.rose refl)
