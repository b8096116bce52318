use Rattle.std.proofs.Common.{refl}
use Rattle.hp_view.specs.Outcome.IsWritten.{whole, front}
use Rattle.hp_view.proofs.top_call.written.Goals as goal

pub returns-in-Ok : goal.returns-in-Ok
returns-in-Ok g c = whole c.in-Ok.ensures.ok

pub returns-in-Err : goal.returns-in-Err
returns-in-Err g c = front c.in-Err.ensures.err (c.in-Err.ensures.cause.rose refl)
