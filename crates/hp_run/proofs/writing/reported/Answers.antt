use Rattle.std.proofs.Common.{refl}
use Rattle.hp_run.specs.Outcome.IsPut.{whole, front}
use Rattle.hp_run.specs.Outcome.IsWritten.{put, short}
use Rattle.hp_run.proofs.writing.reported.Goals as goal

pub returns-in-Ok-clause-written : goal.returns-in-Ok-clause-written
returns-in-Ok-clause-written g c = put _ (whole c.in-Ok.ensures.ok)

pub returns-in-Err-WriteFault-clause-written : goal.returns-in-Err-WriteFault-clause-written
returns-in-Err-WriteFault-clause-written g c =
    let counted = rw c.in-Err-WriteFault.field-0-is at c.in-Err-WriteFault.ensures.cause in
    put _ (front c.in-Err-WriteFault.ensures.err (counted.rose refl))

pub returns-in-Err-WriteFault-clause-faults : goal.returns-in-Err-WriteFault-clause-faults
returns-in-Err-WriteFault-clause-faults g c = rw c.in-Err-WriteFault.field-0-is at c.in-Err-WriteFault.ensures.cause

pub returns-in-Err-OutOfMemory-clause-written : goal.returns-in-Err-OutOfMemory-clause-written
returns-in-Err-OutOfMemory-clause-written g c = short c.in-Err-OutOfMemory.ensures.err

pub returns-in-Err-OutOfMemory-clause-faults : goal.returns-in-Err-OutOfMemory-clause-faults
returns-in-Err-OutOfMemory-clause-faults g c = rw c.in-Err-OutOfMemory.field-0-is at c.in-Err-OutOfMemory.ensures.cause
