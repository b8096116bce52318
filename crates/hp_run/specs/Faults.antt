-- Which statuses say that reading or writing failed.
use Rattle.std.specs.Prelude.{Bool, true, false}
use Rattle.hp_base.specs.declared.status.Status.{Status}
use Rattle.hp_base.specs.declared.status.Status.TheVariants as status

-- reading failed
abbrev pub is_read_fault : Status → Bool
is_read_fault status.Ok = false
is_read_fault status.Usage = false
is_read_fault status.BadWorkload = false
is_read_fault status.ReadFault = true
is_read_fault status.WriteFault = false
is_read_fault status.OutOfMemory = false
is_read_fault status.TooLong = false

-- writing failed
abbrev pub is_write_fault : Status → Bool
is_write_fault status.Ok = false
is_write_fault status.Usage = false
is_write_fault status.BadWorkload = false
is_write_fault status.ReadFault = false
is_write_fault status.WriteFault = true
is_write_fault status.OutOfMemory = false
is_write_fault status.TooLong = false
