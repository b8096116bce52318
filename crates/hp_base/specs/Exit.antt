-- How a run of the program ends, as the process tells it.
use Rattle.std.specs.Prelude.{ℕ}
use Rattle.hp_base.specs.declared.status.Status.{Status}
use Rattle.hp_base.specs.declared.status.Status.TheVariants.{Ok, Usage, BadWorkload, ReadFault, WriteFault, OutOfMemory, TooLong}

-- the exit status of the process
abbrev pub exit_code : Status → ℕ
exit_code Ok = 0
exit_code Usage = 1
exit_code BadWorkload = 2
exit_code ReadFault = 3
exit_code WriteFault = 4
exit_code OutOfMemory = 5
exit_code TooLong = 6
