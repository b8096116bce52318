-- Behind the runs so far there are empty ones alone.
use Rattle.std.proofs.Common.{◌≡◌, ◌-◌, length, take}
use Rattle.hp_base.specs.HeldRows.{rows_in}
use Rattle.hp_base.proofs.held_rows.taking.end_of.Given as goal

abbrev pub invariant-loop-gaps : goal.invariant-loop-gaps
invariant-loop-gaps l = rows_in (take (length l.runs - l.gaps) l.runs) ≡ rows_in l.runs
