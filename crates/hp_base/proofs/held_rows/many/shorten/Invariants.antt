-- The rows so far are out of the front of the run.
use Rattle.std.proofs.Common.{◌≡◌, ◌++◌, take}
use Rattle.hp_base.specs.HeldRows.{IsRun, rows_of}
use Rattle.hp_base.proofs.held_rows.many.shorten.Given as goal

abbrev pub invariant-loop-at : goal.invariant-loop-at
invariant-loop-at l = record {
  rows : rows_of l.initial.run ≡ take l.at l.rows ++ rows_of l.run;
  run : IsRun l.run;
}
