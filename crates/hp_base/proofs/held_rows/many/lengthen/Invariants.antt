-- The run is longer by the rows so far.
use Rattle.std.proofs.Common.{◌≡◌, ◌++◌, take}
use Rattle.hp_base.specs.HeldRows.{IsRun, rows_of}
use Rattle.hp_base.proofs.held_rows.many.lengthen.Given as goal

abbrev pub invariant-loop-at : goal.invariant-loop-at
invariant-loop-at l = record {
  rows : rows_of l.run ≡ rows_of l.initial.run ++ take l.at l.rows;
  run : IsRun l.run;
}
