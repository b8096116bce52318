-- The rows of the first n slots are there.
use Rattle.std.proofs.Common.{◌≡◌, ◌++◌}
use Rattle.hp_log.specs.Rows.{rows_below}
use Rattle.hp_log.proofs.table.push_rows.Given as goal

abbrev pub invariant-loop-n : goal.invariant-loop-n
invariant-loop-n l = l.rows.items ≡ l.initial.rows.items ++ rows_below l.run l.generation l.n
