-- The rows of the first n slots are there.
use Rattle.std.proofs.Common.{◌≡◌, ◌++◌}
use Rattle.std.specs.Prelude.{vec_capacity}
use Rattle.hp_log.specs.Rows.{rows_below}
use Rattle.hp_maps.proofs.row_list.with_run.Given as goal

abbrev pub invariant-loop-n : goal.invariant-loop-n
invariant-loop-n l = record {
  items : l.rows.items ≡ l.initial.rows.items ++ rows_below l.of.1 l.of.0 l.n;
  memory : vec_capacity l.rows ≡ vec_capacity l.initial.rows;
}
