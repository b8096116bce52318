-- The rows so far.
use Rattle.std.proofs.Common.{◌≡◌, take}
use Rattle.hp_events.proofs.rows_then.RowsThen.of.Given as goal

abbrev pub invariant-loop-row : goal.invariant-loop-row
invariant-loop-row l = l.then ≡ take l.row-index l.rows
