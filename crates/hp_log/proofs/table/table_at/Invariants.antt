-- The table of the records so far.
use Rattle.std.proofs.Common.{◌≡◌, take}
use Rattle.hp_log.specs.Log.{table_of}
use Rattle.hp_log.proofs.table.table_at.Given as goal

abbrev pub invariant-loop-place : goal.invariant-loop-place
invariant-loop-place l = l.rows.items ≡ table_of (take l.place l.first)
