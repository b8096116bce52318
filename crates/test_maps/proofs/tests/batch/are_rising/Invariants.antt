-- Those that are left have to rise after the last one.
use Rattle.std.proofs.Common.{◌≡◌, drop}
use Rattle.test_maps.specs.Batch.{are_rising}
use Rattle.test_maps.proofs.tests.batch.are_rising.Given as goal

abbrev pub invariant-loop-row : goal.invariant-loop-row
invariant-loop-row l = are_rising l.last (drop l.row-index l.rows) ≡ are_rising l.low l.rows
