use Rattle.std.proofs.Common.{◌-◌, length}
use Rattle.hp_fbarray.proofs.Scans.{SeeksRun}
use Rattle.hp_fbarray.proofs.runs.search.Given as goal

abbrev pub invariant-loop-place : goal.invariant-loop-place
invariant-loop-place l = SeeksRun l.places l.from l.n l.longest l.place

abbrev pub decreases-loop-place : goal.decreases-loop-place
decreases-loop-place l = length l.places - l.place
