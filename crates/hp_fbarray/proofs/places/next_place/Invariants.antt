use Rattle.std.proofs.Common.{◌-◌}
use Rattle.hp_fbarray.proofs.PlaceSteps.{SeeksPlace}
use Rattle.hp_fbarray.proofs.places.next_place.Given as goal

abbrev pub invariant-loop-place : goal.invariant-loop-place
invariant-loop-place l = SeeksPlace l.words l.from l.place l.used

abbrev pub decreases-loop-place : goal.decreases-loop-place
decreases-loop-place l = l.end - l.place
