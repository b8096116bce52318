use Rattle.std.proofs.Common.{◌-◌}
use Rattle.hp_heap.proofs.finding.head_at.Given as goal

abbrev pub decreases-loop-class : goal.decreases-loop-class
decreases-loop-class l = 13 - l.class
