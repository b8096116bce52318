-- The segments of the ranges so far.
use Rattle.std.proofs.Common.{◌≡◌, sum_by, take}
use Rattle.hp_segs.specs.Ranges.{range_segments}
use Rattle.hp_segs.proofs.segs.ranges.segments_of.Given as goal

abbrev pub invariant-loop-range : goal.invariant-loop-range
invariant-loop-range l = l.count ≡ sum_by range_segments (take l.range-index l.ranges)
