-- What is left of the ranges leads to the same row.
use Rattle.std.proofs.Common.{◌≡◌, drop, map}
use Rattle.std.specs.List.{fold}
use Rattle.hp_segs.specs.Ranges.{lower_shared, range_entry}
use Rattle.hp_segs.specs.SegsView.{rows_in}
use Rattle.hp_segs.proofs.segs.ranges.shared_in_ranges.Given as goal

abbrev pub invariant-loop-range : goal.invariant-loop-range
invariant-loop-range l =
    fold (lower_shared (rows_in l.table.segments) l.addr l.len) l.fn.found (map range_entry l.ranges)
    ≡ fold (lower_shared (rows_in l.table.segments) l.addr l.len) l.lowest (map range_entry (drop l.range-index l.ranges))
