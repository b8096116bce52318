-- The range is among those that are left.
use Rattle.std.proofs.Common.{◌≡◌, drop}
use Rattle.std.specs.List.{find}
use Rattle.hp_segs.specs.Ranges.{range_contains}
use Rattle.hp_segs.proofs.segs.Segs.external_row.Given as goal

abbrev pub invariant-loop-range : goal.invariant-loop-range
invariant-loop-range l =
    find (range_contains l.addr) l.range-items ≡ find (range_contains l.addr) (drop l.range-index l.range-items)
