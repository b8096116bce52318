-- The list is among the ranges that are left.
use Rattle.std.proofs.Common.{◌≡◌, ◌==◌, drop}
use Rattle.std.specs.List.{list_any}
use Rattle.hp_segs.proofs.segs.ranges.has_list.Given as goal

abbrev pub invariant-loop-range : goal.invariant-loop-range
invariant-loop-range l =
    list_any (λ range. range.list == l.list) l.ranges ≡ list_any (λ range. range.list == l.list) (drop l.range-index l.ranges)
