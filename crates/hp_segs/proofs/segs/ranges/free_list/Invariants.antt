-- The number is among those that are left.
use Rattle.std.proofs.Common.{◌≡◌, ◌-◌}
use Rattle.std.specs.List.{find, range_with_len}
use Rattle.hp_segs.specs.Ranges.{is_free_number}
use Rattle.hp_segs.proofs.segs.ranges.free_list.Given as goal

abbrev pub invariant-loop-list : goal.invariant-loop-list
invariant-loop-list l =
    find (is_free_number l.pools l.ranges) (range_with_len 0 128)
    ≡ find (is_free_number l.pools l.ranges) (range_with_len l.list (128 - l.list))
