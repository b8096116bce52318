-- What is left of the lists leads to the same row.
use Rattle.std.proofs.Common.{◌≡◌, drop, None}
use Rattle.std.specs.List.{enumerate_from, fold}
use Rattle.hp_segs.specs.Lists.{lists_of}
use Rattle.hp_segs.specs.Ranges.{lower_shared}
use Rattle.hp_segs.specs.SegsView.{rows_in}
use Rattle.hp_segs.proofs.segs.ranges.shared_in_pools.Given as goal

abbrev pub invariant-loop-place : goal.invariant-loop-place
invariant-loop-place l =
    fold (lower_shared (rows_in l.table.segments) l.addr l.len) None (enumerate_from 0 (lists_of l.table.pools))
    ≡ fold (lower_shared (rows_in l.table.segments) l.addr l.len) l.lowest (enumerate_from l.place (drop l.place (lists_of l.table.pools)))
