-- The slots of the pools so far.
use Rattle.std.proofs.Common.{◌≡◌, sum_by, take}
use Rattle.hp_segs.proofs.table.Table.slots.Given as goal

abbrev pub invariant-loop-line : goal.invariant-loop-line
invariant-loop-line l = l.slots ≡ sum_by (λ line. line.slots) (take l.line-index l.line-items)
