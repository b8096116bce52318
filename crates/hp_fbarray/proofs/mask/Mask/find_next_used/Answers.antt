use Rattle.std.proofs.Common.{arith}
use Rattle.hp_fbarray.proofs.Scans.{HasNoUsed-behind}
use Rattle.hp_fbarray.proofs.mask.Mask.find_next_used.Goals as goal

pub returns-else-place-len-clause-none : goal.returns-else-place-len-clause-none
returns-else-place-len-clause-none c =
    let next = rw c.len-len.ensures.len at c.next-place.ensures in
    rw (← c.self.view_is) (HasNoUsed-behind _ _ _ next (omega arith))
