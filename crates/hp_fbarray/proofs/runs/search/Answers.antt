use Rattle.std.proofs.Common.{arith}
use Rattle.hp_fbarray.proofs.Scans.{IsFirstFreeRun-stretch, SeeksRun-stretch, IsTooShort-at_end}
use Rattle.hp_fbarray.proofs.runs.search.Goals as goal

pub returns-then-place-start-clause-found : goal.returns-then-place-start-clause-found
returns-then-place-start-clause-found c =
    let clear = rw c.len-len.ensures.len at c.next-start.ensures in
    let used = rw (c.min.ensures, c.len-len.ensures.len) at c.next-place.ensures in
    IsFirstFreeRun-stretch _ _ _ _ _ _ _ c.loop-place.invariant clear used c.if-place-start.true

pub loop-place-preserved : goal.loop-place-preserved
loop-place-preserved c =
    let clear = rw c.len-len.ensures.len at c.next-start.ensures in
    let used = rw (c.min.ensures, c.len-len.ensures.len) at c.next-place.ensures in
    rw c.max-longest.ensures
    (SeeksRun-stretch _ _ _ _ _ _ _ c.loop-place.invariant clear used c.if-place-start.false)

pub returns-clause-short : goal.returns-clause-short
returns-clause-short c = IsTooShort-at_end _ _ _ _ _ c.loop-place.invariant (omega arith)
