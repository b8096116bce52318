use Rattle.std.proofs.Common.{◌≡◌, ◌++◌, length}
use Rattle.hp_elem.specs.Items.{Items}
use Rattle.hp_heap.specs.Headers.{spans_of}
use Rattle.hp_heap.specs.Walk.{IsPassed, rest_from}
use Rattle.hp_heap.proofs.elements.append.Given as goal

abbrev pub invariant-loop-next : goal.invariant-loop-next
invariant-loop-next l = (passed : Items) × IsPassed l.headers.items l.next passed × (l.out.items ≡ l.fn.out.items ++ spans_of passed)

abbrev pub decreases-loop-next : goal.decreases-loop-next
decreases-loop-next l = length (rest_from l.next l.headers.items)
