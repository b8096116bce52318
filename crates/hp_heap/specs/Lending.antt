-- How what a heap keeps is lent. No public clause cites this module.
use Rattle.std.specs.Borrow.{Fml, Lends, MutBor}
use Rattle.hp_heap.specs.Boxed.{place_with}
use Rattle.hp_heap.specs.History.{HeapView}
use Rattle.hp_heap.specs.contracts.body.Body.{the_row as body_row}
use Rattle.hp_heap.specs.contracts.heap.Heap.{the_row}
use Rattle.hp_heap.specs.contracts.heap.Place.{the_row as place_row}
use Rattle.hp_heap.specs.declared.heap.Place.{Place}

-- what is in the box ends as it is left after the borrow
abbrev pub LendsBody : MutBor HeapView → MutBor HeapView → Fml
LendsBody h r = Lends the_row body_row h r (λ w. w)

-- and so does the place that has it
abbrev pub LendsPlace : MutBor Place → MutBor HeapView → Fml
LendsPlace h r = Lends place_row body_row h r (place_with h.now)
