-- Where what a heap keeps is. No public clause cites this module.
use Rattle.std.specs.Prelude.{ℕ, [], Option}
use Rattle.std.specs.Box.{with_value}
use Rattle.hp_heap.specs.History.{HeapView}
use Rattle.hp_heap.specs.Lists.{free_lists}
use Rattle.hp_heap.specs.PlainHeap.{opening_heap}
use Rattle.hp_heap.specs.declared.heap.Place.{Place}
use Rattle.hp_heap.specs.declared.heap.Place.TheVariants.{Nowhere, Made}

-- a heap before its first call
abbrev pub opening_view : ℕ → Option ℕ → HeapView
opening_view index serves = record { plain = opening_heap index serves; lists = free_lists (opening_heap index serves); history = []; spare = 0 }

-- the heap that is in the box, and the one before its first call where there is no box yet
abbrev pub heap_at : Place → HeapView
heap_at (Nowhere index serves) = opening_view index serves
heap_at (Made body) = body.value

-- a place whose heap is another
abbrev pub place_with : Place → HeapView → Place
place_with (Nowhere index serves) heap = Nowhere index serves
place_with (Made made) heap = Made (with_value made heap)
