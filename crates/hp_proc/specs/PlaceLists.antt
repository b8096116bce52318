-- The heaps that a line tries or searches, as a list.
use Rattle.std.specs.Prelude.{List, []}
use Rattle.hp_base.specs.declared.pool_line.PoolLine.{PoolLine}
use Rattle.hp_proc.specs.Contexts.{AreSocketHeaps}
use Rattle.hp_proc.specs.Heaps.{NamedHeap}
use Rattle.hp_proc.specs.declared.place_lists.Places.{Places}
use Rattle.hp_proc.specs.declared.place_lists.Places.TheVariants as places
use Rattle.hp_proc.specs.declared.searched_heap.SearchedHeap.{SearchedHeap}
use Rattle.hp_proc.specs.declared.socket_heap.SocketHeap.{SocketHeap}

-- the heaps that an allocation tries, or in which an element is looked for
abbrev pub place_list : Places → List SearchedHeap
place_list places.Nothing = []
place_list (places.One heaps) = heaps
place_list (places.Several heaps) = heaps.items

-- a heap that has a name, as a place: its index, and the socket whose pages it takes, where it does
abbrev pub place_named : NamedHeap → SearchedHeap
place_named heap = record { index = heap.index; serves = heap.serves }

-- the heaps of the sockets that pool lines name are kept beside the pools
abbrev pub AreKept : List PoolLine → List SocketHeap → Type 0
AreKept pools heaps = AreSocketHeaps pools heaps
