-- The names that a directory opens with are those of the heaps that open for its sockets.
use Rattle.std.proofs.Common.{◌≡◌, ◌∙◌, ℕ, zero, suc, ◌-◌, List, [], ◌∷◌, ◌++◌, map, length, replicate, Option, Some, None, refl, ap}
use Rattle.std.specs.List.{slice_get}
use Rattle.std.specs.Option.{option_flatten}
use Rattle.hp_base.specs.declared.limits.TheConstants.{MAX_HEAPS}
use Rattle.hp_heap.specs.PlainHeap as heaps
use Rattle.hp_heap.specs.PlainHeap.{opening_heap}
use Rattle.hp_zone.specs.Directory as directories
use Rattle.hp_zone.specs.Directory.{heap_at, opening, socket_heap}
use Rattle.hp_zone.specs.declared.heap_name.HeapName.{HeapName}
use Rattle.hp_hall.specs.AgreedNames.{directory_name}
use Rattle.hp_hall.specs.Naming.{naming_of}

-- what the directory says of the heap of a socket, where it has one
name_by : Option ℕ → Option HeapName
name_by None = None
name_by (Some socket) = socket_heap socket

abbrev no_name : Option HeapName
no_name = None

none_at : (count slot : ℕ) → option_flatten (slice_get (replicate count no_name) slot) ≡ None
none_at zero slot = refl
none_at (suc count) zero = refl
none_at (suc count) (suc slot) = none_at count slot

directory_has : (sockets : List ℕ) (count slot : ℕ)
    → option_flatten (slice_get (map socket_heap sockets ++ replicate count no_name) slot) ≡ name_by (slice_get sockets slot)
unfolding name_by
directory_has [] count slot = none_at count slot
directory_has (socket ∷ sockets) count zero = refl
directory_has (socket ∷ sockets) count (suc slot) = directory_has sockets count slot

-- the name that the heap of a socket opens with is that of the directory
one_name : (socket : ℕ) → directories.socket_name socket ≡ heaps.socket_name socket
unfolding directories.socket_name heaps.socket_name
one_name socket = refl

heap_has : (index : ℕ) (serves : Option ℕ) → name_by serves ≡ directory_name (naming_of (opening_heap index serves))
unfolding name_by naming_of
heap_has index None = refl
heap_has index (Some socket) = ap (λ (name : List ℕ). Some (record { name = name; socket = socket })) (one_name socket)

pub first_name : (sockets : List ℕ) (index : ℕ)
    → heap_at (opening sockets) index ≡ directory_name (naming_of (opening_heap index (slice_get sockets index)))
first_name sockets index = directory_has sockets (MAX_HEAPS - length sockets) index ∙ heap_has index (slice_get sockets index)
