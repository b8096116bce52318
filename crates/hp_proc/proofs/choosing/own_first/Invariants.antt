use Rattle.std.proofs.Common.{take, filter, map, not, ◌++◌, ◌≡◌}
use Rattle.hp_proc.specs.Contexts.{is_of_socket, searched_heap}
use Rattle.hp_proc.proofs.choosing.own_first.Given as goal

abbrev pub invariant-loop-heap : goal.invariant-loop-heap
invariant-loop-heap l = l.places.items ≡ map searched_heap (filter (is_of_socket l.fn.own) (take l.heap-index l.fn.heaps))

abbrev pub invariant-loop-heap-2 : goal.invariant-loop-heap-2
invariant-loop-heap-2 l =
    l.places.items
    ≡ map searched_heap
    (filter (is_of_socket l.fn.own) l.fn.heaps ++ filter (λ heap. not (is_of_socket l.fn.own heap)) (take l.heap-index l.fn.heaps))
