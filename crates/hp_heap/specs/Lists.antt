-- The thirteen free lists of a heap: the rule "Free lists" of docs/HEAP.md.
use Rattle.std.specs.Prelude.{ℕ, ◌-◌, Bool, ◌&&◌, ◌==◌, nat_lt, List, [], ◌∷◌, map, if◌then◌else◌}
use Rattle.std.specs.List.{filter, range_with_len}
use Rattle.hp_base.specs.Class.{class_number}
use Rattle.hp_base.specs.declared.span.Span.{Span}
use Rattle.hp_heap.specs.PlainHeap.{PlainHeap, is_free, stamp_of}

-- the class of a free element: that of the bytes behind its header
abbrev pub range_class : Span → ℕ
range_class range = class_number (range.whole - 128)

-- whether an element stands on the free list of a class
abbrev pub is_of_class : ℕ → Span → Bool
is_of_class class range = is_free range && (range_class range == class)

-- an element among others by falling stamp
abbrev pub by_falling_stamp : Span → List Span → List Span
by_falling_stamp range [] = range ∷ []
by_falling_stamp range (other ∷ others) =
    if nat_lt (stamp_of range) (stamp_of other) then other ∷ by_falling_stamp range others
    else range ∷ other ∷ others

-- elements by falling stamp
abbrev pub newest_first : List Span → List Span
newest_first [] = []
newest_first (range ∷ ranges) = by_falling_stamp range (newest_first ranges)

-- the free list of a class: the starts of its elements, the one inserted last at the head
abbrev pub free_list : List Span → ℕ → List ℕ
free_list ranges class = map (λ range. range.addr) (newest_first (filter (is_of_class class) ranges))

-- the free lists of the classes 0 to 12
unfoldable pub free_lists : PlainHeap → List (List ℕ)
free_lists heap = map (free_list heap.ranges) (range_with_len 0 13)
