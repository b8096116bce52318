-- Which free element a request takes: the rule "Search" of docs/HEAP.md.
use Rattle.std.specs.Prelude.{◌≡◌, ℕ, ◌≤◌, Bool, ◌&&◌, ◌||◌, ◌==◌, nat_lt, List, [], ◌∷◌, Option, is_some, Contains, if◌then◌else◌}
use Rattle.std.specs.List.{filter, list_any, reduce}
use Rattle.hp_base.specs.Flags.{has_bit, is_fitting_page, is_hint}
use Rattle.hp_base.specs.Place.{place_of}
use Rattle.hp_base.specs.declared.span.Span.{Span}
use Rattle.hp_base.specs.declared.request.Request.{Request}
use Rattle.hp_heap.specs.PlainHeap.{PlainHeap, end_of, is_free, stamp_of}
use Rattle.hp_heap.specs.Lists.{range_class}

-- whether a participant may use an element: in an external heap only one of a chunk that it has attached
unfoldable pub is_attached : ℕ → PlainHeap → Span → Bool
is_attached participant heap range =
    is_some heap.serves || list_any (λ chunk. (chunk.list == range.list) && has_bit chunk.attached participant) heap.chunks

-- whether an element is a candidate: free, usable by the participant, and with a place for the request
abbrev pub is_candidate : ℕ → Request → PlainHeap → Span → Bool
is_candidate participant request heap range =
    is_free range && (is_attached participant heap range && is_some (place_of range.addr (end_of range) request))

abbrev pub candidates : ℕ → Request → PlainHeap → List Span
candidates participant request heap = filter (is_candidate participant request heap) heap.ranges

-- those whose page fits the flags
abbrev pub of_fitting_pages : Request → List Span → List Span
of_fitting_pages request ranges = filter (λ range. is_fitting_page request.flags range.page) ranges

-- the fitting ones where there are some; where there are none and the page sizes are a hint, all of them
abbrev pub fitting_or_hinted : Request → List Span → List Span → List Span
fitting_or_hinted request all [] = if is_hint request.flags then all else []
fitting_or_hinted request all (range ∷ ranges) = range ∷ ranges

-- the elements among which the choice is made
unfoldable pub eligible : ℕ → Request → PlainHeap → List Span
eligible participant request heap =
    let all = candidates participant request heap in
    fitting_or_hinted request all (of_fitting_pages request all)

-- the choice: of the least class among the eligible, and of that class the one that was inserted last
pub record IsChoice (participant : ℕ) (request : Request) (heap : PlainHeap) (range : Span) : Type 0 where
  pub among : Contains (eligible participant request heap) range
  pub least : (other : Span) → Contains (eligible participant request heap) other → range_class range ≤ range_class other
  pub newest : (other : Span) → Contains (eligible participant request heap) other
      → range_class other ≡ range_class range → stamp_of other ≤ stamp_of range

-- there is nothing to choose from
abbrev pub HasNoChoice : ℕ → Request → PlainHeap → Type 0
HasNoChoice participant request heap = eligible participant request heap ≡ []

-- whether an element stands before another in the order of the search: a lower class, or the same class and inserted later
unfoldable pub precedes : Span → Span → Bool
precedes first second =
    nat_lt (range_class first) (range_class second)
    || ((range_class first == range_class second) && nat_lt (stamp_of second) (stamp_of first))

-- the one of two that the search meets first
abbrev pub sooner : Span → Span → Span
sooner first second = if precedes second first then second else first

-- the choice, computed
unfoldable pub chosen : ℕ → Request → PlainHeap → Option Span
chosen participant request heap = reduce sooner (eligible participant request heap)
