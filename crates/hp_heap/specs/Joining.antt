-- How bytes become free, joined with the free elements next to them: the rule "Joining" of docs/HEAP.md.
use Rattle.std.specs.Prelude.{◌≡◌, ℕ, ◌+◌, Bool, true, false, IsSomeAnd, not, ◌&&◌, ◌==◌, nat_lt, List, [], ◌∷◌, ◌++◌, Option, Some, None, if◌then◌else◌}
use Rattle.std.specs.List.{filter, find}
use Rattle.std.specs.Option.{option_and_then}
use Rattle.hp_base.specs.declared.span.Span.{Span}
use Rattle.hp_base.specs.declared.span.SpanState.{SpanState}
use Rattle.hp_base.specs.declared.span.SpanState.TheVariants.{Free, Busy}
use Rattle.hp_base.specs.declared.tag.Tag.{Tag}
use Rattle.hp_heap.specs.PlainHeap.{PlainHeap, is_free, freed, data_address}
use Rattle.hp_heap.specs.Tiling.{joins}

-- two elements as one, with what the first has besides; the state is that of the element that the other is joined to
abbrev pub joined_up : Span → Span → Span
joined_up range next = record range { whole = range.whole + next.whole }

abbrev pub joined_down : Span → Span → Span
joined_down previous range = record previous { whole = previous.whole + range.whole; state = range.state }

-- the free stretch that goes on from an element upwards, before the elements that it leaves
abbrev pub stretch_up : Span → List Span → List Span
stretch_up range [] = range ∷ []
stretch_up range (next ∷ ranges) =
    if joins range next then stretch_up (joined_up range next) ranges else range ∷ next ∷ ranges

-- the elements below that do not join, and the free stretch that reaches down from the element
pub record Stretch : Type 0 where
  pub left : List Span
  pub range : Span

abbrev pub stretch_to : Span → List Span → Span → Stretch
stretch_to previous [] range =
    if joins previous range then record { left = []; range = joined_down previous range }
    else record { left = previous ∷ []; range = range }
stretch_to previous (other ∷ others) range = record { left = previous ∷ other ∷ others; range = range }

abbrev pub stretch_down : List Span → Span → Stretch
stretch_down [] range = record { left = []; range = range }
stretch_down (previous ∷ ranges) range =
    let below = stretch_down ranges range in stretch_to previous below.left below.range

-- the elements below an address, and above it
abbrev pub below : ℕ → List Span → List Span
below start ranges = filter (λ range. nat_lt range.addr start) ranges

abbrev pub above : ℕ → List Span → List Span
above start ranges = filter (λ range. nat_lt start range.addr) ranges

-- the elements with a free one in place of what begins at its start, as one with the free elements of its list that touch it
unfoldable pub with_stretch : Span → List Span → List Span
with_stretch range ranges =
    let down = stretch_down (below range.addr ranges) range in
    down.left ++ stretch_up down.range (above range.addr ranges)

-- the heap after an element became free: it was inserted into the free lists, as one with the free ones that touch it
unfoldable pub after_insertion : Span → PlainHeap → PlainHeap
after_insertion range heap = record heap {
  ranges = with_stretch (freed (heap.insertions + 1) range) heap.ranges;
  insertions = heap.insertions + 1;
}

-- whether an element is busy, with its data at an address
abbrev pub has_data_at : ℕ → Span → Bool
has_data_at address range = not (is_free range) && (data_address range == address)

-- the busy element with its data at an address
unfoldable pub busy_at : ℕ → PlainHeap → Option Span
busy_at address heap = find (has_data_at address) heap.ranges

-- the tag of a busy element
abbrev pub tag_of_state : SpanState → Option Tag
tag_of_state (Free stamp) = None
tag_of_state (Busy pad size tag) = Some tag

-- the tag of the busy element with its data at an address, by which a refused free names a memzone's element
unfoldable pub tag_at : ℕ → PlainHeap → Option Tag
tag_at address heap = option_and_then (λ range. tag_of_state range.state) (busy_at address heap)

abbrev pub is_zone_state : SpanState → Bool
is_zone_state (Free stamp) = false
is_zone_state (Busy pad size tag) = tag.zone

-- whether an element is a memzone's
abbrev pub is_zone_range : Span → Bool
is_zone_range range = is_zone_state range.state

-- the busy elements, and those of memzones among them
unfoldable pub busy_ranges : PlainHeap → List Span
busy_ranges heap = filter (λ range. not (is_free range)) heap.ranges

unfoldable pub zone_ranges : PlainHeap → List Span
zone_ranges heap = filter is_zone_range heap.ranges

abbrev pub after_free_of : Option Span → Bool → PlainHeap → PlainHeap
after_free_of None zone heap = heap
after_free_of (Some range) zone heap =
    if is_zone_range range && not zone then heap else after_insertion range heap

-- the heap after a free: the element becomes free; a memzone's only by the call for memzones
unfoldable pub after_free : ℕ → Bool → PlainHeap → PlainHeap
after_free address zone heap = after_free_of (busy_at address heap) zone heap

-- whether a busy element has a zone mark and a number
abbrev pub has_tag_state : Bool → ℕ → SpanState → Bool
has_tag_state zone number (Free stamp) = false
has_tag_state zone number (Busy pad size tag) = (if zone then tag.zone else not tag.zone) && (tag.number == number)

abbrev pub has_tag : Bool → ℕ → Span → Bool
has_tag zone number range = has_tag_state zone number range.state

-- a memzone's busy element has its data at an address, as the free of a memzone asks
abbrev pub HasZoneAt : ℕ → PlainHeap → Type 0
HasZoneAt address heap = IsSomeAnd (busy_at address heap) (λ range. is_zone_range range ≡ true)
