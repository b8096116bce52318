-- Tiling, that the elements of a heap are exactly the bytes of its segments: the rule "Tiling" of docs/HEAP.md.
use Rattle.std.specs.Prelude.{◌≡◌, ℕ, ◌+◌, ◌%◌, ◌<◌, ◌≤◌, Bool, false, ◌&&◌, ◌==◌, List, [], ◌∷◌, count_by, ⊤, Option}
use Rattle.std.specs.List.{AllByRecursion, find}
use Rattle.hp_base.specs.declared.span.Span.{Span}
use Rattle.hp_base.specs.declared.span.SpanState.{SpanState}
use Rattle.hp_base.specs.declared.span.SpanState.TheVariants.{Free, Busy}
use Rattle.hp_heap.specs.PlainHeap.{PlainHeap, Extent, end_of, is_free, stamp_of, segments_of, is_within, HasKind}
use Rattle.hp_heap.specs.LaidOut.{IsLaidOut}

-- whether a byte lies in an element, or in a segment
abbrev pub in_range : ℕ → Span → Bool
in_range byte range = is_within range.addr range.whole byte

abbrev pub in_segment : ℕ → Extent → Bool
in_segment byte segment = is_within segment.addr segment.len byte

-- whether a byte lies in an element, or in a segment, of one segment list with pages of one size
abbrev pub in_range_of : ℕ → ℕ → ℕ → Span → Bool
in_range_of list page byte range = in_range byte range && ((range.list == list) && (range.page == page))

abbrev pub in_segment_of : ℕ → ℕ → ℕ → Extent → Bool
in_segment_of list page byte segment = in_segment byte segment && ((segment.list == list) && (segment.page == page))

-- the element that contains an address
unfoldable pub range_at : ℕ → PlainHeap → Option Span
range_at address heap = find (in_range address) heap.ranges

-- the elements stand by rising address, from an address on, and do not overlap
abbrev pub IsRisingFrom : ℕ → List Span → Type 0
IsRisingFrom from [] = ⊤
IsRisingFrom from (range ∷ ranges) = (from ≤ range.addr) × IsRisingFrom (end_of range) ranges

-- a whole size is whole cache lines, and has room for a header and the least data
pub record IsWholeSize (whole : ℕ) : Type 0 where
  pub lines : whole % 64 ≡ 0
  pub least : 192 ≤ whole

-- the data of a busy element are some whole cache lines, behind a small pad of whole cache lines, and there is room for all
pub record HoldsData (whole pad size : ℕ) : Type 0 where
  pub pad_lines : pad % 64 ≡ 0
  pub pad_small : pad < 192
  pub size_lines : size % 64 ≡ 0
  pub size_some : 0 < size
  pub room : pad + 128 + size ≤ whole

-- a busy element holds its data
abbrev pub HasRoomFor : ℕ → SpanState → Type 0
HasRoomFor whole (Free stamp) = ⊤
HasRoomFor whole (Busy pad size tag) = HoldsData whole pad size

-- an element by itself: it begins at a cache line, has its sizes, and a stamp of at most the number of insertions
pub record IsElement (insertions : ℕ) (range : Span) : Type 0 where
  pub line : range.addr % 64 ≡ 0
  pub size : IsWholeSize range.whole
  pub busy : HasRoomFor range.whole range.state
  pub stamp : stamp_of range ≤ insertions

-- whether a free element has a stamp
abbrev pub has_stamp : ℕ → Span → Bool
has_stamp stamp range = is_free range && (stamp_of range == stamp)

-- whether an element begins right behind another, in its segment list
abbrev pub touches : Span → Span → Bool
touches first second = (first.list == second.list) && (end_of first == second.addr)

-- whether two elements would be one: both free, and the second touches the first
abbrev pub joins : Span → Span → Bool
joins first second = (is_free first && is_free second) && touches first second

-- an element would not be one with the first of those behind it, and no two neighbours among them would
abbrev pub IsApartFrom : Span → List Span → Type 0
IsApartFrom first [] = ⊤
IsApartFrom first (second ∷ ranges) = (joins first second ≡ false) × IsApartFrom second ranges

-- no two neighbours would be one
abbrev pub IsApart : List Span → Type 0
IsApart [] = ⊤
IsApart (first ∷ ranges) = IsApartFrom first ranges

-- elements tile segments, after so many insertions into free lists
pub record IsTiling (segments : List Extent) (insertions : ℕ) (ranges : List Span) : Type 0 where
  -- they stand by rising address
  pub rising : IsRisingFrom 0 ranges
  -- each byte of a segment is in one element, and no other byte is
  pub once : (byte : ℕ) → count_by (in_range byte) ranges ≡ count_by (in_segment byte) segments
  pub single : (byte : ℕ) → count_by (in_range byte) ranges ≤ 1
  -- each element lies in one segment list, with the size of its pages
  pub one_list : (list page byte : ℕ)
      → count_by (in_range_of list page byte) ranges ≡ count_by (in_segment_of list page byte) segments
  -- sizes, pads and stamps
  pub elements : AllByRecursion (IsElement insertions) ranges
  -- stamps differ
  pub stamps : (stamp : ℕ) → count_by (has_stamp stamp) ranges ≤ 1
  -- free elements that touch are one, in each segment list
  pub apart : IsApart ranges

-- the elements of a heap tile its segments, which are pages or chunks, laid out by their lists
pub record IsTiled (heap : PlainHeap) : Type 0 where
  pub kind : HasKind heap.serves heap.pages heap.chunks
  pub laid : IsLaidOut heap.pages heap.chunks
  pub tiling : IsTiling (segments_of heap) heap.insertions heap.ranges
