-- The plain heap: its segments and its elements, as contracts see them: the rule "Elements" of docs/HEAP.md.
use Rattle.std.specs.Prelude.{◌≡◌, ℕ, ◌+◌, ◌&&◌, Bool, true, false, nat_lt, nat_le, List, [], ◌++◌, map, Option, Some, None, codes, decimal}
use Rattle.hp_base.specs.declared.span.Span.{Span}
use Rattle.hp_base.specs.declared.span.SpanState.{SpanState}
use Rattle.hp_base.specs.declared.span.SpanState.TheVariants.{Free, Busy}
use Rattle.hp_base.specs.declared.tag.Tag.{Tag}
use Rattle.hp_base.specs.declared.chunk.Chunk.{Chunk}

-- a segment of a socket heap: a hugepage, with the segment list, the slot and the socket that its run gave it
pub record HeapPage : Type 0 where
  pub addr : ℕ
  pub page : ℕ
  pub list : ℕ
  pub slot : ℕ
  pub socket : ℕ

-- a heap without headers and links: its segments, its elements by rising address, and its insertions into free lists so far
pub record PlainHeap : Type 0 where
  pub index : ℕ
  -- the socket whose pages it takes, or none where it takes external memory: settled when it opens, and changed by no call
  pub serves : Option ℕ
  -- the name and the socket number that it has now, which calls set and clear
  pub name : Option (List ℕ)
  pub socket : ℕ
  pub pages : List HeapPage
  pub chunks : List Chunk
  pub ranges : List Span
  pub insertions : ℕ

-- the name with which the heap of a socket opens
unfoldable pub socket_name : ℕ → List ℕ
socket_name socket = codes "socket_" ++ decimal socket

-- the name and the socket number of an opening heap
abbrev pub opening_name : Option ℕ → Option (List ℕ)
opening_name None = None
opening_name (Some socket) = Some (socket_name socket)

abbrev pub opening_socket : Option ℕ → ℕ
opening_socket None = 0
opening_socket (Some socket) = socket

-- a heap before its first call: no segment, no element, no insertion
abbrev pub opening_heap : ℕ → Option ℕ → PlainHeap
opening_heap index serves = record {
  index = index;
  serves = serves;
  name = opening_name serves;
  socket = opening_socket serves;
  pages = [];
  chunks = [];
  ranges = [];
  insertions = 0;
}

-- the first address behind an element
abbrev pub end_of : Span → ℕ
end_of range = range.addr + range.whole

abbrev pub is_free_state : SpanState → Bool
is_free_state (Free stamp) = true
is_free_state (Busy pad size tag) = false

-- whether an element is free
abbrev pub is_free : Span → Bool
is_free range = is_free_state range.state

abbrev pub stamp_of_state : SpanState → ℕ
stamp_of_state (Free stamp) = stamp
stamp_of_state (Busy pad size tag) = 0

-- the stamp of a free element
abbrev pub stamp_of : Span → ℕ
stamp_of range = stamp_of_state range.state

abbrev pub pad_of_state : SpanState → ℕ
pad_of_state (Free stamp) = 0
pad_of_state (Busy pad size tag) = pad

abbrev pub size_of_state : SpanState → ℕ
size_of_state (Free stamp) = 0
size_of_state (Busy pad size tag) = size

-- the data address of a busy element: behind its pad and its header
abbrev pub data_address : Span → ℕ
data_address range = range.addr + pad_of_state range.state + 128

-- a free element
abbrev pub free_range : ℕ → ℕ → ℕ → ℕ → ℕ → Span
free_range addr whole list page stamp = record { addr = addr; whole = whole; list = list; page = page; state = Free stamp }

-- an element as a free one, with the stamp of its insertion
abbrev pub freed : ℕ → Span → Span
freed stamp range = record range { state = Free stamp }

-- a busy element
abbrev pub busy_range : ℕ → ℕ → ℕ → ℕ → ℕ → ℕ → Tag → Span
busy_range addr whole list page pad size tag =
    record { addr = addr; whole = whole; list = list; page = page; state = Busy pad size tag }

-- the bytes of a segment, with its segment list and the size of its pages
pub record Extent : Type 0 where
  pub addr : ℕ
  pub len : ℕ
  pub list : ℕ
  pub page : ℕ

abbrev pub page_extent : HeapPage → Extent
page_extent page = record { addr = page.addr; len = page.page; list = page.list; page = page.page }

abbrev pub chunk_extent : Chunk → Extent
chunk_extent chunk = record { addr = chunk.addr; len = chunk.len; list = chunk.list; page = chunk.page }

-- the segments of a heap, pages or chunks
abbrev pub segments_of : PlainHeap → List Extent
segments_of heap = map page_extent heap.pages ++ map chunk_extent heap.chunks

-- whether a byte is one of so many from an address on
abbrev pub is_within : ℕ → ℕ → ℕ → Bool
is_within start len byte = nat_le start byte && nat_lt byte (start + len)

-- a heap of a socket has pages alone, and one for external memory chunks alone
abbrev pub HasKind : Option ℕ → List HeapPage → List Chunk → Type 0
HasKind None pages chunks = pages ≡ []
HasKind (Some socket) pages chunks = chunks ≡ []
