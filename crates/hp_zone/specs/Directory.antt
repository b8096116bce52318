-- The directory of heaps: their names, their socket numbers and their ranges, and the log of its changes: the rule "The directory of
-- heaps" of docs/HEAP.md.
use Rattle.std.specs.Prelude.{◌≡◌, ◌≢◌, ℕ, ◌+◌, ◌-◌, ◌<◌, ◌≤◌, ◌^◌, ◌==◌, ◌&&◌, max, Bool, Option, Some, None, codes, decimal}
use Rattle.std.specs.Prelude.{List, [], ◌∷◌, ◌++◌, length, map, take, replicate, slice_get, slice_set}
use Rattle.std.specs.List.{All, Contains, remove, position_or_len, range_with_len, filter_map}
use Rattle.std.specs.List.Sorted.{IsStrictlyIncreasing}
use Rattle.std.specs.Option.{option_flatten}
use Rattle.hp_base.specs.declared.limits.TheConstants.{MAX_HEAPS}
use Rattle.hp_zone.specs.declared.limits.TheConstants.{FIRST_EXTERNAL_SOCKET}
use Rattle.hp_zone.specs.declared.heap_name.HeapName.{HeapName}
use Rattle.hp_zone.specs.declared.heap_name.HeapRange.{HeapRange}
use Rattle.hp_zone.specs.declared.name_change.NameChange.{NameChange}
use Rattle.hp_zone.specs.declared.name_change.NameChange.TheVariants.{Named, Unnamed, Range, RangeGone}

-- the directory itself: for each index the heap's name and socket number, or none; the ranges in the order in which they came; and
-- the socket number that the next heap gets
pub record PlainDirectory : Type 0 where
  pub heaps : List (Option HeapName)
  pub ranges : List HeapRange
  pub next : ℕ

-- what contracts see of a directory: the sockets that it was opened with, the directory itself, the log of all changes, and for how
-- many more names or ranges memory is set aside
pub record DirectoryView : Type 0 where
  pub sockets : List ℕ
  pub plain : PlainDirectory
  pub log : List NameChange
  pub room : ℕ

-- the name of the heap of a socket
unfoldable pub socket_name : ℕ → List ℕ
socket_name socket = codes "socket_" ++ decimal socket

-- what the directory says of the heap of a socket
abbrev pub socket_heap : ℕ → Option HeapName
socket_heap socket = Some (record { name = socket_name socket; socket = socket })

-- the opening directory: the heaps of the sockets have the first indexes, the others have no name
abbrev pub opening : List ℕ → PlainDirectory
opening sockets = record {
  heaps = map socket_heap sockets ++ replicate (MAX_HEAPS - length sockets) None;
  ranges = [];
  next = FIRST_EXTERNAL_SOCKET;
}

-- a directory that was just opened with these sockets: there was no change, and no memory is set aside
abbrev pub opened : List ℕ → DirectoryView
opened sockets = record { sockets = sockets; plain = opening sockets; log = []; room = 0 }

-- a directory may be opened with these sockets: there are indexes for them, they rise, and are below those of external heaps
pub record MayOpen (sockets : List ℕ) : Type 0 where
  pub few : length sockets ≤ MAX_HEAPS
  pub rising : IsStrictlyIncreasing sockets
  pub low : All (λ socket. socket < FIRST_EXTERNAL_SOCKET) sockets

-- whether a range is that of a heap at an address
abbrev pub is_range : ℕ → ℕ → HeapRange → Bool
is_range index addr range = (range.index == index) && (range.addr == addr)

-- the ranges without that of a heap at an address
abbrev pub without_range : ℕ → ℕ → List HeapRange → List HeapRange
without_range index addr ranges = remove ranges (position_or_len (is_range index addr) ranges)

-- the directory after a change
abbrev pub after_change : PlainDirectory → NameChange → PlainDirectory
after_change plain (Named index socket name) = record plain {
  heaps = slice_set plain.heaps index (Some (record { name = name; socket = socket }));
  next = socket + 1;
}
after_change plain (Unnamed index) = record plain { heaps = slice_set plain.heaps index None }
after_change plain (Range index addr len page) = record plain {
  ranges = plain.ranges ++ record { index = index; addr = addr; len = len; page = page } ∷ [];
}
after_change plain (RangeGone index addr) = record plain { ranges = without_range index addr plain.ranges }

-- the directory after changes, one by one
abbrev pub directory_after : PlainDirectory → List NameChange → PlainDirectory
directory_after plain [] = plain
directory_after plain (change ∷ log) = directory_after (after_change plain change) log

-- what the first n changes of a log leave, from the opening on
abbrev pub directory_at : List ℕ → List NameChange → ℕ → PlainDirectory
directory_at sockets log n = directory_after (opening sockets) (take n log)

-- what the directory says of the heap of an index, if it has a name
abbrev pub heap_at : PlainDirectory → ℕ → Option HeapName
heap_at plain index = option_flatten (slice_get plain.heaps index)

-- the heap of an index has that name and that socket number
abbrev pub IsNamed : PlainDirectory → ℕ → HeapName → Type 0
IsNamed plain index heap = slice_get plain.heaps index ≡ Some (Some heap)

-- the heap of an index has no name
abbrev pub IsUnnamed : PlainDirectory → ℕ → Type 0
IsUnnamed plain index = slice_get plain.heaps index ≡ Some None

-- a name is not found below an index: no heap there has it
abbrev pub IsNotFoundBelow : PlainDirectory → List ℕ → ℕ → Type 0
IsNotFoundBelow plain text bound = (index : ℕ) (heap : HeapName) → index < bound → IsNamed plain index heap → heap.name ≢ text

-- a name is found: the heap of that index has it, and no heap of a lower index
pub record IsFoundAt (plain : PlainDirectory) (text : List ℕ) (index socket : ℕ) : Type 0 where
  pub heap : HeapName
  pub there : IsNamed plain index heap
  pub named : heap.name ≡ text
  pub socket_is : heap.socket ≡ socket
  pub first : IsNotFoundBelow plain text index

-- a name is not found: no heap has it
abbrev pub IsNotFound : PlainDirectory → List ℕ → Type 0
IsNotFound plain text = (index : ℕ) (heap : HeapName) → IsNamed plain index heap → heap.name ≢ text

-- each socket has its heap: at the index of the socket, under its name and with its number
abbrev pub HasSocketHeaps : List ℕ → PlainDirectory → Type 0
HasSocketHeaps sockets plain = (index socket : ℕ) → slice_get sockets index ≡ Some socket
    → slice_get plain.heaps index ≡ Some (socket_heap socket)

-- a name is that of one heap at most: of two heaps with one name the index is the same
abbrev pub AreApart : List (Option HeapName) → Type 0
AreApart heaps = (i k : ℕ) (one other : HeapName) → slice_get heaps i ≡ Some (Some one) → slice_get heaps k ≡ Some (Some other)
    → one.name ≡ other.name → i ≡ k

-- the lowest index without a name
pub record IsLowestUnnamed (plain : PlainDirectory) (index : ℕ) : Type 0 where
  pub unnamed : IsUnnamed plain index
  pub lowest : (lower : ℕ) → lower < index → ¬ IsUnnamed plain lower

-- another heap may get a name: an index has none, and the next socket number is one
pub record HasPlace (plain : PlainDirectory) : Type 0 where
  pub index : ℕ
  pub unnamed : IsUnnamed plain index
  pub socket : plain.next < 2 ^ 32

-- the directory after a call that makes one change
abbrev pub with_change : DirectoryView → NameChange → DirectoryView
with_change old change = record old { plain = after_change old.plain change; log = old.log ++ change ∷ [] }

-- the directory after a call that makes one change with memory that is set aside
abbrev pub with_more : DirectoryView → NameChange → DirectoryView
with_more old change = record (with_change old change) { room = old.room - 1 }

-- a name may be inserted: no heap has it, there is a place, and memory is set aside
pub record MayInsert (old : DirectoryView) (text : List ℕ) : Type 0 where
  pub fresh : IsNotFound old.plain text
  pub place : HasPlace old.plain
  pub memory : 0 < old.room

-- a heap gets a name: its index is the lowest without one, and its socket number the next
pub record GivesName (old new : DirectoryView) (text : List ℕ) (index socket : ℕ) : Type 0 where
  pub index_is : IsLowestUnnamed old.plain index
  pub socket_is : socket ≡ old.plain.next
  pub changed : new ≡ with_more old (Named index socket text)

-- the name of a heap may be removed: the heap is external, and has no range
pub record MayRemove (plain : PlainDirectory) (index : ℕ) : Type 0 where
  pub heap : HeapName
  pub named : IsNamed plain index heap
  pub external : FIRST_EXTERNAL_SOCKET ≤ heap.socket
  pub empty : All (λ range. range.index ≢ index) plain.ranges

-- a range may be added to a heap: it has a name, and memory is set aside
pub record MayAdd (old : DirectoryView) (index : ℕ) : Type 0 where
  pub heap : HeapName
  pub named : IsNamed old.plain index heap
  pub memory : 0 < old.room

-- a heap has a range at an address
pub record HasRange (plain : PlainDirectory) (index addr : ℕ) : Type 0 where
  pub range : HeapRange
  pub there : Contains plain.ranges range
  pub index_is : range.index ≡ index
  pub addr_is : range.addr ≡ addr

-- memory for at least one name or range is set aside, and nothing else changes
abbrev pub with_room : DirectoryView → DirectoryView
with_room old = record old { room = max 1 old.room }

-- the socket number that a change gives, if it names a heap
abbrev pub socket_given : NameChange → Option ℕ
socket_given (Named index socket name) = Some socket
socket_given (Unnamed index) = None
socket_given (Range index addr len page) = None
socket_given (RangeGone index addr) = None

-- what holds of a directory at all times
pub record IsDirectory (view : DirectoryView) : Type 0 where
  -- the changes of the log leave the directory
  pub replayed : view.plain ≡ directory_after (opening view.sockets) view.log
  -- the socket numbers that the log gives are those from the first to the next, each once and in their order
  pub given : filter_map socket_given view.log ≡ range_with_len FIRST_EXTERNAL_SOCKET (view.plain.next - FIRST_EXTERNAL_SOCKET)
  pub next : FIRST_EXTERNAL_SOCKET ≤ view.plain.next
  pub last : view.plain.next ≤ 2 ^ 32
  pub indexes : length view.plain.heaps ≡ MAX_HEAPS
  pub apart : AreApart view.plain.heaps
  pub opened : MayOpen view.sockets
  -- each socket has its heap, now and in what any first changes of the log leave
  pub socket_heaps : HasSocketHeaps view.sockets view.plain
  pub fronts : (n : ℕ) → HasSocketHeaps view.sockets (directory_at view.sockets view.log n)
