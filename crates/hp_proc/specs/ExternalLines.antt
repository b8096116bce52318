-- What the lines of external heaps do: the rules "External heaps" and "Chunks" of docs/HEAP.md and docs/TABLES.md.
use Rattle.std.specs.Prelude.{ℕ, ◌-◌, ◌^◌, min, not, ◌==◌, List, [], ◌∷◌, filter, find, length, map, Option, Some, None, Result, Ok, Err, if◌then◌else◌}
use Rattle.std.specs.List.{list_any, range_with_len, reduce}
use Rattle.hp_base.specs.Flags.{has_bit}
use Rattle.hp_base.specs.declared.caught.Caught.{Caught}
use Rattle.hp_base.specs.declared.caught.Caught.TheVariants as caught
use Rattle.hp_base.specs.declared.chunk.Chunk.{Chunk}
use Rattle.hp_heap.specs.Chunks.{chunk_at}
use Rattle.hp_heap.specs.History.{replay}
use Rattle.hp_heap.specs.PlainHeap.{PlainHeap, data_address, opening_heap}
use Rattle.hp_heap.specs.declared.entry.Entry.{Entry}
use Rattle.hp_heap.specs.declared.entry.HeapCall.{HeapCall}
use Rattle.hp_heap.specs.declared.entry.HeapCall.TheVariants as call
use Rattle.hp_script.specs.declared.answer.Answer.TheVariants as answer
use Rattle.hp_segs.specs.declared.fault.RangeFault.{RangeFault}
use Rattle.hp_segs.specs.declared.fault.RangeFault.TheVariants as range
use Rattle.hp_zone.specs.Directory.{PlainDirectory}
use Rattle.hp_zone.specs.declared.name_change.NameChange.TheVariants.{Named, Range, RangeGone, Unnamed}
use Rattle.hp_external.specs.Elements.{is_busy_in}
use Rattle.hp_proc.specs.Doing.{Deed, Doing}
use Rattle.hp_proc.specs.Heaps.{has_name}
use Rattle.hp_proc.specs.SharedNames.{HeapMeant, NamesChange, heaps_in, is_short_name, next_index}
use Rattle.hp_proc.specs.declared.own_chunk.OwnChunk.{OwnChunk}
use Rattle.hp_proc.specs.SharedNames.HeapMeant.{External, NoHeap, NoName, OfSocket}
use Rattle.hp_proc.specs.SharedNames.NamesChange.{OfHeaps}

-- a call that a heap only does is made, or a change of the names, and the line goes on
abbrev pub calling : ℕ → HeapCall → Doing → Doing
calling heap call doing = Doing.Then (Deed.Call heap call) (λ _. doing)

abbrev pub changing : NamesChange → Doing → Doing
changing change doing = Doing.Then (Deed.ChangeNames change) (λ _. doing)

-- the external heap of an index, as its history leaves it
unfoldable pub external_heap : ℕ → List Entry → PlainHeap
external_heap index history = replay (opening_heap index None) history

-- an external heap is looked at, and the line goes on by its state
abbrev pub seeing_heap : ℕ → (PlainHeap → Doing) → Doing
seeing_heap index goes = Doing.Then (Deed.SeeHeap index) (λ history. goes (external_heap index history))

-- a line on an external heap, for which any other name is refused
abbrev pub on_external : (ℕ → ℕ → Doing) → HeapMeant → Doing
on_external goes NoName = Doing.Ended answer.BadName
on_external goes NoHeap = Doing.Ended answer.NotFound
on_external goes OfSocket = Doing.Ended answer.SocketHeap
on_external goes (External index socket) = goes index socket

-- a line on a chunk that may be attached: a name is not judged here, so the first equation is met by no line; a socket's heap has no chunk
abbrev pub on_chunks_of : (ℕ → Doing) → HeapMeant → Doing
on_chunks_of goes NoName = Doing.Ended answer.NotFound
on_chunks_of goes NoHeap = Doing.Ended answer.NotFound
on_chunks_of goes OfSocket = Doing.Ended answer.NoChunk
on_chunks_of goes (External index socket) = goes index

-- the lowest address of data in a chunk, of all participants or of one; and the lowest participant that has it attached
unfoldable pub lowest_data : Option ℕ → Chunk → PlainHeap → Option ℕ
lowest_data by chunk heap = reduce min (map data_address (filter (is_busy_in by chunk.list) heap.ranges))

unfoldable pub lowest_member : Chunk → Option ℕ
lowest_member chunk = find (has_bit chunk.attached) (range_with_len 0 16)

-- `heap`: the directory names the heap, and then the heap has that name itself
abbrev pub making : List ℕ → ℕ → Option ℕ → Doing
making text socket None = Doing.Ended answer.NoSpace
making text socket (Some index) =
    changing (OfHeaps (Named index socket text)) (calling index (call.Name text socket) (Doing.Ended (answer.Socket socket)))

abbrev pub making_heap : List ℕ → PlainDirectory → Doing
making_heap text plain =
    if not (is_short_name text) then Doing.Ended answer.BadName
    else (if list_any (has_name text) (heaps_in plain) then Doing.Ended answer.Exists else making text plain.next (next_index plain))

-- `unheap`: a heap without chunks loses its name; their number is given up to the most that has 32 bits
abbrev pub destroying : ℕ → PlainHeap → Doing
destroying index heap =
    if length heap.chunks == 0 then changing (OfHeaps (Unnamed index)) (calling index call.Unname (Doing.Ended answer.Done))
    else Doing.Ended (answer.BusyChunks (min (length heap.chunks) (2 ^ 32 - 1)))

abbrev pub destroying_heap : HeapMeant → Doing
destroying_heap = on_external (λ index socket. seeing_heap index (destroying index))

-- `add`: memory that gets a list is one chunk of the heap, which nobody has attached. No plan is refused for want of memory, so the last
-- equation is met by none
abbrev pub adding : ℕ → ℕ → ℕ → ℕ → ℕ → Result ℕ RangeFault → Doing
adding addr len page index socket (Ok list) =
    let chunk : Chunk = record { list = list; addr = addr; len = len; page = page; socket = socket; attached = 0 } in
    changing (OfHeaps (Range index addr len page)) (calling index (call.Chunk chunk) (Doing.Ended answer.Done))
adding addr len page index socket (Err range.BadRange) = Doing.Ended answer.BadRange
adding addr len page index socket (Err (range.Overlaps row)) = Doing.Ended (answer.Overlaps row.addr)
adding addr len page index socket (Err range.NoSpace) = Doing.Ended answer.NoSpace
adding addr len page index socket (Err range.OutOfMemory) = Doing.Ended answer.NoSpace

-- and the segment value says whether it gets one
abbrev pub planning : ℕ → ℕ → ℕ → ℕ → ℕ → Doing
planning addr len page index socket = Doing.Then (Deed.PlanRange addr len page) (adding addr len page index socket)

abbrev pub adding_memory : ℕ → ℕ → ℕ → HeapMeant → Doing
adding_memory addr len page = on_external (planning addr len page)

-- `remove`: a chunk goes that is wholly free and that nobody has attached
abbrev pub removing_unless : ℕ → ℕ → ℕ → Option ℕ → Option ℕ → Doing
removing_unless index addr len (Some address) member = Doing.Ended (answer.BusyAddress address)
removing_unless index addr len None (Some participant) = Doing.Ended (answer.Attached participant)
removing_unless index addr len None None =
    changing (OfHeaps (RangeGone index addr)) (calling index (call.Unchunk addr len) (Doing.Ended answer.Done))

abbrev pub removing : ℕ → ℕ → ℕ → PlainHeap → Option Chunk → Doing
removing index addr len heap None = Doing.Ended answer.NoChunk
removing index addr len heap (Some chunk) = removing_unless index addr len (lowest_data None chunk heap) (lowest_member chunk)

abbrev pub removing_memory : ℕ → ℕ → HeapMeant → Doing
removing_memory addr len =
    on_external (λ index socket. seeing_heap index (λ heap. removing index addr len heap (chunk_at addr len heap)))

-- `map`: the pages of a chunk are mapped, and then the heap has the participant's mark on it
abbrev pub chunk_mapped : ℕ → ℕ → ℕ → Caught → Doing
chunk_mapped index addr len caught.Done = calling index (call.Share addr len) (Doing.Ended answer.Done)
chunk_mapped index addr len (caught.Refused row number) = Doing.Ended (answer.Refused number)
chunk_mapped index addr len (caught.Elsewhere row number got) = Doing.Ended (answer.Refused number)

abbrev pub mapping : ℕ → ℕ → ℕ → ℕ → Option Chunk → Doing
mapping who index addr len None = Doing.Ended answer.NoChunk
mapping who index addr len (Some chunk) =
    if has_bit chunk.attached who then Doing.Ended answer.Already else Doing.Then (Deed.MapChunk chunk) (chunk_mapped index addr len)

abbrev pub mapping_memory : ℕ → ℕ → ℕ → HeapMeant → Doing
mapping_memory who addr len =
    on_chunks_of (λ index. seeing_heap index (λ heap. mapping who index addr len (chunk_at addr len heap)))

-- `unmap`: a chunk that the participant has attached, and in which it has no element, loses its mark
abbrev pub leaving_unless : ℕ → ℕ → ℕ → Option ℕ → Doing
leaving_unless index addr len (Some address) = Doing.Ended (answer.InUse address)
leaving_unless index addr len None = calling index (call.Unshare addr len) (Doing.Ended answer.Done)

abbrev pub leaving_chunk : ℕ → ℕ → ℕ → ℕ → PlainHeap → Option Chunk → Doing
leaving_chunk who index addr len heap None = Doing.Ended answer.NoChunk
leaving_chunk who index addr len heap (Some chunk) =
    if has_bit chunk.attached who then leaving_unless index addr len (lowest_data (Some who) chunk heap)
    else Doing.Ended answer.NotAttached

abbrev pub leaving_memory : ℕ → ℕ → ℕ → HeapMeant → Doing
leaving_memory who addr len =
    on_chunks_of (λ index. seeing_heap index (λ heap. leaving_chunk who index addr len heap (chunk_at addr len heap)))

-- `detach`: the participant leaves each chunk that it has attached, one after another
abbrev pub leaving_all : List OwnChunk → Doing
leaving_all [] = Doing.Ended answer.Done
leaving_all (chunk ∷ chunks) = calling chunk.heap (call.Unshare chunk.addr chunk.len) (leaving_all chunks)
