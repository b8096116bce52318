-- How a participant attaches a chunk of an external heap and leaves it: the rule "External heaps" of docs/HEAP.md.
use Rattle.std.specs.Prelude.{◌≡◌, ℕ, ◌+◌, ◌/◌, ◌^◌, ◌<◌, ◌≤◌, true, false, List, ◌++◌, length, Some}
use Rattle.hp_base.specs.Flags.{has_bit}
use Rattle.hp_base.specs.Streams.{CountsFault}
use Rattle.hp_base.specs.declared.caught.Caught.{Caught}
use Rattle.hp_base.specs.declared.caught.Caught.TheVariants as caught
use Rattle.hp_base.specs.declared.chunk.Chunk.{Chunk}
use Rattle.hp_base.specs.declared.tag.Caller.{Caller}
use Rattle.hp_heap.specs.declared.entry.HeapCall.TheVariants as call
use Rattle.hp_heap.specs.declared.entry.HeapAnswer.TheVariants as answer
use Rattle.hp_heap.specs.Chunks.{chunk_at}
use Rattle.hp_heap.specs.History.{HeapView, IsCall}
use Rattle.hp_heap.specs.PlainHeap.{PlainHeap}
use Rattle.hp_maps.specs.Catching.{HasAnswered, HasReason, was_refused}
use Rattle.hp_maps.specs.Chunks.{rows_beside, rows_of_chunk}
use Rattle.hp_maps.specs.MapsView.{AreClearOf, IsMapped, MapsView, calls_of}
use Rattle.hp_zone.specs.Directory.{PlainDirectory}
use Rattle.hp_external.specs.Elements.{IsLowestData, NonePasses, is_busy_in}
use Rattle.hp_external.specs.Naming.{IsChunkFault, IsNamedChunk}
use Rattle.hp_external.specs.declared.fault.AttachFault.{AttachFault}
use Rattle.hp_external.specs.declared.fault.AttachFault.TheVariants as attach
use Rattle.hp_external.specs.declared.fault.ChunkFault.TheVariants as fault
use Rattle.hp_external.specs.declared.fault.DetachFault.{DetachFault}
use Rattle.hp_external.specs.declared.fault.DetachFault.TheVariants as detach

-- a table has room for the rows of a chunk, none of which has the address of one of its own; and its mapper may be called
pub record HasRoomFor (maps : MapsView) (chunk : Chunk) : Type 0 where
  pub pages : chunk.len / chunk.page < 2 ^ 32
  pub clear : AreClearOf maps.rows (rows_of_chunk chunk)
  pub room : length maps.rows + chunk.len / chunk.page ≤ maps.capacity
  pub calls : calls_of maps ≤ 2 ^ 63

-- a table has room for the chunk that is named, where the participant has not attached it
abbrev pub MayAttach : ℕ → ℕ → ℕ → PlainHeap → MapsView → Type 0
MayAttach participant addr len heap maps =
    (chunk : Chunk) → chunk_at addr len heap ≡ Some chunk → has_bit chunk.attached participant ≡ false → HasRoomFor maps chunk

-- beside its rows and its mapping calls a table is as it was
pub record SameButRows (old new : MapsView) : Type 0 where
  pub number : new.number ≡ old.number
  pub capacity : new.capacity ≡ old.capacity
  pub may_fail : new.may_fail ≡ old.may_fail
  pub mapped : IsMapped new

-- a participant attaches a chunk that it had not: each of its pages is mapped at its own place, and the heap has the mark, by one call
pub record Attaches (caller : Caller) (plain : PlainDirectory) (text : List ℕ) (addr len : ℕ) (heap heap' : HeapView) (maps maps' : MapsView)
    : Type 0 where
  pub chunk : Chunk
  pub named : IsNamedChunk plain text heap.plain addr len chunk
  pub unmarked : has_bit chunk.attached caller.participant ≡ false
  pub rows : maps'.rows ≡ maps.rows ++ rows_of_chunk chunk
  pub answered : HasAnswered (rows_of_chunk chunk) maps.answers maps'.answers caught.Done
  pub faults : CountsFault maps.faults maps'.faults false
  pub others : SameButRows maps maps'
  pub shared : IsCall caller (call.Share addr len) answer.Done heap heap'

-- an attach ended by a failed mapping call of that number
abbrev pub IsFailedCall : ℕ → Caught → Type 0
IsFailedCall number caught.Done = ⊥
IsFailedCall number (caught.Refused row call) = call ≡ number
IsFailedCall number (caught.Elsewhere row call got) = call ≡ number

-- the mapper refused a page of a chunk in this call, or answered another place, at a call at which it may fail; the rows are as they were
pub record IsMapFault (chunk : Chunk) (call : ℕ) (maps maps' : MapsView) : Type 0 where
  pub ended : Caught
  pub failed : IsFailedCall call ended
  pub answered : HasAnswered (rows_of_chunk chunk) maps.answers maps'.answers ended
  pub faults : CountsFault maps.faults maps'.faults (was_refused ended)
  pub reason : HasReason maps.may_fail ended
  pub rows : maps'.rows ≡ maps.rows
  pub others : SameButRows maps maps'

-- an answer about the named chunk
pub record OfChunk (plain : PlainDirectory) (text : List ℕ) (heap : PlainHeap) (addr len : ℕ) (P : Chunk → Type 0) : Type 0 where
  pub chunk : Chunk
  pub named : IsNamedChunk plain text heap addr len chunk
  pub so : P chunk

-- why a participant does not attach a chunk, in the order in which it is judged, with what becomes of its table: no mapping call is made
-- but where the mapper fails
abbrev pub IsAttachFault : ℕ → PlainDirectory → List ℕ → ℕ → ℕ → PlainHeap → MapsView → MapsView → AttachFault → Type 0
IsAttachFault participant plain text addr len heap maps maps' attach.NotFound =
    IsChunkFault plain text heap addr len fault.NotFound × (maps' ≡ maps)
IsAttachFault participant plain text addr len heap maps maps' attach.NoChunk =
    IsChunkFault plain text heap addr len fault.NoChunk × (maps' ≡ maps)
IsAttachFault participant plain text addr len heap maps maps' attach.Already =
    OfChunk plain text heap addr len (λ chunk. has_bit chunk.attached participant ≡ true) × (maps' ≡ maps)
IsAttachFault participant plain text addr len heap maps maps' (attach.MapRefused call) =
    OfChunk plain text heap addr len (λ chunk. (has_bit chunk.attached participant ≡ false) × IsMapFault chunk call maps maps')

-- a participant leaves a chunk that it had attached, where it has no element of it: the rows of the chunk go from its table, and the mark
-- from the heap, by one call
pub record Detaches (caller : Caller) (plain : PlainDirectory) (text : List ℕ) (addr len : ℕ) (heap heap' : HeapView) (maps maps' : MapsView)
    : Type 0 where
  pub chunk : Chunk
  pub named : IsNamedChunk plain text heap.plain addr len chunk
  pub marked : has_bit chunk.attached caller.participant ≡ true
  pub unused : NonePasses (is_busy_in (Some caller.participant) chunk.list) heap.plain.ranges
  pub rows : maps'.rows ≡ rows_beside chunk maps.rows
  pub answers : maps'.answers ≡ maps.answers
  pub faults : maps'.faults ≡ maps.faults
  pub others : SameButRows maps maps'
  pub unshared : IsCall caller (call.Unshare addr len) answer.Done heap heap'

-- why a participant does not leave a chunk, in the order in which it is judged
abbrev pub IsDetachFault : ℕ → PlainDirectory → List ℕ → ℕ → ℕ → PlainHeap → DetachFault → Type 0
IsDetachFault participant plain text addr len heap detach.NotFound = IsChunkFault plain text heap addr len fault.NotFound
IsDetachFault participant plain text addr len heap detach.NoChunk = IsChunkFault plain text heap addr len fault.NoChunk
IsDetachFault participant plain text addr len heap detach.NotAttached =
    OfChunk plain text heap addr len (λ chunk. has_bit chunk.attached participant ≡ false)
IsDetachFault participant plain text addr len heap (detach.InUse at) =
    OfChunk plain text heap addr len (λ chunk. (has_bit chunk.attached participant ≡ true)
    × IsLowestData (is_busy_in (Some participant) chunk.list) heap.ranges at)

-- a participant has the chunk with that address and length attached
abbrev pub IsOwnChunkAt : ℕ → ℕ → ℕ → PlainHeap → Type 0
IsOwnChunkAt participant addr len heap = (chunk : Chunk) × (chunk_at addr len heap ≡ Some chunk) × (has_bit chunk.attached participant ≡ true)

-- a participant leaves a chunk that it had attached, whatever elements it has of it: the rows of the chunk go from its table, and the mark
-- from the heap, by one call
pub record Leaves (caller : Caller) (addr len : ℕ) (heap heap' : HeapView) (maps maps' : MapsView) : Type 0 where
  pub chunk : Chunk
  pub there : chunk_at addr len heap.plain ≡ Some chunk
  pub rows : maps'.rows ≡ rows_beside chunk maps.rows
  pub answers : maps'.answers ≡ maps.answers
  pub faults : maps'.faults ≡ maps.faults
  pub others : SameButRows maps maps'
  pub unshared : IsCall caller (call.Unshare addr len) answer.Done heap heap'
