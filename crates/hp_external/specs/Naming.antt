-- Which heap and which chunk a call on external heaps means, and why there is none: the rule "External heaps" of docs/HEAP.md.
use Rattle.std.specs.Prelude.{◌≡◌, ◌⊎◌, ℕ, ◌<◌, ◌≤◌, List, Some, None}
use Rattle.hp_base.specs.declared.chunk.Chunk.{Chunk}
use Rattle.hp_base.specs.declared.tag.Caller.{Caller}
use Rattle.hp_heap.specs.Chunks.{chunk_at}
use Rattle.hp_heap.specs.History.{HeapView}
use Rattle.hp_heap.specs.PlainHeap.{PlainHeap}
use Rattle.hp_zone.specs.Directory.{IsFoundAt, IsNotFound, PlainDirectory}
use Rattle.hp_zone.specs.Zones.{IsZoneName}
use Rattle.hp_zone.specs.declared.limits.TheConstants.{FIRST_EXTERNAL_SOCKET}
use Rattle.hp_external.specs.declared.fault.NameFault.{NameFault}
use Rattle.hp_external.specs.declared.fault.NameFault.TheVariants as name
use Rattle.hp_external.specs.declared.fault.ChunkFault.{ChunkFault}
use Rattle.hp_external.specs.declared.fault.ChunkFault.TheVariants as chunk
use Rattle.hp_external.specs.declared.fault.DestroyFault.{DestroyFault}
use Rattle.hp_external.specs.declared.fault.DestroyFault.TheVariants as destroy
use Rattle.hp_external.specs.declared.fault.AddFault.{AddFault}
use Rattle.hp_external.specs.declared.fault.AddFault.TheVariants as add
use Rattle.hp_external.specs.declared.fault.RemoveFault.{RemoveFault}
use Rattle.hp_external.specs.declared.fault.RemoveFault.TheVariants as remove
use Rattle.hp_external.specs.declared.fault.AttachFault.{AttachFault}
use Rattle.hp_external.specs.declared.fault.AttachFault.TheVariants as attach
use Rattle.hp_external.specs.declared.fault.DetachFault.{DetachFault}
use Rattle.hp_external.specs.declared.fault.DetachFault.TheVariants as detach

-- a text is the name of a socket's heap
pub record IsSocketName (plain : PlainDirectory) (text : List ℕ) : Type 0 where
  pub index : ℕ
  pub socket : ℕ
  pub found : IsFoundAt plain text index socket
  pub low : socket < FIRST_EXTERNAL_SOCKET

-- a text is the name of an external heap, of that index and socket number
pub record IsExternalName (plain : PlainDirectory) (text : List ℕ) (index socket : ℕ) : Type 0 where
  pub found : IsFoundAt plain text index socket
  pub external : FIRST_EXTERNAL_SOCKET ≤ socket

-- a text is the name of some external heap
pub record IsExternal (plain : PlainDirectory) (text : List ℕ) : Type 0 where
  pub index : ℕ
  pub socket : ℕ
  pub named : IsExternalName plain text index socket

-- why a text names no external heap, in the order in which it is judged: it may be no name, or no heap has it, or the heap is a socket's
abbrev pub IsNameFault : PlainDirectory → List ℕ → NameFault → Type 0
IsNameFault plain text name.BadName = ¬ IsZoneName text
IsNameFault plain text name.NotFound = IsZoneName text × IsNotFound plain text
IsNameFault plain text name.SocketHeap = IsZoneName text × IsSocketName plain text

-- the faults of a name as those of the calls
abbrev pub destroy_name_fault : NameFault → DestroyFault
destroy_name_fault name.BadName = destroy.BadName
destroy_name_fault name.NotFound = destroy.NotFound
destroy_name_fault name.SocketHeap = destroy.SocketHeap

abbrev pub add_name_fault : NameFault → AddFault
add_name_fault name.BadName = add.BadName
add_name_fault name.NotFound = add.NotFound
add_name_fault name.SocketHeap = add.SocketHeap

abbrev pub remove_name_fault : NameFault → RemoveFault
remove_name_fault name.BadName = remove.BadName
remove_name_fault name.NotFound = remove.NotFound
remove_name_fault name.SocketHeap = remove.SocketHeap

-- a text, an address and a length name a chunk of an external heap
pub record IsNamedChunk (plain : PlainDirectory) (text : List ℕ) (heap : PlainHeap) (addr len : ℕ) (chunk : Chunk) : Type 0 where
  pub named : IsExternal plain text
  pub there : chunk_at addr len heap ≡ Some chunk

-- an external heap has no chunk with that address and length
pub record HasNoSuchChunk (plain : PlainDirectory) (text : List ℕ) (heap : PlainHeap) (addr len : ℕ) : Type 0 where
  pub named : IsExternal plain text
  pub missing : chunk_at addr len heap ≡ None

-- why a text, an address and a length name no chunk: no heap has the name; or the heap is a socket's or has no such chunk
abbrev pub IsChunkFault : PlainDirectory → List ℕ → PlainHeap → ℕ → ℕ → ChunkFault → Type 0
IsChunkFault plain text heap addr len chunk.NotFound = IsNotFound plain text
IsChunkFault plain text heap addr len chunk.NoChunk = IsSocketName plain text ⊎ HasNoSuchChunk plain text heap addr len

-- why a text names no external heap whose chunks may be attached
abbrev pub IsHeapFault : PlainDirectory → List ℕ → ChunkFault → Type 0
IsHeapFault plain text chunk.NotFound = IsNotFound plain text
IsHeapFault plain text chunk.NoChunk = IsSocketName plain text

abbrev pub attach_chunk_fault : ChunkFault → AttachFault
attach_chunk_fault chunk.NotFound = attach.NotFound
attach_chunk_fault chunk.NoChunk = attach.NoChunk

abbrev pub detach_chunk_fault : ChunkFault → DetachFault
detach_chunk_fault chunk.NotFound = detach.NotFound
detach_chunk_fault chunk.NoChunk = detach.NoChunk

-- where a text is the name of an external heap, this heap is that one: it has that index, and is one for external memory
pub record IsHeapOf (index : ℕ) (heap : PlainHeap) : Type 0 where
  pub index_is : heap.index ≡ index
  pub external : heap.serves ≡ None

abbrev pub IsThatHeap : PlainDirectory → List ℕ → PlainHeap → Type 0
IsThatHeap plain text heap = (index socket : ℕ) → IsExternalName plain text index socket → IsHeapOf index heap

-- a participant may call: it is one of 0 to 15, and the heap has room for a call
pub record MayCall (caller : Caller) (heap : HeapView) : Type 0 where
  pub participant : caller.participant < 16
  pub room : 0 < heap.spare
