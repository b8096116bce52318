-- How memory goes from an external heap: the rule "External heaps" of docs/HEAP.md.
use Rattle.std.specs.Prelude.{◌≡◌, ℕ, List, None}
use Rattle.hp_base.specs.declared.chunk.Chunk.{Chunk}
use Rattle.hp_base.specs.declared.tag.Caller.{Caller}
use Rattle.hp_heap.specs.declared.entry.HeapCall.TheVariants as call
use Rattle.hp_heap.specs.declared.entry.HeapAnswer.TheVariants as answer
use Rattle.hp_heap.specs.History.{HeapView, IsCall}
use Rattle.hp_heap.specs.PlainHeap.{PlainHeap}
use Rattle.hp_segs.specs.Ranges.{after_release_range}
use Rattle.hp_segs.specs.SegsView.{SegsView}
use Rattle.hp_zone.specs.Directory.{PlainDirectory, with_change}
use Rattle.hp_zone.specs.Zones.{IsZoneName}
use Rattle.hp_zone.specs.declared.name_change.NameChange.TheVariants.{RangeGone}
use Rattle.hp_zone.specs.declared.names.Names.{Names}
use Rattle.hp_external.specs.Elements.{IsLowestData, IsLowestMark, NonePasses, is_busy_in}
use Rattle.hp_external.specs.Naming.{HasNoSuchChunk, IsExternalName, IsNameFault, IsNamedChunk}
use Rattle.hp_external.specs.declared.fault.RemoveFault.{RemoveFault}
use Rattle.hp_external.specs.declared.fault.RemoveFault.TheVariants as remove
use Rattle.hp_external.specs.declared.fault.NameFault.TheVariants as name

-- memory goes from a heap: the chunk, which was wholly free and not attached, by one call; its range from the directory; and its list from
-- the segment value
pub record Removes (caller : Caller) (text : List ℕ) (addr len : ℕ) (names names' : Names) (segs segs' : SegsView) (heap heap' : HeapView)
    : Type 0 where
  pub name : IsZoneName text
  pub chunk : Chunk
  pub named : IsNamedChunk names.heaps.plain text heap.plain addr len chunk
  pub free : NonePasses (is_busy_in None chunk.list) heap.plain.ranges
  pub unmarked : chunk.attached ≡ 0
  pub directory : names'.heaps ≡ with_change names.heaps (RangeGone heap.plain.index addr)
  pub zones : names'.zones ≡ names.zones
  pub went : IsCall caller (call.Unchunk addr len) answer.Done heap heap'
  pub released : segs' ≡ after_release_range chunk.list segs

-- a busy element of a chunk stands against its removal
pub record IsBusyChunk (plain : PlainDirectory) (text : List ℕ) (heap : PlainHeap) (at len addr : ℕ) : Type 0 where
  pub name : IsZoneName text
  pub chunk : Chunk
  pub named : IsNamedChunk plain text heap at len chunk
  pub busy : IsLowestData (is_busy_in None chunk.list) heap.ranges addr

-- the chunk is wholly free, and a participant that has it attached stands against its removal
pub record IsAttachedChunk (plain : PlainDirectory) (text : List ℕ) (heap : PlainHeap) (at len participant : ℕ) : Type 0 where
  pub name : IsZoneName text
  pub chunk : Chunk
  pub named : IsNamedChunk plain text heap at len chunk
  pub free : NonePasses (is_busy_in None chunk.list) heap.ranges
  pub attached : IsLowestMark chunk.attached participant

-- why no memory goes, in the order in which it is judged
abbrev pub IsRemoveFault : PlainDirectory → List ℕ → PlainHeap → ℕ → ℕ → RemoveFault → Type 0
IsRemoveFault plain text heap at len remove.BadName = IsNameFault plain text name.BadName
IsRemoveFault plain text heap at len remove.NotFound = IsNameFault plain text name.NotFound
IsRemoveFault plain text heap at len remove.SocketHeap = IsNameFault plain text name.SocketHeap
IsRemoveFault plain text heap at len remove.NoChunk = IsZoneName text × HasNoSuchChunk plain text heap at len
IsRemoveFault plain text heap at len (remove.Busy addr) = IsBusyChunk plain text heap at len addr
IsRemoveFault plain text heap at len (remove.StillAttached participant) = IsAttachedChunk plain text heap at len participant
