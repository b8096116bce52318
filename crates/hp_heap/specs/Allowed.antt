-- When a call of a heap may be made: the rule "History" of docs/HEAP.md.
use Rattle.std.specs.Prelude.{◌≡◌, ℕ, ◌<◌, true, ⊤}
use Rattle.hp_heap.specs.declared.entry.HeapCall.{HeapCall}
use Rattle.hp_heap.specs.declared.entry.HeapCall.TheVariants as call
use Rattle.hp_heap.specs.PlainHeap.{PlainHeap}
use Rattle.hp_heap.specs.Joining.{HasZoneAt}
use Rattle.hp_heap.specs.Resizing.{CanAskSize}
use Rattle.hp_heap.specs.Growing.{CanGrow}
use Rattle.hp_heap.specs.Chunks.{CanAddChunk, CanRemoveChunk, HasChunk}

-- calls for chunks come from the participants 0 to 15
abbrev pub IsParticipant : ℕ → Type 0
IsParticipant participant = participant < 16

-- a participant may make a call of a heap
abbrev pub IsAllowed : ℕ → HeapCall → PlainHeap → Type 0
IsAllowed participant (call.Alloc request tag) heap = ⊤
IsAllowed participant (call.Find tag) heap = ⊤
IsAllowed participant (call.Free addr zone) heap = zone ≡ true → HasZoneAt addr heap
IsAllowed participant (call.Resize addr size) heap = CanAskSize addr size heap
IsAllowed participant (call.Grow run) heap = CanGrow run heap
IsAllowed participant (call.Cut addr) heap = ⊤
IsAllowed participant call.Stats heap = ⊤
IsAllowed participant (call.Name name socket) heap = ⊤
IsAllowed participant call.Unname heap = ⊤
IsAllowed participant (call.Chunk chunk) heap = IsParticipant participant × CanAddChunk chunk heap
IsAllowed participant (call.Unchunk addr len) heap = IsParticipant participant × CanRemoveChunk addr len heap
IsAllowed participant (call.Share addr len) heap = IsParticipant participant × HasChunk addr len heap
IsAllowed participant (call.Unshare addr len) heap = IsParticipant participant × HasChunk addr len heap
