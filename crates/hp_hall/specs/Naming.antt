-- What the names say of a heap, and which of its chunks have a participant's mark: the rule "Giving" of docs/HALLS.md.
use Rattle.std.specs.Prelude.{◌≡◌, ◌≢◌, ℕ, false, List, map, Option, IfSome, ⊤}
use Rattle.std.specs.List.{filter}
use Rattle.hp_base.specs.Flags.{has_bit}
use Rattle.hp_base.specs.declared.chunk.Chunk.{Chunk}
use Rattle.hp_base.specs.declared.span.Span.{Span}
use Rattle.hp_heap.specs.Allowed.{IsAllowed}
use Rattle.hp_heap.specs.ChunkOrder.{AreInOrder}
use Rattle.hp_heap.specs.Joining.{busy_at, is_zone_range, zone_ranges}
use Rattle.hp_heap.specs.PlainHeap.{PlainHeap}
use Rattle.hp_heap.specs.Step.{after}
use Rattle.hp_heap.specs.Tiling.{IsTiled}
use Rattle.hp_heap.specs.declared.entry.HeapCall.{HeapCall}
use Rattle.hp_heap.specs.declared.entry.HeapCall.TheVariants as call

-- a chunk but for its marks
abbrev pub unmarked : Chunk → Chunk
unmarked chunk = record chunk { attached = 0 }

-- what of a heap the names speak of: its name and its socket number, its chunks but for their marks, and the elements of memzones
pub record Naming : Type 0 where
  pub name : Option (List ℕ)
  pub socket : ℕ
  pub chunks : List Chunk
  pub zones : List Span

unfoldable pub naming_of : PlainHeap → Naming
naming_of heap = record { name = heap.name; socket = heap.socket; chunks = map unmarked heap.chunks; zones = zone_ranges heap }

-- the chunks of a heap that have a participant's mark
unfoldable pub marked_by : ℕ → PlainHeap → List Chunk
marked_by who heap = map unmarked (filter (λ chunk. has_bit chunk.attached who) heap.chunks)

-- nobody's marks have changed but those of one participant
abbrev pub MarksStayBut : ℕ → PlainHeap → PlainHeap → Type 0
MarksStayBut who old new = (other : ℕ) → other ≢ who → marked_by other new ≡ marked_by other old

-- a call touches nothing that the names speak of: it sets or clears no name, adds or removes no chunk, and has nothing to do with the element
-- of a memzone
abbrev pub IsBesideNames : HeapCall → PlainHeap → Type 0
IsBesideNames (call.Alloc request tag) heap = tag.zone ≡ false
IsBesideNames (call.Find tag) heap = ⊤
IsBesideNames (call.Free addr zone) heap = zone ≡ false
IsBesideNames (call.Resize addr size) heap = IfSome (busy_at addr heap) (λ range. is_zone_range range ≡ false)
IsBesideNames (call.Grow run) heap = ⊤
IsBesideNames (call.Cut addr) heap = ⊤
IsBesideNames call.Stats heap = ⊤
IsBesideNames (call.Name name socket) heap = ⊥
IsBesideNames call.Unname heap = ⊥
IsBesideNames (call.Chunk chunk) heap = ⊥
IsBesideNames (call.Unchunk addr len) heap = ⊥
IsBesideNames (call.Share addr len) heap = ⊤
IsBesideNames (call.Unshare addr len) heap = ⊤

-- all that the names speak of is as it was, and so are the marks of all but one participant
pub record LeavesNames (who : ℕ) (old new : PlainHeap) : Type 0 where
  pub naming : naming_of new ≡ naming_of old
  pub marks : MarksStayBut who old new

-- such a call of a participant leaves that of a tiled heap
abbrev pub CallsLeaveNames : Type 0
CallsLeaveNames = (participant : ℕ) (step : HeapCall) (heap : PlainHeap) → IsTiled heap → IsAllowed participant step heap
    → IsBesideNames step heap → LeavesNames participant heap (after participant step heap)

-- and every call, also one by which a chunk comes or goes, leaves the marks of all but its caller
abbrev pub CallsMarkAlone : Type 0
CallsMarkAlone = (participant : ℕ) (step : HeapCall) (heap : PlainHeap) → IsTiled heap → AreInOrder heap.chunks
    → IsAllowed participant step heap → MarksStayBut participant heap (after participant step heap)
