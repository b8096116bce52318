-- What participants are given of external memory: the rule "External memory" of docs/HEAP.md.
use Rattle.std.specs.Prelude.{◌≡◌, ℕ, ◌+◌, ◌≤◌, true, List, ◌∷◌, ◌++◌, Contains, None}
use Rattle.std.specs.List.{All}
use Rattle.hp_base.specs.Flags.{has_bit}
use Rattle.hp_base.specs.declared.chunk.Chunk.{Chunk}
use Rattle.hp_base.specs.declared.request.Request.{Request}
use Rattle.hp_base.specs.declared.tag.Caller.{Caller}
use Rattle.hp_base.specs.declared.tag.Tag.{Tag}
use Rattle.hp_heap.specs.History.{HeapView, opening_of, replay}
use Rattle.hp_heap.specs.PlainHeap.{PlainHeap}
use Rattle.hp_heap.specs.declared.entry.Entry.{Entry}
use Rattle.hp_heap.specs.declared.entry.HeapAnswer.TheVariants as answer
use Rattle.hp_heap.specs.declared.entry.HeapCall.TheVariants as call
use Rattle.hp_maps.specs.declared.table.Table.{Table}
use Rattle.hp_script.specs.declared.answer.Answer.{Answer}
use Rattle.hp_script.specs.declared.workload.Workload.{Workload}
use Rattle.hp_segs.specs.SegsView.{SegsView}
use Rattle.hp_proc.specs.Ends.{IsEnd}

-- memory lies in one chunk of a heap, on which a participant has its mark
pub record IsInAttached (participant addr size : ℕ) (heap : PlainHeap) : Type 0 where
  pub chunk : Chunk
  pub among : Contains heap.chunks chunk
  pub marked : has_bit chunk.attached participant ≡ true
  pub from : chunk.addr ≤ addr
  pub to : addr + size ≤ chunk.addr + chunk.len

-- a participant is given only memory of chunks that it has attached: wherever a heap for external memory answered an allocation with an
-- address, all that was asked for lies there in a chunk with its participant's mark, as the entries before left the heap
abbrev pub GivesAttached : HeapView → Type 0
GivesAttached heap = (before after : List Entry) (caller : Caller) (request : Request) (tag : Tag) (addr : ℕ)
    → heap.history ≡ before ++ record { caller = caller; call = call.Alloc request tag; answer = answer.Address addr } ∷ after
    → heap.plain.serves ≡ None → IsInAttached caller.participant addr request.size (replay (opening_of heap.plain) before)

-- so did each heap, at the end of a run
abbrev pub EndsGiveAttached : Type 0
EndsGiveAttached = (workload : Workload) (answers : List Answer) (heaps : List HeapView) (segs : SegsView) (tables : List Table)
    → IsEnd workload answers heaps segs tables → All GivesAttached heaps
