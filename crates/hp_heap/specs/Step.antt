-- The steps of a heap, what each call makes of it and answers: the rule "History" of docs/HEAP.md.
use Rattle.std.specs.Prelude.{ℕ, Bool, not, ◌&&◌, List, Option, Some, None, if◌then◌else◌}
use Rattle.std.specs.Option.{option_map}
use Rattle.std.specs.List.{find}
use Rattle.hp_base.specs.declared.span.Span.{Span}
use Rattle.hp_base.specs.declared.row.Run.{Run}
use Rattle.hp_base.specs.declared.tag.Tag.{Tag}
use Rattle.hp_heap.specs.declared.entry.HeapCall.{HeapCall}
use Rattle.hp_heap.specs.declared.entry.HeapCall.TheVariants as call
use Rattle.hp_heap.specs.declared.entry.HeapAnswer.{HeapAnswer}
use Rattle.hp_heap.specs.declared.entry.HeapAnswer.TheVariants as answer
use Rattle.hp_heap.specs.PlainHeap.{PlainHeap, data_address}
use Rattle.hp_heap.specs.Placing.{after_alloc, allocated}
use Rattle.hp_heap.specs.Joining.{after_free, busy_at, is_zone_range, has_tag}
use Rattle.hp_heap.specs.Resizing.{after_resize, can_resize}
use Rattle.hp_heap.specs.Cut.{after_cut, cut_at, run_of}
use Rattle.hp_heap.specs.Growing.{after_grow}
use Rattle.hp_heap.specs.Chunks.{after_chunk, after_unchunk, after_share, after_unshare}
use Rattle.hp_heap.specs.Statistics.{statistics_of}

-- the heap with a name and a socket number, and without
unfoldable pub after_name : Option (List ℕ) → ℕ → PlainHeap → PlainHeap
after_name name socket heap = record heap { name = name; socket = socket }

-- the heap after a call of a participant
unfoldable pub after : ℕ → HeapCall → PlainHeap → PlainHeap
after participant (call.Alloc request tag) heap = after_alloc participant request tag heap
after participant (call.Find tag) heap = heap
after participant (call.Free addr zone) heap = after_free addr zone heap
after participant (call.Resize addr size) heap = after_resize addr size heap
after participant (call.Grow run) heap = after_grow run heap
after participant (call.Cut addr) heap = after_cut addr heap
after participant call.Stats heap = heap
after participant (call.Name name socket) heap = after_name (Some name) socket heap
after participant call.Unname heap = after_name None 0 heap
after participant (call.Chunk chunk) heap = after_chunk chunk heap
after participant (call.Unchunk addr len) heap = after_unchunk addr len heap
after participant (call.Share addr len) heap = after_share participant addr len heap
after participant (call.Unshare addr len) heap = after_unshare participant addr len heap

-- an address, or that there is none
abbrev pub address_answer : Option ℕ → HeapAnswer
address_answer None = answer.Nothing
address_answer (Some address) = answer.Address address

-- the data address of the first busy element with a tag's zone mark and number
unfoldable pub found : Tag → PlainHeap → Option ℕ
found tag heap = option_map data_address (find (has_tag tag.zone tag.number) heap.ranges)

abbrev pub free_answer : Option Span → Bool → HeapAnswer
free_answer None zone = answer.NotAnElement
free_answer (Some range) zone = if is_zone_range range && not zone then answer.IsZone else answer.Done

abbrev pub resize_answer : Bool → HeapAnswer
resize_answer fits = if fits then answer.Yes else answer.No

abbrev pub run_answer : Option Run → HeapAnswer
run_answer None = answer.Nothing
run_answer (Some run) = answer.Pages run

-- what a call of a participant answers
unfoldable pub answer_of : ℕ → HeapCall → PlainHeap → HeapAnswer
answer_of participant (call.Alloc request tag) heap = address_answer (allocated participant request heap)
answer_of participant (call.Find tag) heap = address_answer (found tag heap)
answer_of participant (call.Free addr zone) heap = free_answer (busy_at addr heap) zone
answer_of participant (call.Resize addr size) heap = resize_answer (can_resize addr size heap)
answer_of participant (call.Grow run) heap = answer.Done
answer_of participant (call.Cut addr) heap = run_answer (option_map run_of (cut_at addr heap))
answer_of participant call.Stats heap = answer.Statistics (statistics_of heap)
answer_of participant (call.Name name socket) heap = answer.Done
answer_of participant call.Unname heap = answer.Done
answer_of participant (call.Chunk chunk) heap = answer.Done
answer_of participant (call.Unchunk addr len) heap = answer.Done
answer_of participant (call.Share addr len) heap = answer.Done
answer_of participant (call.Unshare addr len) heap = answer.Done
