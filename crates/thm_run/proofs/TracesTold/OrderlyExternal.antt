-- The lines of external heaps and of memzones go orderly to their ends: they look at no log, and what they allocate is as in any other line.
use Rattle.std.proofs.Common.{◌≡◌, ◌∙◌, ◌==◌, ◌-◌, ℕ, Bool, true, false, not, List, [], ◌∷◌, ◌++◌, append-nil, length, map, Option, Some, None, Result, Ok, Err, is_some, find, refl, ap, sym, subst, if◌then◌else◌}
use Rattle.std.specs.List.{list_any}
use Rattle.std.specs.Prelude.{◌^◌, min}
use Rattle.std.proofs.lemmas.List.{map-append}
use Rattle.hp_base.specs.Flags.{has_bit}
use Rattle.hp_base.specs.declared.caught.Caught.{Caught}
use Rattle.hp_base.specs.declared.caught.Caught.TheVariants as caught
use Rattle.hp_base.specs.declared.chunk.Chunk.{Chunk}
use Rattle.hp_base.specs.declared.pool_line.PoolLine.{PoolLine}
use Rattle.hp_heap.specs.Chunks.{chunk_at}
use Rattle.hp_heap.specs.PlainHeap.{PlainHeap}
use Rattle.hp_heap.specs.declared.entry.HeapAnswer.{HeapAnswer}
use Rattle.hp_heap.specs.declared.entry.HeapCall.{HeapCall}
use Rattle.hp_heap.specs.declared.entry.HeapCall.TheVariants as call
use Rattle.hp_heap.specs.HistoryLaws.{run_grown}
use Rattle.hp_script.specs.declared.answer.Answer.{Answer}
use Rattle.hp_script.specs.declared.answer.Answer.TheVariants as answer
use Rattle.hp_segs.specs.declared.fault.RangeFault.{RangeFault}
use Rattle.hp_segs.specs.declared.fault.RangeFault.TheVariants as range
use Rattle.hp_zone.specs.Directory.{PlainDirectory}
use Rattle.hp_zone.specs.declared.name_change.NameChange.TheVariants.{Named, Range, RangeGone, Unnamed}
use Rattle.hp_proc.specs.Doing.{Deed, Doing, Done, Given, Goes, Leads, gave}
use Rattle.hp_proc.specs.Doing.Done.{Asked, Called, NamesChanged}
use Rattle.hp_proc.specs.ExternalLines.{adding, adding_memory, calling, changing, chunk_mapped, destroying, destroying_heap, external_heap, leaving_all, leaving_chunk, leaving_memory, leaving_unless, lowest_data, lowest_member, making, making_heap, mapping, mapping_memory, on_chunks_of, on_external, planning, removing, removing_memory, removing_unless, seeing_heap}
use Rattle.hp_proc.specs.Heaps.{has_name}
use Rattle.hp_proc.specs.SharedNames.{HeapMeant, NamesChange, heaps_in, is_short_name, next_index}
use Rattle.hp_proc.specs.SharedNames.HeapMeant.{External, NoHeap, NoName, OfSocket}
use Rattle.hp_proc.specs.SharedNames.NamesChange.{OfHeaps}
use Rattle.hp_proc.specs.ZoneLines.{continued, last_called}
use Rattle.hp_proc.specs.declared.own_chunk.OwnChunk.{OwnChunk}
use Rattle.thm_run.proofs.TracesTold.OrderlyTraces.{CutsNone, GoesOrderly, IsOrderly, asked_behind, call_orderly, ended_orderly, ends, goes_on, is_granted, tells, then_orderly}

module _ (looks : Bool) where
  -- a call that a heap only does, or a change of the names, and then a tree that is orderly
  pub calling_orderly : (heap : ℕ) (step : HeapCall) (doing : Doing) → run_grown step ≡ [] → ((found : HeapAnswer) → CutsNone step found)
      → GoesOrderly looks false doing → GoesOrderly looks false (calling heap step doing)
  calling_orderly heap step doing none cuts goes = call_orderly looks false heap step (λ _. doing) none cuts (λ found. goes)

  pub changing_orderly : (change : NamesChange) (doing : Doing) → GoesOrderly looks false doing → GoesOrderly looks false (changing change doing)
  changing_orderly change doing goes = then_orderly looks false (Deed.ChangeNames change) (λ _. doing) (λ found. tt) (λ found. goes)

  -- a heap that is looked at, a name that is judged
  seeing_orderly : (index : ℕ) (goes : PlainHeap → Doing) → ((heap : PlainHeap) → GoesOrderly looks false (goes heap))
      → GoesOrderly looks false (seeing_heap index goes)
  seeing_orderly index goes each =
      then_orderly looks false (Deed.SeeHeap index) (λ history. goes (external_heap index history)) (λ history. tt)
      (λ history. each (external_heap index history))

  external_orderly : (goes : ℕ → ℕ → Doing) → ((index socket : ℕ) → GoesOrderly looks false (goes index socket)) → (meant : HeapMeant)
      → GoesOrderly looks false (on_external goes meant)
  external_orderly goes each NoName = ended_orderly looks answer.BadName false
  external_orderly goes each NoHeap = ended_orderly looks answer.NotFound false
  external_orderly goes each OfSocket = ended_orderly looks answer.SocketHeap false
  external_orderly goes each (External index socket) = each index socket

  chunks_orderly : (goes : ℕ → Doing) → ((index : ℕ) → GoesOrderly looks false (goes index)) → (meant : HeapMeant)
      → GoesOrderly looks false (on_chunks_of goes meant)
  chunks_orderly goes each NoName = ended_orderly looks answer.NotFound false
  chunks_orderly goes each NoHeap = ended_orderly looks answer.NotFound false
  chunks_orderly goes each OfSocket = ended_orderly looks answer.NoChunk false
  chunks_orderly goes each (External index socket) = each index

  -- `heap`
  making_orderly : (text : List ℕ) (socket : ℕ) (index : Option ℕ) → GoesOrderly looks false (making text socket index)
  making_orderly text socket None = ended_orderly looks answer.NoSpace false
  making_orderly text socket (Some index) =
      changing_orderly (OfHeaps (Named index socket text)) (calling index (call.Name text socket) (Doing.Ended (answer.Socket socket)))
      (calling_orderly index (call.Name text socket) (Doing.Ended (answer.Socket socket)) refl (λ found. tt)
      (ended_orderly looks (answer.Socket socket) false))

  pub heap_orderly : (text : List ℕ) (plain : PlainDirectory) → GoesOrderly looks false (making_heap text plain)
  heap_orderly text plain = by_name (is_short_name text) (list_any (has_name text) (heaps_in plain))
    where
      by_name : (short exists : Bool) → GoesOrderly looks false
          (if not short then Doing.Ended answer.BadName
          else (if exists then Doing.Ended answer.Exists else making text plain.next (next_index plain)))
      by_name false exists = ended_orderly looks answer.BadName false
      by_name true true = ended_orderly looks answer.Exists false
      by_name true false = making_orderly text plain.next (next_index plain)

  -- `unheap`
  destroying_orderly : (index : ℕ) (heap : PlainHeap) → GoesOrderly looks false (destroying index heap)
  destroying_orderly index heap = by_count (length heap.chunks == 0)
    where
      by_count : (none : Bool) → GoesOrderly looks false
          (if none then changing (OfHeaps (Unnamed index)) (calling index call.Unname (Doing.Ended answer.Done))
          else Doing.Ended (answer.BusyChunks (min (length heap.chunks) (2 ^ 32 - 1))))
      by_count true =
          changing_orderly (OfHeaps (Unnamed index)) (calling index call.Unname (Doing.Ended answer.Done))
          (calling_orderly index call.Unname (Doing.Ended answer.Done) refl (λ found. tt) (ended_orderly looks answer.Done false))
      by_count false = ended_orderly looks (answer.BusyChunks (min (length heap.chunks) (2 ^ 32 - 1))) false

  pub unheap_orderly : (meant : HeapMeant) → GoesOrderly looks false (destroying_heap meant)
  unheap_orderly =
      external_orderly (λ index socket. seeing_heap index (destroying index))
      (λ index socket. seeing_orderly index (destroying index) (destroying_orderly index))

  -- `add`
  adding_orderly : (addr len page index socket : ℕ) (plan : Result ℕ RangeFault) → GoesOrderly looks false (adding addr len page index socket plan)
  adding_orderly addr len page index socket (Ok list) =
      let chunk : Chunk = record { list = list; addr = addr; len = len; page = page; socket = socket; attached = 0 } in
      changing_orderly (OfHeaps (Range index addr len page)) (calling index (call.Chunk chunk) (Doing.Ended answer.Done))
      (calling_orderly index (call.Chunk chunk) (Doing.Ended answer.Done) refl (λ found. tt) (ended_orderly looks answer.Done false))
  adding_orderly addr len page index socket (Err range.BadRange) = ended_orderly looks answer.BadRange false
  adding_orderly addr len page index socket (Err (range.Overlaps row)) = ended_orderly looks (answer.Overlaps row.addr) false
  adding_orderly addr len page index socket (Err range.NoSpace) = ended_orderly looks answer.NoSpace false
  adding_orderly addr len page index socket (Err range.OutOfMemory) = ended_orderly looks answer.NoSpace false

  pub add_orderly : (addr len page : ℕ) (meant : HeapMeant) → GoesOrderly looks false (adding_memory addr len page meant)
  add_orderly addr len page =
      external_orderly (planning addr len page)
      (λ index socket.
      then_orderly looks false (Deed.PlanRange addr len page) (adding addr len page index socket) (λ plan. tt)
      (adding_orderly addr len page index socket))

  -- `remove`
  unless_orderly : (index addr len : ℕ) (lowest member : Option ℕ) → GoesOrderly looks false (removing_unless index addr len lowest member)
  unless_orderly index addr len (Some address) member = ended_orderly looks (answer.BusyAddress address) false
  unless_orderly index addr len None (Some participant) = ended_orderly looks (answer.Attached participant) false
  unless_orderly index addr len None None =
      changing_orderly (OfHeaps (RangeGone index addr)) (calling index (call.Unchunk addr len) (Doing.Ended answer.Done))
      (calling_orderly index (call.Unchunk addr len) (Doing.Ended answer.Done) refl (λ found. tt) (ended_orderly looks answer.Done false))

  removing_orderly : (index addr len : ℕ) (heap : PlainHeap) (chunk : Option Chunk) → GoesOrderly looks false (removing index addr len heap chunk)
  removing_orderly index addr len heap None = ended_orderly looks answer.NoChunk false
  removing_orderly index addr len heap (Some chunk) = unless_orderly index addr len (lowest_data None chunk heap) (lowest_member chunk)

  pub remove_orderly : (addr len : ℕ) (meant : HeapMeant) → GoesOrderly looks false (removing_memory addr len meant)
  remove_orderly addr len =
      external_orderly (λ index socket. seeing_heap index (λ heap. removing index addr len heap (chunk_at addr len heap)))
      (λ index socket.
      seeing_orderly index (λ heap. removing index addr len heap (chunk_at addr len heap))
      (λ heap. removing_orderly index addr len heap (chunk_at addr len heap)))

  -- `map`
  mapped_orderly : (index addr len : ℕ) (ended : Caught) → GoesOrderly looks false (chunk_mapped index addr len ended)
  mapped_orderly index addr len caught.Done =
      calling_orderly index (call.Share addr len) (Doing.Ended answer.Done) refl (λ found. tt) (ended_orderly looks answer.Done false)
  mapped_orderly index addr len (caught.Refused row number) = ended_orderly looks (answer.Refused number) false
  mapped_orderly index addr len (caught.Elsewhere row number got) = ended_orderly looks (answer.Refused number) false

  mapping_orderly : (who index addr len : ℕ) (chunk : Option Chunk) → GoesOrderly looks false (mapping who index addr len chunk)
  mapping_orderly who index addr len None = ended_orderly looks answer.NoChunk false
  mapping_orderly who index addr len (Some chunk) = by_mark (has_bit chunk.attached who)
    where
      by_mark : (marked : Bool) → GoesOrderly looks false
          (if marked then Doing.Ended answer.Already else Doing.Then (Deed.MapChunk chunk) (chunk_mapped index addr len))
      by_mark true = ended_orderly looks answer.Already false
      by_mark false =
          then_orderly looks false (Deed.MapChunk chunk) (chunk_mapped index addr len) (λ ended. tt) (mapped_orderly index addr len)

  pub map_orderly : (who addr len : ℕ) (meant : HeapMeant) → GoesOrderly looks false (mapping_memory who addr len meant)
  map_orderly who addr len =
      chunks_orderly (λ index. seeing_heap index (λ heap. mapping who index addr len (chunk_at addr len heap)))
      (λ index.
      seeing_orderly index (λ heap. mapping who index addr len (chunk_at addr len heap))
      (λ heap. mapping_orderly who index addr len (chunk_at addr len heap)))

  -- `unmap`
  left_orderly : (index addr len : ℕ) (lowest : Option ℕ) → GoesOrderly looks false (leaving_unless index addr len lowest)
  left_orderly index addr len (Some address) = ended_orderly looks (answer.InUse address) false
  left_orderly index addr len None =
      calling_orderly index (call.Unshare addr len) (Doing.Ended answer.Done) refl (λ found. tt) (ended_orderly looks answer.Done false)

  leaving_orderly : (who index addr len : ℕ) (heap : PlainHeap) (chunk : Option Chunk)
      → GoesOrderly looks false (leaving_chunk who index addr len heap chunk)
  leaving_orderly who index addr len heap None = ended_orderly looks answer.NoChunk false
  leaving_orderly who index addr len heap (Some chunk) = by_mark (has_bit chunk.attached who)
    where
      by_mark : (marked : Bool) → GoesOrderly looks false
          (if marked then leaving_unless index addr len (lowest_data (Some who) chunk heap) else Doing.Ended answer.NotAttached)
      by_mark true = left_orderly index addr len (lowest_data (Some who) chunk heap)
      by_mark false = ended_orderly looks answer.NotAttached false

  pub unmap_orderly : (who addr len : ℕ) (meant : HeapMeant) → GoesOrderly looks false (leaving_memory who addr len meant)
  unmap_orderly who addr len =
      chunks_orderly (λ index. seeing_heap index (λ heap. leaving_chunk who index addr len heap (chunk_at addr len heap)))
      (λ index.
      seeing_orderly index (λ heap. leaving_chunk who index addr len heap (chunk_at addr len heap))
      (λ heap. leaving_orderly who index addr len heap (chunk_at addr len heap)))

  -- `detach`
  pub leave_orderly : (chunks : List OwnChunk) → GoesOrderly looks false (leaving_all chunks)
  leave_orderly [] = ended_orderly looks answer.Done false
  leave_orderly (chunk ∷ chunks) =
      calling_orderly chunk.heap (call.Unshare chunk.addr chunk.len) (leaving_all chunks) refl (λ found. tt) (leave_orderly chunks)
