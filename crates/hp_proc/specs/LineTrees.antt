-- What each line of the language does, by what is known before it and by what it is handed: the rule "What each line does" of
-- docs/PARTICIPANTS.md.
use Rattle.std.specs.Prelude.{ℕ, List, find, Option, Some, None, is_some, if◌then◌else◌}
use Rattle.std.specs.Option.{option_to_list}
use Rattle.hp_base.specs.Requests.{refusal_of}
use Rattle.hp_base.specs.declared.tag.Tag.{Tag}
use Rattle.hp_script.specs.declared.answer.Answer.TheVariants as answer
use Rattle.hp_script.specs.declared.line.Act.{Act}
use Rattle.hp_script.specs.declared.line.Act.TheVariants as act
use Rattle.hp_script.specs.declared.line.Line.{Line}
use Rattle.hp_script.specs.declared.options.Options.{Options}
use Rattle.hp_heap.specs.Chunks.{chunk_at}
use Rattle.hp_heap.specs.PlainHeap.{PlainHeap}
use Rattle.hp_base.specs.declared.pool_line.PoolLine.{PoolLine}
use Rattle.hp_proc.specs.Courses.{searched_heap_at}
use Rattle.hp_proc.specs.Doing.{Doing}
use Rattle.hp_proc.specs.ExternalLines.{adding_memory, destroying, destroying_heap, leaving_all, leaving_chunk, leaving_memory, making, making_heap, mapping, mapping_memory, planning, removing, removing_memory}
use Rattle.hp_proc.specs.Freeing.{freeing, if_sized, looking, resize_refusal, resizing_to}
use Rattle.hp_proc.specs.Heaps.{has_name}
use Rattle.hp_proc.specs.Lines.{Facts, Maker, allocating, allocating_by, attaching, by_heaps, dumping, if_attached, is_own_maker, places_of, reading_names, reading_stats, tag_made, tag_of}
use Rattle.hp_proc.specs.Registering.{limiting, unlimiting, unwatching, watching}
use Rattle.hp_proc.specs.SharedNames.{SharedNames, directory_in, meant_by, meant_in, zone_named, zones_in}
use Rattle.hp_proc.specs.ZoneLines.{found_zone, freeing_zone, reserving, zone_fault}
use Rattle.hp_proc.specs.declared.searched_heap.SearchedHeap.{SearchedHeap}

-- what a line on an external heap does, once it has read the names. A line on a chunk that may be attached goes by the heap's name as it stands,
-- which it does not judge
abbrev pub doing_named : ℕ → List PoolLine → Act → SharedNames → Doing
doing_named who pools (act.Heap name) names = making_heap name.text (directory_in pools names)
doing_named who pools (act.Unheap name) names = destroying_heap (meant_by name.text (directory_in pools names))
doing_named who pools (act.Add heap addr len page) names =
    adding_memory addr len page (meant_by heap.text (directory_in pools names))
doing_named who pools (act.Remove heap addr len) names = removing_memory addr len (meant_by heap.text (directory_in pools names))
doing_named who pools (act.Map heap addr len) names = mapping_memory who addr len (meant_in heap.text (directory_in pools names))
doing_named who pools (act.Unmap heap addr len) names = leaving_memory who addr len (meant_in heap.text (directory_in pools names))
doing_named who pools _ names = Doing.Ended answer.NotFound

-- and what it does with that heap in hand, whose state it has been handed
abbrev pub doing_held : ℕ → List PoolLine → Act → SharedNames → PlainHeap → Doing
doing_held who pools (act.Heap name) names heap = making name.text (directory_in pools names).next (Some heap.index)
doing_held who pools (act.Unheap name) names heap = destroying heap.index heap
doing_held who pools (act.Add name addr len page) names heap = planning addr len page heap.index heap.socket
doing_held who pools (act.Remove name addr len) names heap = removing heap.index addr len heap (chunk_at addr len heap)
doing_held who pools (act.Map name addr len) names heap = mapping who heap.index addr len (chunk_at addr len heap)
doing_held who pools (act.Unmap name addr len) names heap = leaving_chunk who heap.index addr len heap (chunk_at addr len heap)
doing_held who pools _ names heap = Doing.Ended answer.NotFound

-- an allocation: the heaps of sockets are known, so the names are read only where a heap is asked for by name, and only for a request that
-- is not refused
abbrev pub allocating_line : Facts → Tag → ℕ → Options → Doing
allocating_line facts tag size options =
    if is_some options.heap
    then if_sized (refusal_of size options.align options.bound) (by_heaps facts (λ named. allocating_by named facts tag size options))
    else allocating facts tag size options

-- the element that a label or name stands for is looked for: one's own in the heap that answered it, and any other in all heaps that have a
-- name, by rising index
abbrev pub on_made : ℕ → Facts → (Tag → List SearchedHeap → Doing) → Option Maker → Doing
on_made who facts goes None = Doing.Ended answer.NoElement
on_made who facts goes (Some maker) =
    if is_own_maker who maker then goes (tag_made who maker) (option_to_list facts.own_heap)
    else by_heaps facts (λ named. goes (tag_made who maker) (places_of named))

-- a reservation, under the names that are handed
abbrev pub reserving_line : Facts → Line → List ℕ → ℕ → Options → SharedNames → Doing
reserving_line facts line text len options names =
    reserving (directory_in facts.pools names) facts line text len options (zone_fault (zones_in names) text len options)

-- what a line does
unfoldable pub doing_of : Line → Act → Facts → Doing
doing_of line (act.Alloc label size options) facts = if_attached facts.attached (allocating_line facts (tag_of line) size options)
doing_of line (act.Free label) facts =
    if_attached facts.attached (on_made line.participant facts (λ tag. looking tag freeing) facts.maker)
doing_of line (act.Resize label size) facts =
    if_attached facts.attached
    (if_sized (resize_refusal size) (on_made line.participant facts (resizing_to size) facts.maker))
doing_of line (act.Zone name len options) facts =
    if_attached facts.attached (reading_names (reserving_line facts line name.text len options))
doing_of line (act.Lookup name) facts =
    if_attached facts.attached (reading_names (λ names. found_zone (zone_named name.text names)))
doing_of line (act.Unzone name) facts =
    if_attached facts.attached
    (reading_names (λ names. freeing_zone (searched_heap_at facts.pools) (zone_named name.text names)))
doing_of line act.Attach facts = attaching facts.attached
doing_of line act.Detach facts = if_attached facts.attached (leaving_all facts.chunks)
doing_of line (act.Heap name) facts = if_attached facts.attached (reading_names (doing_named line.participant facts.pools (act.Heap name)))
doing_of line (act.Unheap name) facts = if_attached facts.attached (reading_names (doing_named line.participant facts.pools (act.Unheap name)))
doing_of line (act.Add heap addr len page) facts =
    if_attached facts.attached (reading_names (doing_named line.participant facts.pools (act.Add heap addr len page)))
doing_of line (act.Remove heap addr len) facts =
    if_attached facts.attached (reading_names (doing_named line.participant facts.pools (act.Remove heap addr len)))
doing_of line (act.Map heap addr len) facts =
    if_attached facts.attached (reading_names (doing_named line.participant facts.pools (act.Map heap addr len)))
doing_of line (act.Unmap heap addr len) facts =
    if_attached facts.attached (reading_names (doing_named line.participant facts.pools (act.Unmap heap addr len)))
doing_of line (act.Watch name) facts = if_attached facts.attached (Doing.Ended (watching facts.watchers name.text))
doing_of line (act.Unwatch name) facts = if_attached facts.attached (Doing.Ended (unwatching facts.watchers name.text))
doing_of line (act.Limit name socket bytes allow) facts =
    if_attached facts.attached (Doing.Ended (limiting facts.validators name.text socket))
doing_of line (act.Unlimit name socket) facts =
    if_attached facts.attached (Doing.Ended (unlimiting facts.validators name.text socket))
doing_of line (act.Await other lines) facts = Doing.Ended answer.Done
doing_of line (act.Dump heap) facts =
    if_attached facts.attached (by_heaps facts (λ named. dumping (find (has_name heap.text) named)))
doing_of line (act.Stats heap) facts =
    if_attached facts.attached (by_heaps facts (λ named. reading_stats (find (has_name heap.text) named)))
