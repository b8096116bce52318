-- Worked values: what is left when external memory is in use, and lines of each kind that find their names, or find none.
use Rattle.std.proofs.Common.{◌≡◌, refl, ℕ, ◌+◌, ◌^◌, true, false, List, [], ◌∷◌, Some}
use Rattle.std.specs.Prelude.{codes}
use Rattle.hp_base.specs.Requests.{IsAccepted}
use Rattle.hp_base.specs.Place as place
use Rattle.hp_base.specs.Class as class
use Rattle.hp_base.specs.Flags as flags
use Rattle.hp_base.specs.declared.caught.Caught.TheVariants as caught
use Rattle.hp_base.specs.declared.stats.Stats.{Stats}
use Rattle.hp_heap.specs.Choice as choice
use Rattle.hp_heap.specs.Chunks as chunks
use Rattle.hp_heap.specs.History as history
use Rattle.hp_heap.specs.Placing as placing
use Rattle.hp_heap.specs.Step as step
use Rattle.hp_heap.specs.declared.entry.Entry.{Entry}
use Rattle.hp_heap.specs.declared.entry.HeapAnswer.TheVariants as gives
use Rattle.hp_heap.specs.declared.entry.HeapCall.TheVariants as call
use Rattle.hp_script.specs.declared.answer.Answer.TheVariants as answer
use Rattle.hp_script.specs.declared.line.Act.TheVariants as act
use Rattle.hp_zone.specs.Directory as directory
use Rattle.hp_zone.specs.declared.name_change.NameChange.TheVariants.{Unnamed}
use Rattle.hp_proc.specs.Courses.{chunks_after}
use Rattle.hp_proc.specs.LineTrees.{doing_of}
use Rattle.hp_proc.specs.Lines.{Facts}
use Rattle.hp_proc.specs.Doing.{Doing, Goes, Leads}
use Rattle.hp_proc.specs.Doing.Done.{Called, CaughtUp, HeapSeen, Looked, NamesChanged, NamesRead}
use Rattle.hp_proc.specs.ExternalLines as external
use Rattle.hp_proc.specs.SharedNames.{heaps_in, no_changes}
use Rattle.hp_proc.specs.SharedNames.NamesChange.{OfHeaps}
use Rattle.hp_proc.proofs.WorkedLines.WorkedExternal.{base, brought, entry, ext, facts, filled, len, line_of, named, own, part, shared, used}
use Rattle.hp_proc.proofs.WorkedLines.WorkedWatching.{cap, four}

-- external memory in which an element lies, of a heap whose name is taken
module _ (accepted : IsAccepted 1024 64 0) where
  still_one_chunk : Leads (doing_of (line_of 0 (act.Unheap (part ext))) (act.Unheap (part ext)) (facts []))
      (NamesRead filled ∷ HeapSeen 1 (used accepted) ∷ []) (Doing.Ended (answer.BusyChunks 1))
  unfolding Goes Leads doing_of directory.socket_name history.after_entry step.after step.after_name chunks.after_chunk chunks.after_share heaps_in external.external_heap placing.allocated placing.after_alloc placing.placed placing.pieces_of placing.insertions_of choice.chosen choice.eligible choice.is_attached place.place_of flags.is_hint flags.is_fitting_page class.class_number choice.precedes
  still_one_chunk = (filled, refl, (used accepted, refl, refl))

still_named : Leads (doing_of (line_of 0 (act.Heap (part ext))) (act.Heap (part ext)) (facts [])) (NamesRead filled ∷ [])
    (Doing.Ended answer.Exists)
unfolding Goes Leads doing_of directory.socket_name heaps_in
still_named = (filled, refl, refl)

-- `unmap`: memory without an element of one's own is left, and with it the chunk
memory_left : Leads (doing_of (line_of 0 (act.Unmap (part ext) base len)) (act.Unmap (part ext) base len) (facts (own 1 base ∷ [])))
    (NamesRead filled ∷ HeapSeen 1 (shared 0) ∷ Called 1 (call.Unshare base len) gives.Done ∷ []) (Doing.Ended answer.Done)
unfolding Goes Leads doing_of directory.socket_name history.after_entry step.after step.after_name chunks.after_chunk chunks.after_share heaps_in external.external_heap external.lowest_data chunks.chunk_at
memory_left = (filled, refl, (shared 0, refl, (gives.Done, refl, refl)))

no_chunk_left : chunks_after (act.Unmap (part ext) base len) answer.Done
    (NamesRead filled ∷ HeapSeen 1 (shared 0) ∷ Called 1 (call.Unshare base len) gives.Done ∷ []) (own 1 base ∷ []) ≡ []
no_chunk_left = refl

-- `unheap`: a heap without memory loses its name, in the directory and then itself
abbrev bare : List Entry
bare = entry 0 1 (call.Name ext 256) gives.Done ∷ []

a_heap_destroyed : Leads (doing_of (line_of 0 (act.Unheap (part ext))) (act.Unheap (part ext)) (facts []))
    (NamesRead named ∷ HeapSeen 1 bare ∷ NamesChanged (OfHeaps (Unnamed 1)) ∷ Called 1 call.Unname gives.Done ∷ [])
    (Doing.Ended answer.Done)
unfolding Goes Leads doing_of directory.socket_name history.after_entry step.after step.after_name heaps_in external.external_heap
a_heap_destroyed = (named, refl, (bare, refl, (tt, refl, (gives.Done, refl, refl))))

none_destroyed : Leads (doing_of (line_of 0 (act.Unheap (part ext))) (act.Unheap (part ext)) (facts [])) (NamesRead no_changes ∷ [])
    (Doing.Ended answer.NotFound)
unfolding Goes Leads doing_of directory.socket_name heaps_in
none_destroyed = (no_changes, refl, refl)

-- `remove`: there is no such chunk
none_removed : Leads (doing_of (line_of 0 (act.Remove (part ext) base 4096)) (act.Remove (part ext) base 4096) (facts []))
    (NamesRead filled ∷ HeapSeen 1 brought ∷ []) (Doing.Ended answer.NoChunk)
unfolding Goes Leads doing_of directory.socket_name history.after_entry step.after step.after_name chunks.after_chunk chunks.chunk_at heaps_in external.external_heap
none_removed = (filled, refl, (brought, refl, refl))

-- `dump` and `stats`: a heap that has the name, and none
abbrev counts : Stats
counts = record { total = len; free = len; used = 0; greatest = len; busy = 0; frees = 1 }

a_dump : Leads (doing_of (line_of 1 (act.Dump (part ext))) (act.Dump (part ext)) (facts []))
    (NamesRead filled ∷ Called 1 call.Stats (gives.Statistics counts) ∷ []) (Doing.Ended (answer.Statistics counts))
unfolding Goes Leads doing_of directory.socket_name heaps_in
a_dump = (filled, refl, (gives.Statistics counts, refl, refl))

none_dumped : Leads (doing_of (line_of 1 (act.Dump (part ext))) (act.Dump (part ext)) (facts [])) (NamesRead no_changes ∷ [])
    (Doing.Ended answer.NotFound)
unfolding Goes Leads doing_of directory.socket_name heaps_in
none_dumped = (no_changes, refl, refl)

none_counted : Leads (doing_of (line_of 1 (act.Stats (part ext))) (act.Stats (part ext)) (facts [])) (NamesRead no_changes ∷ [])
    (Doing.Ended answer.NotFound)
unfolding Goes Leads doing_of directory.socket_name heaps_in
none_counted = (no_changes, refl, refl)

-- `unzone`: no memzone has the name
none_freed : Leads (doing_of (line_of 1 (act.Unzone (part ext))) (act.Unzone (part ext)) (facts [])) (NamesRead no_changes ∷ [])
    (Doing.Ended answer.NotFound)
unfolding Goes Leads doing_of
none_freed = (no_changes, refl, refl)

-- `resize`: the name is a memzone's, whose element is found and stays as it is
abbrev of_a_zone : Facts
of_a_zone = record (facts []) { maker = Some (record { line = 2; participant = 0; zone = true }) }

a_resize_refused : Leads (doing_of (line_of 0 (act.Resize (part ext) 100)) (act.Resize (part ext) 100) of_a_zone)
    (NamesRead no_changes ∷ Called 0 (call.Find (record { who = 0; zone = true; number = 2 })) (gives.Address (2 ^ 32 + 128)) ∷ [])
    (Doing.Ended answer.IsZone)
unfolding Goes Leads doing_of directory.socket_name heaps_in
a_resize_refused = (no_changes, refl, (gives.Address (2 ^ 32 + 128), refl, refl))

-- `watch` and `unwatch`, `limit` and `unlimit`, by what the participant has registered
abbrev registered : Facts
registered = record (facts []) { watchers = four; validators = cap false ∷ [] }

a_watch : Leads (doing_of (line_of 0 (act.Watch (part (codes "w")))) (act.Watch (part (codes "w"))) (facts [])) [] (Doing.Ended answer.Done)
unfolding Leads doing_of
a_watch = refl

watched_already : Leads (doing_of (line_of 0 (act.Watch (part (codes "c")))) (act.Watch (part (codes "c"))) registered) []
    (Doing.Ended answer.Exists)
unfolding Leads doing_of
watched_already = refl

a_fifth : Leads (doing_of (line_of 0 (act.Watch (part (codes "w")))) (act.Watch (part (codes "w"))) registered) [] (Doing.Ended answer.Full)
unfolding Leads doing_of
a_fifth = refl

an_unwatch : Leads (doing_of (line_of 0 (act.Unwatch (part (codes "c")))) (act.Unwatch (part (codes "c"))) registered) []
    (Doing.Ended answer.Done)
unfolding Leads doing_of
an_unwatch = refl

none_watches : Leads (doing_of (line_of 0 (act.Unwatch (part (codes "w")))) (act.Unwatch (part (codes "w"))) registered) []
    (Doing.Ended answer.NotFound)
unfolding Leads doing_of
none_watches = refl

limited_already : Leads (doing_of (line_of 0 (act.Limit (part (codes "cap")) 0 100 true)) (act.Limit (part (codes "cap")) 0 100 true) registered)
    [] (Doing.Ended answer.Exists)
unfolding Leads doing_of
limited_already = refl

an_unlimit : Leads (doing_of (line_of 0 (act.Unlimit (part (codes "cap")) 0)) (act.Unlimit (part (codes "cap")) 0) registered) []
    (Doing.Ended answer.Done)
unfolding Leads doing_of
an_unlimit = refl

none_limits : Leads (doing_of (line_of 0 (act.Unlimit (part (codes "cap")) 1)) (act.Unlimit (part (codes "cap")) 1) registered) []
    (Doing.Ended answer.NotFound)
unfolding Leads doing_of
none_limits = refl

-- a name of 64 letters is none for a watcher or a validator
abbrev long_name : List ℕ
long_name = codes "wwwwwwwwwwwwwwwwwwwwwwwwwwwwwwwwwwwwwwwwwwwwwwwwwwwwwwwwwwwwwwww"

a_long_watcher : Leads (doing_of (line_of 0 (act.Watch (part long_name))) (act.Watch (part long_name)) registered) []
    (Doing.Ended answer.NameTooLong)
unfolding Leads doing_of
a_long_watcher = refl

no_long_watcher : Leads (doing_of (line_of 0 (act.Unwatch (part long_name))) (act.Unwatch (part long_name)) registered) []
    (Doing.Ended answer.NameTooLong)
unfolding Leads doing_of
no_long_watcher = refl

a_long_limit : Leads (doing_of (line_of 0 (act.Limit (part long_name) 0 100 false)) (act.Limit (part long_name) 0 100 false) registered) []
    (Doing.Ended answer.NameTooLong)
unfolding Leads doing_of
a_long_limit = refl

-- `attach`, and who is out: every other line but an `await` is refused
abbrev out : Facts
out = record (facts []) { attached = false }

an_attach : Leads (doing_of (line_of 1 act.Attach) act.Attach out) (Looked 2 ∷ CaughtUp 2 caught.Done ∷ []) (Doing.Ended (answer.Records 2))
unfolding Goes Leads doing_of
an_attach = (2, refl, (caught.Done, refl, refl))

attached_already : Leads (doing_of (line_of 1 act.Attach) act.Attach (facts [])) [] (Doing.Ended answer.Already)
unfolding Leads doing_of
attached_already = refl

out_of_the_roster : Leads (doing_of (line_of 1 (act.Heap (part ext))) (act.Heap (part ext)) out) [] (Doing.Ended answer.Detached)
unfolding Leads doing_of
out_of_the_roster = refl

awaits_outside : Leads (doing_of (line_of 1 (act.Await 0 2)) (act.Await 0 2) out) [] (Doing.Ended answer.Done)
unfolding Leads doing_of
awaits_outside = refl
