-- Worked values: lines on external heaps that are refused, elements that are looked for there, and changes of the names that cannot come.
use Rattle.std.proofs.Common.{◌≡◌, ◌+◌, refl, ap, sym, arith, ℕ, true, false, List, [], ◌∷◌, Option, Some, None}
use Rattle.std.specs.Fmt.{digits}
use Rattle.std.specs.Prelude.{codes, slice_get}
use Rattle.hp_base.specs.declared.tag.Tag.{Tag}
use Rattle.hp_heap.specs.Chunks as chunks
use Rattle.hp_heap.specs.History as history
use Rattle.hp_heap.specs.Step as step
use Rattle.hp_heap.specs.declared.entry.HeapAnswer.TheVariants as gives
use Rattle.hp_heap.specs.declared.entry.HeapCall.TheVariants as call
use Rattle.hp_script.specs.declared.answer.Answer.TheVariants as answer
use Rattle.hp_script.specs.declared.line.Act.{Act}
use Rattle.hp_script.specs.declared.line.Act.TheVariants as act
use Rattle.hp_external.specs.Naming.{IsSocketName}
use Rattle.hp_zone.specs.Directory as directory
use Rattle.hp_zone.specs.Zones.{IsZoneName}
use Rattle.hp_zone.specs.declared.name_change.NameChange.{NameChange}
use Rattle.hp_zone.specs.declared.name_change.NameChange.TheVariants.{Named, Unnamed}
use Rattle.hp_proc.specs.LineTrees.{doing_of}
use Rattle.hp_proc.specs.Lines.{Facts}
use Rattle.hp_proc.proofs.MeantHeaps.{meanings_agree}
use Rattle.hp_proc.proofs.WorkedLines.WorkedExternal.{base, brought, ext, facts, filled, len, line_of, named, part, pools, shared}
use Rattle.hp_proc.specs.Doing.{Doing, Done, Goes, Leads}
use Rattle.hp_proc.specs.Doing.Done.{Called, HeapSeen, NamesChanged, NamesRead}
use Rattle.hp_proc.specs.ExternalLines as external
use Rattle.hp_proc.specs.Heaps.{sockets_of}
use Rattle.hp_proc.specs.LinesDone.{Course}
use Rattle.hp_proc.specs.NamesAtEnd.{AreHandedTogether}
use Rattle.hp_proc.specs.NamesLog.{MayCome, changes_from, changes_in}
use Rattle.hp_proc.specs.SharedNames.{SharedNames, directory_in, heaps_in, no_changes}
use Rattle.hp_proc.specs.SharedNames.NamesChange.{OfHeaps}
use Rattle.hp_proc.specs.declared.searched_heap.SearchedHeap.{SearchedHeap}

-- the heap of a socket is no external one, and it has no chunk either
module _ (text : List ℕ) (its : text ≡ directory.socket_name 0) where
  of_socket : (names : SharedNames) → slice_get (directory_in pools names).heaps 0 ≡ Some (directory.socket_heap 0)
      → IsSocketName (directory_in pools names) text
  of_socket names there = record {
    index = 0;
    socket = 0;
    found = record {
      heap = record { name = directory.socket_name 0; socket = 0 };
      there = there;
      named = sym its;
      socket_is = refl;
      first = λ index heap below. absurd (omega (arith, below));
    };
    low = omega arith;
  }

  a_socket_heap : IsZoneName text → Leads (doing_of (line_of 0 (act.Unheap (part text))) (act.Unheap (part text)) (facts []))
      (NamesRead no_changes ∷ []) (Doing.Ended answer.SocketHeap)
  unfolding Goes Leads doing_of
  a_socket_heap short =
      let meant = (meanings_agree (directory_in pools no_changes) text refl).of_socket (short, of_socket no_changes refl) in
      (no_changes, refl, sym (ap external.destroying_heap meant))

  no_chunk_of_a_socket : Leads (doing_of (line_of 1 (act.Map (part text) base len)) (act.Map (part text) base len) (facts []))
      (NamesRead named ∷ []) (Doing.Ended answer.NoChunk)
  unfolding Goes Leads doing_of
  no_chunk_of_a_socket =
      let meant = (meanings_agree (directory_in pools named) text refl).socket_there (of_socket named refl) in
      (named, refl, sym (ap (external.mapping_memory 1 base len) meant))

-- that of socket 0 is named so
first_name : codes "socket_0" ≡ directory.socket_name 0
unfolding directory.socket_name digits
first_name = refl

the_first_socket : Leads (doing_of (line_of 0 (act.Unheap (part (codes "socket_0")))) (act.Unheap (part (codes "socket_0"))) (facts []))
    (NamesRead no_changes ∷ []) (Doing.Ended answer.SocketHeap)
the_first_socket = a_socket_heap (codes "socket_0") first_name (record { some = omega arith; short = omega arith })

-- a name of no byte is none
no_name_added : Leads (doing_of (line_of 0 (act.Add (part []) base len 4096)) (act.Add (part []) base len 4096) (facts []))
    (NamesRead named ∷ []) (Doing.Ended answer.BadName)
unfolding Goes Leads doing_of directory.socket_name heaps_in
no_name_added = (named, refl, refl)

none_added : Leads (doing_of (line_of 0 (act.Add (part ext) base len 4096)) (act.Add (part ext) base len 4096) (facts []))
    (NamesRead no_changes ∷ []) (Doing.Ended answer.NotFound)
unfolding Goes Leads doing_of directory.socket_name heaps_in
none_added = (no_changes, refl, refl)

-- a line on a chunk does not judge the name: no heap has one of no byte
no_name_mapped : Leads (doing_of (line_of 1 (act.Map (part []) base len)) (act.Map (part []) base len) (facts [])) (NamesRead named ∷ [])
    (Doing.Ended answer.NotFound)
unfolding Goes Leads doing_of directory.socket_name heaps_in
no_name_mapped = (named, refl, refl)

-- a chunk that is not there, and one that the participant has not attached
other_chunk : Leads (doing_of (line_of 1 (act.Map (part ext) base 4096)) (act.Map (part ext) base 4096) (facts []))
    (NamesRead filled ∷ HeapSeen 1 brought ∷ []) (Doing.Ended answer.NoChunk)
unfolding Goes Leads doing_of directory.socket_name history.after_entry step.after step.after_name chunks.after_chunk chunks.chunk_at heaps_in external.external_heap
other_chunk = (filled, refl, (brought, refl, refl))

not_attached : Leads (doing_of (line_of 1 (act.Unmap (part ext) base len)) (act.Unmap (part ext) base len) (facts []))
    (NamesRead filled ∷ HeapSeen 1 (shared 0) ∷ []) (Doing.Ended answer.NotAttached)
unfolding Goes Leads doing_of directory.socket_name history.after_entry step.after step.after_name chunks.after_chunk chunks.after_share chunks.chunk_at heaps_in external.external_heap
not_attached = (filled, refl, (shared 0, refl, refl))

-- the element of the label of line 6, by participant 0, looked for by a participant for which it lies in a heap, where it is its own
abbrev labelled : Option SearchedHeap → Facts
labelled own = record {
  attached = true;
  own_socket = 0;
  pools = pools;
  request = None;
  maker = Some (record { line = 6; participant = 0; zone = false });
  own_heap = own;
  watchers = [];
  validators = [];
  chunks = [];
}

abbrev tag : ℕ → Tag
tag who = record { who = who; zone = false; number = 6 }

abbrev free : Act
free = act.Free (part (codes "x"))

-- one's own is looked for in the heap of that index, whatever its name is now, without the names: also once the heap is destroyed
destroyed_since : Leads (doing_of (line_of 0 free) free (labelled (Some (record { index = 1; serves = None }))))
    (Called 1 (call.Find (tag 0)) gives.Nothing ∷ []) (Doing.Ended answer.NoElement)
unfolding Goes Leads doing_of
destroyed_since = (gives.Nothing, refl, refl)

-- another's is looked for in each heap with a name, by rising index; in external memory it is freed without a cut
of_another : Leads (doing_of (line_of 1 free) free (labelled None))
    (NamesRead named ∷ Called 0 (call.Find (tag 1)) gives.Nothing ∷ Called 1 (call.Find (tag 1)) (gives.Address (base + 128))
    ∷ Called 1 (call.Free (base + 128) false) gives.Done ∷ [])
    (Doing.Ended answer.Done)
unfolding Goes Leads doing_of directory.socket_name heaps_in
of_another = (named, refl, (gives.Nothing, refl, (gives.Address (base + 128), refl, (gives.Done, refl, refl))))

-- a heap that two lines name at once would have one index and one socket number twice
abbrev twice : List NameChange
twice = Named 1 256 ext ∷ Named 1 256 ext ∷ []

named_twice : ((place : ℕ) (change : NameChange) → slice_get twice place ≡ Some change
    → MayCome (directory.directory_at (sockets_of pools) twice place) change) → ⊥
unfolding directory.socket_name
named_twice may = let unnamed = (may 1 (Named 1 256 ext) refl).lowest.unnamed in cc

-- and a heap that two lines destroy has its name but once
destroyed_twice : ((place : ℕ) (change : NameChange) → slice_get (Named 1 256 ext ∷ Unnamed 1 ∷ Unnamed 1 ∷ []) place ≡ Some change
    → MayCome (directory.directory_at (sockets_of pools) (Named 1 256 ext ∷ Unnamed 1 ∷ Unnamed 1 ∷ []) place) change) → ⊥
unfolding directory.socket_name
destroyed_twice may = let its = (may 2 (Unnamed 1) refl).named in cc

-- a heap that is named again is destroyed at the place that was read: by one that read the names before that, at a place that has another
-- line's change
destroyed_from : changes_from no_changes (NamesRead named ∷ NamesChanged (OfHeaps (Unnamed 1)) ∷ []) ≡ (1, OfHeaps (Unnamed 1)) ∷ []
destroyed_from = refl

named_again : changes_in (record { zones = []; heaps = Named 1 256 ext ∷ Unnamed 1 ∷ Named 1 257 ext ∷ Unnamed 1 ∷ [] })
    ≡ (0, OfHeaps (Named 1 256 ext)) ∷ (1, OfHeaps (Unnamed 1)) ∷ (2, OfHeaps (Named 1 257 ext)) ∷ (3, OfHeaps (Unnamed 1)) ∷ []
named_again = refl

-- a state that is older than the names, in which the chunk is not yet that they show, is none that a line is handed with them
abbrev older : List Done → Course
older rest = record {
  line = line_of 0 (act.Remove (part ext) base len);
  answer = answer.NoChunk;
  trace = NamesRead filled ∷ (HeapSeen 1 [] ∷ rest);
}

an_older_state : AreHandedTogether pools (older []) → ⊥
unfolding directory.socket_name
an_older_state agree = let called = (agree filled 1 [] [] refl).called in cc
