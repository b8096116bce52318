-- What a line on an external heap does, by the heap that its name means: it takes notice of that heap's state, or not, and then it does its act.
use Rattle.std.proofs.Common.{◌<◌, ◌∙◌, ◌≡◌, ◌≢◌, ◌⊎◌, Bool, Err, List, None, Some, ap, cond, inl, inr, not, refl, slice_get, subst, sym, ℕ}
use Rattle.std.proofs.lemmas.Bool.{false_from_ne_true}
use Rattle.std.specs.List.{list_any}
use Rattle.hp_base.specs.declared.limits.TheConstants.{MAX_HEAPS}
use Rattle.hp_base.specs.declared.pool_line.PoolLine.{PoolLine}
use Rattle.hp_external.specs.Creating.{IsPlaceFor}
use Rattle.hp_external.specs.Naming.{IsExternalName}
use Rattle.hp_external.specs.declared.fault.ChunkFault.TheVariants as chunk
use Rattle.hp_external.specs.declared.fault.ChunkFault.{ChunkFault}
use Rattle.hp_external.specs.declared.fault.CreateFault.TheVariants as create
use Rattle.hp_external.specs.declared.fault.CreateFault.{CreateFault}
use Rattle.hp_external.specs.declared.fault.NameFault.TheVariants as name
use Rattle.hp_external.specs.declared.fault.NameFault.{NameFault}
use Rattle.hp_heap.specs.Chunks.{chunk_at}
use Rattle.hp_heap.specs.PlainHeap.{PlainHeap}
use Rattle.hp_proc.proofs.ExternalMeant.{directory_is, external_serves, unnamed_serves}
use Rattle.hp_proc.proofs.MadeHeaps.{making_agrees}
use Rattle.hp_proc.proofs.MeantHeaps.{meanings_agree}
use Rattle.hp_proc.proofs.Reservations.{short_from, short_to}
use Rattle.hp_proc.specs.Doing.{Doing}
use Rattle.hp_proc.specs.ExternalAnswers.{IsChunkAnswer, IsCreateAnswer, IsExternalAct, IsHeapMeant, IsMeant, IsNameAnswer, IsNamedHeap, chunk_said, create_said, name_said}
use Rattle.hp_proc.specs.ExternalLines.{adding_memory, destroying, destroying_heap, leaving_chunk, leaving_memory, making, making_heap, mapping, mapping_memory, on_chunks_of, on_external, planning, removing, removing_memory, seeing_heap}
use Rattle.hp_proc.specs.Handing.{shared_of}
use Rattle.hp_proc.specs.Heaps.{has_name, sockets_of}
use Rattle.hp_proc.specs.LineTrees.{doing_held, doing_named}
use Rattle.hp_proc.specs.NamesInHand.{IsIndexMeant}
use Rattle.hp_proc.specs.SharedNames.HeapMeant.{External}
use Rattle.hp_proc.specs.SharedNames.{directory_in, heaps_in, is_short_name, meant_by, meant_in, next_index}
use Rattle.hp_script.specs.declared.answer.Answer.TheVariants as answer
use Rattle.hp_script.specs.declared.answer.Answer.{Answer}
use Rattle.hp_script.specs.declared.line.Act.TheVariants as act
use Rattle.hp_script.specs.declared.line.Act.{Act}
use Rattle.hp_zone.specs.Directory.{IsDirectory, PlainDirectory}
use Rattle.hp_zone.specs.Zones.{IsZoneName}
use Rattle.hp_zone.specs.declared.names.Names.{Names as NamesView}

-- it is handed the state of a heap first, or is not
pub record SeesFirst (heap : PlainHeap) (tree held : Doing) : Type 0 where
  pub goes : PlainHeap → Doing
  pub tree_is : tree ≡ seeing_heap heap.index goes
  pub leaves : goes heap ≡ held

abbrev pub Notices : PlainHeap → Doing → Doing → Type 0
Notices heap tree held = SeesFirst heap tree held ⊎ (tree ≡ held)

-- a line that means no heap is answered otherwise than one that was done
create_undone : (fault : CreateFault) (given : Answer) → create_said fault ≡ Some given → given ≢ answer.Done
create_undone create.BadName given said done = cc
create_undone create.Exists given said done = cc
create_undone (create.NoSpace limit) given said done = cc
create_undone create.OutOfMemory given said done = cc

name_undone : (fault : NameFault) (given : Answer) → given ≡ name_said fault → given ≢ answer.Done
name_undone name.BadName given said done = cc
name_undone name.NotFound given said done = cc
name_undone name.SocketHeap given said done = cc

chunk_undone : (fault : ChunkFault) (given : Answer) → given ≡ chunk_said fault → given ≢ answer.Done
chunk_undone chunk.NotFound given said done = cc
chunk_undone chunk.NoChunk given said done = cc

pub refused_undone : (plain : PlainDirectory) (deed : Act) (given : Answer) → IsExternalAct deed → IsHeapMeant deed plain (Err given)
    → given ≢ answer.Done
refused_undone plain (act.Heap name) given external why = create_undone why.0 given why.1
refused_undone plain (act.Unheap name) given external why = name_undone why.0 given why.1
refused_undone plain (act.Add heap addr len page) given external why = name_undone why.0 given why.1
refused_undone plain (act.Remove heap addr len) given external why = name_undone why.0 given why.1
refused_undone plain (act.Map heap addr len) given external why = chunk_undone why.0 given why.1
refused_undone plain (act.Unmap heap addr len) given external why = chunk_undone why.0 given why.1
refused_undone plain _ given external why = absurd external

module _ (who : ℕ) (pools : List PoolLine) (names : NamesView) (sound : IsDirectory names.heaps)
    (sockets : names.heaps.sockets ≡ sockets_of pools) where
  abbrev plain : PlainDirectory
  plain = names.heaps.plain

  abbrev directory : PlainDirectory
  directory = directory_in pools (shared_of names)

  abbrev tree : Act → Doing
  tree deed = doing_named who pools deed (shared_of names)

  abbrev tree_held : Act → PlainHeap → Doing
  tree_held deed heap = doing_held who pools deed (shared_of names) heap

  by_names : (P : PlainDirectory → Type 0) → P plain → P directory
  by_names P its = subst P (directory_is pools names sound sockets) its

  meant_named : (text : List ℕ) (index : ℕ) (is : IsNamedHeap plain text index) → meant_by text directory ≡ External index is.meant.socket
  meant_named text index is =
      by_names (λ (d : PlainDirectory). meant_by text d ≡ External index is.meant.socket)
      ((meanings_agree plain text sound.indexes).external index is.meant.socket is.name is.meant.named)

  pub meant_chunks : (text : List ℕ) (index : ℕ) (is : IsMeant plain text index) → meant_in text directory ≡ External index is.socket
  meant_chunks text index is =
      by_names (λ (d : PlainDirectory). meant_in text d ≡ External index is.socket)
      ((meanings_agree plain text sound.indexes).external_there index is.socket is.named)

  -- A HEAP IS MADE

  abbrev fresh_tree : Bool → List ℕ → PlainDirectory → Doing
  fresh_tree taken text d = cond taken (Doing.Ended answer.Exists) (making text d.next (next_index d))

  short_tree : (text : List ℕ) (d : PlainDirectory) → IsZoneName text → making_heap text d ≡ fresh_tree (list_any (has_name text) (heaps_in d)) text d
  short_tree text d name =
      ap (λ (b : Bool). cond (not b) (Doing.Ended answer.BadName) (fresh_tree (list_any (has_name text) (heaps_in d)) text d)) (short_from text name)

  made_tree : (text : List ℕ) (index : ℕ) → IsPlaceFor plain text index → making_heap text directory ≡ making text directory.next (Some index)
  made_tree text index place =
      let agrees = making_agrees plain text sound.indexes in
      by_names (λ (d : PlainDirectory). making_heap text d ≡ making text d.next (Some index))
      (short_tree text plain place.name
      ∙ (ap (λ (b : Bool). fresh_tree b text plain) (agrees.fresh place.fresh)
      ∙ ap (making text plain.next) (agrees.index index place.lowest place.place.socket)))

  none_said : {given : Answer} → None ≡ Some given → ⊥
  none_said same = cc

  same_said : {one other : Answer} → Some one ≡ Some other → one ≡ other
  same_said same = cc

  refused_heap : (text : List ℕ) (given : Answer) → IsCreateAnswer plain text given → making_heap text directory ≡ Doing.Ended given
  refused_heap text given (create.BadName, said, why) =
      by_names (λ (d : PlainDirectory). making_heap text d ≡ Doing.Ended given)
      (ap (λ (b : Bool). cond (not b) (Doing.Ended answer.BadName) (fresh_tree (list_any (has_name text) (heaps_in plain)) text plain))
      (false_from_ne_true (is_short_name text) (λ passes. why (short_to text passes)))
      ∙ ap Doing.Ended (same_said said))
  refused_heap text given (create.Exists, said, why) =
      by_names (λ (d : PlainDirectory). making_heap text d ≡ Doing.Ended given)
      (short_tree text plain why.0
      ∙ (ap (λ (b : Bool). fresh_tree b text plain) ((making_agrees plain text sound.indexes).taken why.1)
      ∙ ap Doing.Ended (same_said said)))
  refused_heap text given (create.NoSpace limit, said, why) =
      by_names (λ (d : PlainDirectory). making_heap text d ≡ Doing.Ended given)
      (short_tree text plain why.0
      ∙ (ap (λ (b : Bool). fresh_tree b text plain) ((making_agrees plain text sound.indexes).fresh why.1)
      ∙ (ap (making text plain.next) ((making_agrees plain text sound.indexes).no_place why.2)
      ∙ ap Doing.Ended (same_said said))))
  refused_heap text given (create.OutOfMemory, said, why) = absurd (none_said said)

  -- ONE IS NAMED

  refused_named : (goes : ℕ → ℕ → Doing) (text : List ℕ) (given : Answer) → IsNameAnswer plain text given
      → on_external goes (meant_by text directory) ≡ Doing.Ended given
  refused_named goes text given (name.BadName, said, why) =
      by_names (λ (d : PlainDirectory). on_external goes (meant_by text d) ≡ Doing.Ended given)
      (ap (on_external goes) ((meanings_agree plain text sound.indexes).no_name why) ∙ ap Doing.Ended (sym said))
  refused_named goes text given (name.NotFound, said, why) =
      by_names (λ (d : PlainDirectory). on_external goes (meant_by text d) ≡ Doing.Ended given)
      (ap (on_external goes) ((meanings_agree plain text sound.indexes).no_heap why) ∙ ap Doing.Ended (sym said))
  refused_named goes text given (name.SocketHeap, said, why) =
      by_names (λ (d : PlainDirectory). on_external goes (meant_by text d) ≡ Doing.Ended given)
      (ap (on_external goes) ((meanings_agree plain text sound.indexes).of_socket why) ∙ ap Doing.Ended (sym said))

  refused_chunks : (goes : ℕ → Doing) (text : List ℕ) (given : Answer) → IsChunkAnswer plain text given
      → on_chunks_of goes (meant_in text directory) ≡ Doing.Ended given
  refused_chunks goes text given (chunk.NotFound, said, why) =
      by_names (λ (d : PlainDirectory). on_chunks_of goes (meant_in text d) ≡ Doing.Ended given)
      (ap (on_chunks_of goes) ((meanings_agree plain text sound.indexes).no_heap_there why) ∙ ap Doing.Ended (sym said))
  refused_chunks goes text given (chunk.NoChunk, said, why) =
      by_names (λ (d : PlainDirectory). on_chunks_of goes (meant_in text d) ≡ Doing.Ended given)
      (ap (on_chunks_of goes) ((meanings_agree plain text sound.indexes).socket_there why) ∙ ap Doing.Ended (sym said))

  -- where its name means no heap that the act may be done with, the line ends with that
  pub refused_tree : (deed : Act) (given : Answer) → IsExternalAct deed → IsHeapMeant deed plain (Err given) → tree deed ≡ Doing.Ended given
  refused_tree (act.Heap name) given external why = refused_heap name.text given why
  refused_tree (act.Unheap name) given external why = refused_named _ name.text given why
  refused_tree (act.Add heap addr len page) given external why = refused_named (planning addr len page) heap.text given why
  refused_tree (act.Remove heap addr len) given external why = refused_named _ heap.text given why
  refused_tree (act.Map heap addr len) given external why = refused_chunks _ heap.text given why
  refused_tree (act.Unmap heap addr len) given external why = refused_chunks _ heap.text given why
  refused_tree _ given external why = absurd external

  -- a heap that is meant takes nobody's pages
  pub external_at : (deed : Act) (index : ℕ) → IsExternalAct deed → IsIndexMeant deed plain index → slice_get names.heaps.sockets index ≡ None
  external_at (act.Heap name) index external place = unnamed_serves names.heaps index sound place.lowest.unnamed
  external_at (act.Unheap name) index external is = external_serves names.heaps name.text index is.meant.socket sound is.meant.named
  external_at (act.Add heap addr len page) index external is = external_serves names.heaps heap.text index is.meant.socket sound is.meant.named
  external_at (act.Remove heap addr len) index external is = external_serves names.heaps heap.text index is.meant.socket sound is.meant.named
  external_at (act.Map heap addr len) index external is = external_serves names.heaps heap.text index is.socket sound is.named
  external_at (act.Unmap heap addr len) index external is = external_serves names.heaps heap.text index is.socket sound is.named
  external_at _ index external is = absurd external

  pub few_at : (deed : Act) (index : ℕ) → IsExternalAct deed → IsIndexMeant deed plain index → index < MAX_HEAPS
  few_at (act.Heap name) index external place = place.few
  few_at (act.Unheap name) index external is = is.meant.few
  few_at (act.Add heap addr len page) index external is = is.meant.few
  few_at (act.Remove heap addr len) index external is = is.meant.few
  few_at (act.Map heap addr len) index external is = is.few
  few_at (act.Unmap heap addr len) index external is = is.few
  few_at _ index external is = absurd external

  -- what it does with the heap in hand, by that heap's state or without notice of it
  module _ (heap : PlainHeap) (its_socket : (text : List ℕ) (socket : ℕ) → IsExternalName plain text heap.index socket → socket ≡ heap.socket) where
    pub notices : (deed : Act) → IsExternalAct deed → IsIndexMeant deed plain heap.index → Notices heap (tree deed) (tree_held deed heap)
    notices (act.Heap name) external place = inr (made_tree name.text heap.index place)
    notices (act.Unheap name) external is =
        inl (record { goes = destroying heap.index; tree_is = ap destroying_heap (meant_named name.text heap.index is); leaves = refl })
    notices (act.Add text addr len page) external is =
        inr (ap (adding_memory addr len page) (meant_named text.text heap.index is)
        ∙ ap (planning addr len page heap.index) (its_socket text.text is.meant.socket is.meant.named))
    notices (act.Remove text addr len) external is = inl (record {
      goes = λ h. removing heap.index addr len h (chunk_at addr len h);
      tree_is = ap (removing_memory addr len) (meant_named text.text heap.index is);
      leaves = refl;
    })
    notices (act.Map text addr len) external is = inl (record {
      goes = λ h. mapping who heap.index addr len (chunk_at addr len h);
      tree_is = ap (mapping_memory who addr len) (meant_chunks text.text heap.index is);
      leaves = refl;
    })
    notices (act.Unmap text addr len) external is = inl (record {
      goes = λ h. leaving_chunk who heap.index addr len h (chunk_at addr len h);
      tree_is = ap (leaving_memory who addr len) (meant_chunks text.text heap.index is);
      leaves = refl;
    })
    notices _ external is = absurd external
