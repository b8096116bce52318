-- What a line on an external heap leaves of what its participant notes: a chunk comes or goes, that of the heap which it called last.
use Rattle.std.proofs.Common.{◌++◌, ◌∙◌, ◌∷◌, ◌≡◌, ◌≢◌, Bool, List, None, Option, Some, [], ap, append-nil, cond, false, refl, subst, sym, true, ℕ, ⊎_elim}
use Rattle.std.specs.Prelude.{⊤}
use Rattle.hp_base.specs.Flags.{has_bit}
use Rattle.hp_base.specs.declared.caught.Caught.{Caught}
use Rattle.hp_base.specs.declared.caught.Caught.TheVariants as caught
use Rattle.hp_base.specs.declared.chunk.Chunk.{Chunk}
use Rattle.hp_heap.specs.Chunks.{chunk_at}
use Rattle.hp_heap.specs.PlainHeap.{PlainHeap}
use Rattle.hp_heap.specs.declared.entry.HeapCall.TheVariants as call
use Rattle.hp_heap.specs.declared.entry.HeapCall.{HeapCall}
use Rattle.hp_proc.proofs.NamedTrees.{meant_chunks}
use Rattle.hp_proc.specs.Contexts.{Context}
use Rattle.hp_proc.specs.Courses.{Standing, attached_after, calls_in, changed_by, chunks_after, element_brought, last_heap, records_after}
use Rattle.hp_proc.specs.Doing.{Deed, Doing, Done, Goes, Leads}
use Rattle.hp_proc.specs.ExternalAnswers.{IsExternalAct}
use Rattle.hp_proc.specs.ExternalLines.{calling, chunk_mapped, external_heap, leaving_chunk, leaving_memory, leaving_unless, lowest_data, mapping, mapping_memory, seeing_heap}
use Rattle.hp_proc.specs.Handing.{shared_of}
use Rattle.hp_proc.specs.Heaps.{sockets_of}
use Rattle.hp_proc.specs.LineTrees.{doing_named}
use Rattle.hp_proc.specs.MarksInHand.{NotesAct, NotesLeft, NotesMapped, NotesNamed}
use Rattle.hp_proc.specs.NamesInHand.{IsIndexMeant}
use Rattle.hp_proc.specs.OwnChunks.{with_own_chunk, without_own_chunk}
use Rattle.hp_proc.specs.Registering.{validators_after, watchers_after}
use Rattle.hp_proc.specs.declared.own_chunk.OwnChunk.{OwnChunk}
use Rattle.hp_proc.specs.declared.own_element.OwnElement.{OwnElement}
use Rattle.hp_script.specs.Part.{Part}
use Rattle.hp_script.specs.declared.answer.Answer.TheVariants as answer
use Rattle.hp_script.specs.declared.answer.Answer.{Answer}
use Rattle.hp_script.specs.declared.line.Act.TheVariants as act
use Rattle.hp_script.specs.declared.line.Act.{Act}
use Rattle.hp_script.specs.declared.line.Line.{Line}
use Rattle.hp_base.specs.declared.pool_line.PoolLine.{PoolLine}
use Rattle.hp_proc.specs.SharedNames.{HeapMeant}
use Rattle.hp_zone.specs.Directory.{IsDirectory, PlainDirectory}
use Rattle.hp_zone.specs.declared.names.Names.{Names as NamesView}

-- THE HEAP THAT IT CALLED LAST

called_last : (index : ℕ) (its : HeapCall) (trace : List Done) → Leads (calling index its (Doing.Ended answer.Done)) trace (Doing.Ended answer.Done)
    → last_heap (calls_in trace) ≡ Some index
unfolding Leads Goes
called_last index its [] leads = absurd cc
called_last index its (done ∷ []) (given, is, leads) = ap (λ (d : Done). last_heap (calls_in (d ∷ []))) is
called_last index its (done ∷ (next ∷ trace)) (given, is, leads) = elim leads [ ]

module _ (who index addr len : ℕ) where
  caught_last : (ended : Caught) (trace : List Done) → Leads (chunk_mapped index addr len ended) trace (Doing.Ended answer.Done)
      → last_heap (calls_in trace) ≡ Some index
  unfolding Leads Goes
  caught_last caught.Done trace leads = called_last index (call.Share addr len) trace leads
  caught_last (caught.Refused row number) [] leads = absurd cc
  caught_last (caught.Refused row number) (done ∷ trace) leads = elim leads [ ]
  caught_last (caught.Elsewhere row number got) [] leads = absurd cc
  caught_last (caught.Elsewhere row number got) (done ∷ trace) leads = elim leads [ ]

  marked_last : (chunk : Chunk) (mark : Bool) (trace : List Done)
      → Leads (cond mark (Doing.Ended answer.Already) (Doing.Then (Deed.MapChunk chunk) (chunk_mapped index addr len))) trace
      (Doing.Ended answer.Done)
      → last_heap (calls_in trace) ≡ Some index
  unfolding Leads Goes
  marked_last chunk true [] leads = absurd cc
  marked_last chunk true (done ∷ trace) leads = elim leads [ ]
  marked_last chunk false [] leads = absurd cc
  marked_last chunk false (done ∷ trace) (ended, is, leads) =
      ap (λ (d : Done). last_heap (calls_in (d ∷ trace))) is ∙ caught_last ended trace leads

  mapped_last : (found : Option Chunk) (trace : List Done) → Leads (mapping who index addr len found) trace (Doing.Ended answer.Done)
      → last_heap (calls_in trace) ≡ Some index
  unfolding Leads Goes
  mapped_last None [] leads = absurd cc
  mapped_last None (done ∷ trace) leads = elim leads [ ]
  mapped_last (Some chunk) trace leads = marked_last chunk (has_bit chunk.attached who) trace leads

  unless_last : (found : Option ℕ) (trace : List Done) → Leads (leaving_unless index addr len found) trace (Doing.Ended answer.Done)
      → last_heap (calls_in trace) ≡ Some index
  unfolding Leads Goes
  unless_last None trace leads = called_last index (call.Unshare addr len) trace leads
  unless_last (Some address) [] leads = absurd cc
  unless_last (Some address) (done ∷ trace) leads = elim leads [ ]

  had_last : (found : Option ℕ) (mark : Bool) (trace : List Done)
      → Leads (cond mark (leaving_unless index addr len found) (Doing.Ended answer.NotAttached)) trace (Doing.Ended answer.Done)
      → last_heap (calls_in trace) ≡ Some index
  unfolding Leads Goes
  had_last found true trace leads = unless_last found trace leads
  had_last found false [] leads = absurd cc
  had_last found false (done ∷ trace) leads = elim leads [ ]

  left_last : (heap : PlainHeap) (found : Option Chunk) (trace : List Done)
      → Leads (leaving_chunk who index addr len heap found) trace (Doing.Ended answer.Done) → last_heap (calls_in trace) ≡ Some index
  unfolding Leads Goes
  left_last heap None [] leads = absurd cc
  left_last heap None (done ∷ trace) leads = elim leads [ ]
  left_last heap (Some chunk) trace leads = had_last (lowest_data (Some who) chunk heap) (has_bit chunk.attached who) trace leads

  seen_last : (goes : PlainHeap → Doing) (trace : List Done) → Leads (seeing_heap index goes) trace (Doing.Ended answer.Done)
      → ((heap : PlainHeap) (rest : List Done) → Leads (goes heap) rest (Doing.Ended answer.Done) → last_heap (calls_in rest) ≡ Some index)
      → last_heap (calls_in trace) ≡ Some index
  unfolding Leads Goes
  seen_last goes [] leads last = absurd cc
  seen_last goes (done ∷ trace) (history, is, leads) last =
      ap (λ (d : Done). last_heap (calls_in (d ∷ trace))) is ∙ last (external_heap index history) trace leads

-- a line that attaches a chunk, or leaves it, called the heap of its name last
abbrev pub CallsLast : Act → ℕ → List Done → Type 0
CallsLast (act.Map heap addr len) index trace = last_heap (calls_in trace) ≡ Some index
CallsLast (act.Unmap heap addr len) index trace = last_heap (calls_in trace) ≡ Some index
CallsLast _ index trace = ⊤

pub calls_last : (who : ℕ) (pools : List PoolLine) (names : NamesView) → IsDirectory names.heaps → names.heaps.sockets ≡ sockets_of pools
    → (deed : Act) (index : ℕ) (trace : List Done) → IsIndexMeant deed names.heaps.plain index
    → Leads (doing_named who pools deed (shared_of names)) trace (Doing.Ended answer.Done) → CallsLast deed index trace
calls_last who pools names sound sockets (act.Map heap addr len) index trace is leads =
    seen_last who index addr len (λ h. mapping who index addr len (chunk_at addr len h)) trace
    (subst (λ (meant : HeapMeant). Leads (mapping_memory who addr len meant) trace (Doing.Ended answer.Done))
    (meant_chunks who pools names sound sockets heap.text index is) leads)
    (λ h rest leads. mapped_last who index addr len (chunk_at addr len h) rest leads)
calls_last who pools names sound sockets (act.Unmap heap addr len) index trace is leads =
    seen_last who index addr len (λ h. leaving_chunk who index addr len h (chunk_at addr len h)) trace
    (subst (λ (meant : HeapMeant). Leads (leaving_memory who addr len meant) trace (Doing.Ended answer.Done))
    (meant_chunks who pools names sound sockets heap.text index is) leads)
    (λ h rest leads. left_last who index addr len h (chunk_at addr len h) rest leads)
calls_last who pools names sound sockets _ index trace is leads = tt

-- WHAT IT LEAVES

-- what a line with that act leaves of what was noted
abbrev pub left_by : Line → Act → Answer → List Done → Standing → Standing
left_by line deed given trace standing = record {
  attached = attached_after deed given standing.attached;
  records = records_after deed given standing.records;
  elements = standing.elements ++ element_brought line deed given trace;
  chunks = chunks_after deed given trace standing.chunks;
  watchers = watchers_after deed given standing.watchers;
  validators = validators_after deed given standing.validators;
}

module _ (old new : Context) (trace : List Done) (addr len : ℕ) where
  abbrev noted : List OwnChunk
  noted = old.standing.chunks

  mapped_noted : (heap : Part) (index : ℕ) (given : Answer)
      → NotesMapped given (record { heap = index; addr = addr; len = len }) old new
      → (given ≡ answer.Done → last_heap (calls_in trace) ≡ Some index)
      → new.standing ≡ record old.standing { chunks = chunks_after (act.Map heap addr len) given trace noted }
  mapped_noted heap index answer.Done notes last =
      notes
      ∙ ap (λ (found : Option ℕ). record old.standing { chunks = changed_by with_own_chunk addr len found noted }) (sym (last refl))
  mapped_noted heap index _ notes last = notes

  unmapped_noted : (heap : Part) (index : ℕ) (given : Answer)
      → NotesLeft given (record { heap = index; addr = addr; len = len }) old new
      → (given ≡ answer.Done → last_heap (calls_in trace) ≡ Some index)
      → new.standing ≡ record old.standing { chunks = chunks_after (act.Unmap heap addr len) given trace noted }
  unmapped_noted heap index answer.Done notes last =
      notes
      ∙ ap (λ (found : Option ℕ). record old.standing { chunks = changed_by without_own_chunk addr len found noted }) (sym (last refl))
  unmapped_noted heap index _ notes last = notes

  -- where it is not done, nothing is noted
  none_mapped : (heap : Part) (given : Answer) → given ≢ answer.Done
      → chunks_after (act.Map heap addr len) given trace noted ≡ noted
  none_mapped heap answer.Done none = absurd (none refl)
  none_mapped heap _ none = refl

  none_unmapped : (heap : Part) (given : Answer) → given ≢ answer.Done
      → chunks_after (act.Unmap heap addr len) given trace noted ≡ noted
  none_unmapped heap answer.Done none = absurd (none refl)
  none_unmapped heap _ none = refl

-- nothing was noted
module _ (line : Line) (given : Answer) (trace : List Done) (old new : Context) where
  noted_none : new.standing ≡ old.standing → new.standing ≡ record old.standing { elements = old.standing.elements ++ [] }
  noted_none same =
      same ∙ ap (λ (elements : List OwnElement). record old.standing { elements = elements }) (sym (append-nil old.standing.elements))

  noted_chunks : (chunks : List OwnChunk) → new.standing ≡ record old.standing { chunks = chunks }
      → new.standing ≡ record old.standing { chunks = chunks; elements = old.standing.elements ++ [] }
  noted_chunks chunks is =
      is
      ∙ ap (λ (elements : List OwnElement). record old.standing { chunks = chunks; elements = elements })
      (sym (append-nil old.standing.elements))

  same_or : (deed : Act) (plain : PlainDirectory) → NotesNamed deed plain given old new
      → ((index : ℕ) → NotesAct deed index given old new → new.standing ≡ old.standing) → new.standing ≡ old.standing
  same_or deed plain notes goes =
      ⊎_elim (λ (none : (given ≢ answer.Done) × (new ≡ old)). ap (λ (c : Context). c.standing) none.1)
      (λ (is : (index : ℕ) × IsIndexMeant deed plain index × NotesAct deed index given old new). goes is.0 is.2) notes

  -- a line on an external heap leaves what its answer says
  pub notes_left : (deed : Act) (plain : PlainDirectory) → IsExternalAct deed → NotesNamed deed plain given old new
      → ((index : ℕ) → IsIndexMeant deed plain index → given ≡ answer.Done → CallsLast deed index trace)
      → new.standing ≡ left_by line deed given trace old.standing
  notes_left (act.Heap name) plain external notes last = noted_none (same_or (act.Heap name) plain notes (λ index is. is))
  notes_left (act.Unheap name) plain external notes last = noted_none (same_or (act.Unheap name) plain notes (λ index is. is))
  notes_left (act.Add heap addr len page) plain external notes last =
      noted_none (same_or (act.Add heap addr len page) plain notes (λ index is. is))
  notes_left (act.Remove heap addr len) plain external notes last =
      noted_none (same_or (act.Remove heap addr len) plain notes (λ index is. is))
  notes_left (act.Map heap addr len) plain external notes last =
      noted_chunks (chunks_after (act.Map heap addr len) given trace old.standing.chunks)
      (⊎_elim
      (λ (none : (given ≢ answer.Done) × (new ≡ old)).
      ap (λ (c : Context). c.standing) none.1
      ∙ ap (λ (chunks : List OwnChunk). record old.standing { chunks = chunks })
      (sym (none_mapped old new trace addr len heap given none.0)))
      (λ (is : (index : ℕ) × IsIndexMeant (act.Map heap addr len) plain index × NotesAct (act.Map heap addr len) index given old new).
      mapped_noted old new trace addr len heap is.0 given is.2 (last is.0 is.1)) notes)
  notes_left (act.Unmap heap addr len) plain external notes last =
      noted_chunks (chunks_after (act.Unmap heap addr len) given trace old.standing.chunks)
      (⊎_elim
      (λ (none : (given ≢ answer.Done) × (new ≡ old)).
      ap (λ (c : Context). c.standing) none.1
      ∙ ap (λ (chunks : List OwnChunk). record old.standing { chunks = chunks })
      (sym (none_unmapped old new trace addr len heap given none.0)))
      (λ (is : (index : ℕ) × IsIndexMeant (act.Unmap heap addr len) plain index × NotesAct (act.Unmap heap addr len) index given old new).
      unmapped_noted old new trace addr len heap is.0 given is.2 (last is.0 is.1)) notes)
  notes_left _ plain external notes last = absurd external
