-- A line that maps pages and is refused shows that call of its participant's mapper, and no other.
use Rattle.std.proofs.Common.{◌≡◌, ◌∙◌, ℕ, Bool, true, false, List, [], ◌∷◌, ◌++◌, Option, Some, None, refl, ap, sym, subst, if◌then◌else◌}
use Rattle.hp_base.specs.Flags.{has_bit}
use Rattle.hp_base.specs.declared.caught.Caught.{Caught}
use Rattle.hp_base.specs.declared.caught.Caught.TheVariants as caught
use Rattle.hp_base.specs.declared.chunk.Chunk.{Chunk}
use Rattle.hp_heap.specs.Chunks.{chunk_at}
use Rattle.hp_heap.specs.PlainHeap.{PlainHeap}
use Rattle.hp_heap.specs.declared.entry.HeapCall.{HeapCall}
use Rattle.hp_heap.specs.declared.entry.HeapCall.TheVariants as call
use Rattle.hp_script.specs.declared.answer.Answer.{Answer}
use Rattle.hp_script.specs.declared.answer.Answer.TheVariants as answer
use Rattle.hp_script.specs.declared.line.Act.{Act}
use Rattle.hp_script.specs.declared.line.Act.TheVariants as act
use Rattle.hp_script.specs.declared.line.Line.{Line}
use Rattle.hp_proc.specs.Doing.{Deed, Doing, Done, Given, Goes, Leads, gave}
use Rattle.hp_proc.specs.Doing.Doing.{Ended}
use Rattle.hp_proc.specs.ExternalLines.{calling, chunk_mapped, external_heap, mapping, mapping_memory, on_chunks_of, seeing_heap}
use Rattle.hp_proc.specs.Handed.{calls_failed}
use Rattle.hp_proc.specs.Lines.{Facts, if_attached, reading_names}
use Rattle.hp_proc.specs.LineTrees.{doing_of}
use Rattle.hp_proc.specs.SharedNames.{HeapMeant, SharedNames, directory_in, meant_in}
use Rattle.hp_proc.specs.SharedNames.HeapMeant.{External, NoHeap, NoName, OfSocket}
use Rattle.thm_run.specs.EndLaws.{MapsPages}
use Rattle.thm_run.proofs.FailuresNamed.RefusedCalls.{refusals_both}
use Rattle.thm_run.proofs.LineSteps.LineTries.{line_refused}

module _ (number : ℕ) where
  -- where a tree leads to that refusal, its call is the one that failed on the way
  abbrev RefusedSo : Doing → Type 0
  RefusedSo doing = (trace : List Done) → Leads doing trace (Ended (answer.Refused number)) → calls_failed trace ≡ number ∷ []

  ended_so : (given : Answer) → (answer.Refused number ≡ given → ⊥) → RefusedSo (Ended given)
  unfolding Leads Goes
  ended_so given other [] leads =
      let same : Ended (answer.Refused number) ≡ Ended given = leads in
      let own : answer.Refused number ≡ given = cc in
      absurd (other own)
  ended_so given other (done ∷ trace) leads = elim leads [ ]

  -- a deed in which no mapping failed
  then_so : (deed : Deed) (next : Given deed → Doing) → ((given : Given deed) → calls_failed (gave deed given ∷ []) ≡ [])
      → ((given : Given deed) → RefusedSo (next given)) → RefusedSo (Doing.Then deed next)
  unfolding Leads Goes
  then_so deed next none each [] leads =
      let wrong : Ended (answer.Refused number) ≡ Doing.Then deed next = leads in
      cc
  then_so deed next none each (done ∷ trace) (given, is, leads) =
      refusals_both (done ∷ []) trace
      ∙ ap (λ (calls : List ℕ). calls ++ calls_failed trace) (ap (λ (done : Done). calls_failed (done ∷ [])) is ∙ none given)
      ∙ each given trace leads

  calling_so : (heap : ℕ) (step : HeapCall) (doing : Doing) → RefusedSo doing → RefusedSo (calling heap step doing)
  calling_so heap step doing goes = then_so (Deed.Call heap step) (λ _. doing) (λ given. refl) (λ given. goes)

  -- the mapping of a chunk failed there, or nowhere
  same_call : (other : ℕ) (trace : List Done) → Leads (Ended (answer.Refused other)) trace (Ended (answer.Refused number))
      → other ∷ calls_failed trace ≡ number ∷ []
  unfolding Leads Goes
  same_call other [] leads =
      let same : Ended (answer.Refused number) ≡ Ended (answer.Refused other) = leads in
      let both : answer.Refused number ≡ answer.Refused other = cc in
      let own : number ≡ other = cc in
      ap (λ (call : ℕ). call ∷ []) (sym own)
  same_call other (done ∷ trace) leads = elim leads [ ]

  mapped_so : (chunk : Chunk) (index addr len : ℕ) (ended : Caught) (trace : List Done)
      → Leads (chunk_mapped index addr len ended) trace (Ended (answer.Refused number))
      → calls_failed (Done.ChunkMapped chunk ended ∷ trace) ≡ number ∷ []
  mapped_so chunk index addr len caught.Done trace leads =
      calling_so index (call.Share addr len) (Ended answer.Done) (ended_so answer.Done (λ is. cc)) trace leads
  mapped_so chunk index addr len (caught.Refused row other) trace leads = same_call other trace leads
  mapped_so chunk index addr len (caught.Elsewhere row other got) trace leads = same_call other trace leads

  chunk_so : (index addr len : ℕ) (chunk : Chunk) → RefusedSo (Doing.Then (Deed.MapChunk chunk) (chunk_mapped index addr len))
  unfolding Leads Goes
  chunk_so index addr len chunk [] leads =
      let wrong : Ended (answer.Refused number) ≡ Doing.Then (Deed.MapChunk chunk) (chunk_mapped index addr len) = leads in
      cc
  chunk_so index addr len chunk (done ∷ trace) (ended, is, leads) =
      ap (λ (done : Done). calls_failed (done ∷ trace)) is ∙ mapped_so chunk index addr len ended trace leads

  mapping_so : (who index addr len : ℕ) (chunk : Option Chunk) → RefusedSo (mapping who index addr len chunk)
  mapping_so who index addr len None = ended_so answer.NoChunk (λ is. cc)
  mapping_so who index addr len (Some chunk) = by_mark (has_bit chunk.attached who)
    where
      by_mark : (marked : Bool)
          → RefusedSo (if marked then Ended answer.Already else Doing.Then (Deed.MapChunk chunk) (chunk_mapped index addr len))
      by_mark true = ended_so answer.Already (λ is. cc)
      by_mark false = chunk_so index addr len chunk

  memory_so : (who addr len : ℕ) (meant : HeapMeant) → RefusedSo (mapping_memory who addr len meant)
  memory_so who addr len NoName = ended_so answer.NotFound (λ is. cc)
  memory_so who addr len NoHeap = ended_so answer.NotFound (λ is. cc)
  memory_so who addr len OfSocket = ended_so answer.NoChunk (λ is. cc)
  memory_so who addr len (External index socket) =
      then_so (Deed.SeeHeap index)
      (λ history. mapping who index addr len (chunk_at addr len (external_heap index history)))
      (λ history. refl) (λ history. mapping_so who index addr len (chunk_at addr len (external_heap index history)))

  named_so : (attached : Bool) (doing : Doing) → RefusedSo doing → RefusedSo (if_attached attached doing)
  named_so true doing goes = goes
  named_so false doing goes = ended_so answer.Detached (λ is. cc)

-- so it is of a line that attaches its participant, or a chunk
pub mapping_refused : (line : Line) (does : Act) (facts : Facts) (number : ℕ) (trace : List Done) → MapsPages does
    → Leads (doing_of line does facts) trace (Ended (answer.Refused number)) → calls_failed trace ≡ number ∷ []
unfolding doing_of
mapping_refused line act.Attach facts number trace maps leads = line_refused facts.attached number trace leads
mapping_refused line (act.Map heap addr len) facts number trace maps leads =
    let goes : SharedNames → Doing = λ names. mapping_memory line.participant addr len (meant_in heap.text (directory_in facts.pools names)) in
    named_so number facts.attached (reading_names goes)
    (then_so number Deed.ReadNames goes (λ names. refl)
    (λ names. memory_so number line.participant addr len (meant_in heap.text (directory_in facts.pools names)))) trace leads
mapping_refused line does facts number trace maps leads = absurd maps
