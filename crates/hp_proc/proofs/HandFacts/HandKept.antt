-- A heap in hand beside the names that got a call which leaves its holder's marks: it is in hand still.
use Rattle.std.proofs.Common.{◌<◌, ◌∙◌, ◌≡◌, ◌≢◌, Bool, Contains, List, None, Option, Some, [], ap, arith, cond, eq-eqb, eqb, false, map, refl, subst, sym, true, true≢false, ℕ}
use Rattle.std.proofs.lemmas.Bool.{eqb-true}
use Rattle.hp_base.specs.declared.chunk.Chunk.{Chunk}
use Rattle.hp_hall.proofs.MarksLeft.{calls_mark_alone}
use Rattle.hp_hall.specs.AgreedNames.{chunk_memory}
use Rattle.hp_hall.specs.HallState.{HallState}
use Rattle.hp_hall.specs.Naming.{MarksStayBut, marked_by}
use Rattle.hp_hall.specs.declared.kept.Kept.TheVariants.{Names}
use Rattle.hp_hall.specs.declared.kept.Kept.{Kept}
use Rattle.hp_hall.specs.declared.slot.TheConstants.{NAMES_SLOT}
use Rattle.hp_heap.specs.ChunkOrder.{AreInOrder}
use Rattle.hp_heap.specs.Chunks.{CanAddChunk, CanRemoveChunk, after_chunk, after_unchunk}
use Rattle.hp_heap.specs.History.{HeapView, IsCall}
use Rattle.hp_heap.specs.HistoryLaws.{run_cut, run_grown}
use Rattle.hp_heap.specs.PlainHeap.{PlainHeap}
use Rattle.hp_heap.specs.Step.{after}
use Rattle.hp_heap.specs.Tiling.{IsTiled}
use Rattle.hp_heap.specs.declared.entry.HeapAnswer.{HeapAnswer}
use Rattle.hp_heap.specs.declared.entry.HeapCall.TheVariants as call
use Rattle.hp_heap.specs.declared.entry.HeapCall.{HeapCall}
use Rattle.hp_proc.proofs.HandFacts.HandCalls.{call_index}
use Rattle.hp_proc.proofs.HandFacts.HandExternal.{holds_called}
use Rattle.hp_proc.proofs.HandFacts.HandTied.{marks_with}
use Rattle.hp_proc.specs.HeldMarks.{HoldsMarked, IsTiedWith, marked_with}
use Rattle.hp_proc.specs.OwnChunks.{AreMarkedAs, own_chunk}
use Rattle.hp_proc.specs.ParticipantView.{ParticipantView, after_call}
use Rattle.hp_proc.specs.Progress.{caller_of}
use Rattle.hp_segs.specs.declared.external_range.ExternalRange.{ExternalRange}
use Rattle.hp_serve.proofs.Carrying.{same_party}
use Rattle.hp_serve.proofs.Tying.{tied_marks}
use Rattle.hp_zone.specs.declared.names.Names.{Names as NamesView}

-- MARKS

-- one of 0 to 15 that is another one
abbrev another : ℕ → ℕ
another who = cond (eqb who 0) 1 0

another_apart : (who : ℕ) (b : Bool) → eqb who 0 ≡ b → who ≢ cond b 1 0
another_apart who true is same = absurd (omega (arith, eqb-true who 0 is, same))
another_apart who false is same = true≢false (sym (eq-eqb who 0 same) ∙ is)

another_few : (b : Bool) → cond {A = ℕ} b 1 0 < 16
another_few true = omega arith
another_few false = omega arith

-- a chunk that comes or goes has no mark, so that one's own marks stay as others' do
pub own_came : (who : ℕ) (heap : PlainHeap) (chunk : Chunk) → IsTiled heap → AreInOrder heap.chunks → CanAddChunk chunk heap
    → marked_by who (after_chunk chunk heap) ≡ marked_by who heap
unfolding after
own_came who heap chunk tiled order can =
    calls_mark_alone (another who) (call.Chunk chunk) heap tiled order (another_few (eqb who 0), can) who (another_apart who (eqb who 0) refl)

pub own_went : (who : ℕ) (heap : PlainHeap) (addr len : ℕ) → IsTiled heap → AreInOrder heap.chunks → CanRemoveChunk addr len heap
    → marked_by who (after_unchunk addr len heap) ≡ marked_by who heap
unfolding after
own_went who heap addr len tiled order can =
    calls_mark_alone (another who) (call.Unchunk addr len) heap tiled order (another_few (eqb who 0), can) who (another_apart who (eqb who 0) refl)

-- THE HEAP IN HAND

names_out : (taken : Option Kept) (names : NamesView) → taken ≡ None → taken ≡ Some (Names names) → ⊥
names_out taken names none some = cc

module _ (old : ParticipantView) (heap next : HeapView) (call : HeapCall) (answer : HeapAnswer) (step : IsCall (caller_of old) call answer heap next)
    (state : HallState) (holds : HoldsMarked old.party.me old heap state) (order : AreInOrder heap.plain.chunks)
    (pages : next.plain.pages ≡ heap.plain.pages) (grown : run_grown call ≡ []) (cut : run_cut answer ≡ [])
    (own : marked_by old.party.me next.plain ≡ marked_by old.party.me heap.plain) where
  abbrev me : ℕ
  me = old.party.me

  abbrev at : ℕ
  at = heap.plain.index

  index_is : next.plain.index ≡ at
  index_is = call_index (caller_of old) call answer heap next step

  pub same_marks_with : (index : ℕ) → marked_with me next state index ≡ marked_with me heap state index
  same_marks_with index = marks_with me heap next state index index_is own

  others_stay : MarksStayBut me heap.plain next.plain
  others_stay =
      subst (MarksStayBut me heap.plain) (sym step.heap) (calls_mark_alone me call heap.plain holds.in_hand.sound.tiled order step.allowed)

  tied_next : IsTiedWith me old.party next state
  tied_next = record {
    table = tied_marks (state.seen me) (state.own me) (marked_with me heap state) (marked_with me next state) old.party.joined old.party.maps
        same_marks_with holds.tied.table;
    same = holds.tied.same;
    left = λ out index. same_marks_with index ∙ holds.tied.left out index;
  }

  noted_next : (index : ℕ) → AreMarkedAs index (marked_with me next state index) old.context.standing.chunks
  noted_next index = ap (map (own_chunk index)) (same_marks_with index) ∙ holds.chunks index

  -- so it is where the names are in hand too, and the memory of its chunks is claimed
  pub called_marked : (names : NamesView) → state.taken NAMES_SLOT ≡ Some (Names names)
      → ((these : List ExternalRange) (chunk : Chunk) → (state.part me at).claims ≡ Some these → Contains next.plain.chunks chunk
      → Contains these (chunk_memory chunk)) → HoldsMarked me (after_call old) next state
  called_marked names out claimed =
      holds_called old (after_call old) heap next call answer step (same_party old.party) refl refl refl pages grown cut state holds
      (record {
        named = λ none. absurd (names_out (state.taken NAMES_SLOT) names none out);
        marks = others_stay;
        claimed = claimed;
      })
      tied_next noted_next
