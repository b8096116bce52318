-- Calls of a heap between taking it and giving it back, and values that go back as they were taken: what may be given.
use Rattle.std.proofs.Common.{◌≡◌, ℕ, ◌+◌, List, [], ◌∷◌, ◌++◌, length, drop, Option, Some, None, sym, ap, subst, ◌∙◌, arith, inl}
use Rattle.std.specs.List.{Contains}
use Rattle.std.proofs.Math.Seq.{drop-length}
use Rattle.std.proofs.lemmas.List.{append_assoc, append-nil}
use Rattle.hp_base.specs.declared.chunk.Chunk.{Chunk}
use Rattle.hp_base.specs.declared.tag.Caller.{Caller}
use Rattle.hp_heap.specs.declared.entry.HeapCall.{HeapCall}
use Rattle.hp_heap.specs.declared.entry.HeapAnswer.{HeapAnswer}
use Rattle.hp_heap.specs.PlainHeap.{HeapPage, PlainHeap}
use Rattle.hp_heap.specs.History.{HeapView, IsCall, SameButSpare}
use Rattle.hp_heap.proofs.HistoryFacts.HistoryLaw.{IsSameHeap, after-same}
use Rattle.hp_hall.specs.declared.kept.Kept.TheVariants.{Heap}
use Rattle.hp_board.specs.declared.view.Mine.{Mine}
use Rattle.hp_hall.specs.SegsGives.{AgreesBy}
use Rattle.hp_segs.specs.SegsView.{SegsView}
use Rattle.hp_segs.specs.declared.external_range.ExternalRange.{ExternalRange}
use Rattle.hp_segs.specs.declared.outcome.AskLog.{AskLog}
use Rattle.hp_heap.specs.HistoryLaws.{runs_cut, runs_grown}
use Rattle.hp_segs.specs.Standing.{Holding}
use Rattle.hp_hall.proofs.ClaimedChunks.{claimed_alike, claimed_all}
use Rattle.hp_hall.specs.AgreedNames.{chunk_memory}
use Rattle.hp_hall.specs.Giving.{entries_made}
use Rattle.hp_hall.specs.Views.{HeldHeap}
use Rattle.hp_hall.specs.Holding.{HasPages, IsHeldWith, IsSettledFor}
use Rattle.hp_hall.specs.Naming.{LeavesNames}
use Rattle.hp_board.specs.Giving.{IsGiveAt}
use Rattle.hp_board.specs.Knowing.{heap_part, knows_of}
use Rattle.hp_board.specs.Views.{value_of}
use Rattle.hp_board.proofs.OwnershipFacts.GivenTaken.{gives_at}
use Rattle.hp_board.proofs.Histories.{AddsCalls, AddsHeld, IsNumbered-append}

-- a heap as it was taken may be given, whatever room it has
pub gives_same : (who count : ℕ) (taken given : HeapView) → SameButSpare taken given → AddsCalls who count taken given
gives_same who count taken given same = record {
  index = ap (λ (h : PlainHeap). h.index) same.plain;
  serves = ap (λ (h : PlainHeap). h.serves) same.plain;
  own = [];
  history = same.history ∙ sym (append-nil taken.history);
  numbered = tt;
}

-- and so may one that the holder has called, by the next number
pub gives_call : (who count : ℕ) (taken given : HeapView) (caller : Caller) (call : HeapCall) (answer : HeapAnswer) → caller ≡ record { participant = who; number = count + 1 }
    → IsCall caller call answer taken given → AddsCalls who count taken given
gives_call who count taken given caller call answer is made =
    let same : IsSameHeap taken.plain given.plain = subst (IsSameHeap taken.plain) (sym made.heap) (after-same caller.participant call taken.plain) in
    record {
      index = same.index;
      serves = same.serves;
      own = record { caller = caller; call = call; answer = answer } ∷ [];
      history = made.history;
      numbered = (is, tt);
    }

-- one call after another
pub gives_then : (who count : ℕ) (taken between given : HeapView) (first : AddsCalls who count taken between) → AddsCalls who (count + length first.own) between given → AddsCalls who count taken given
gives_then who count taken between given first next = record {
  index = next.index ∙ first.index;
  serves = next.serves ∙ first.serves;
  own = first.own ++ next.own;
  history = next.history ∙ ap (λ h. h ++ next.own) first.history ∙ append_assoc taken.history first.own next.own;
  numbered = IsNumbered-append who count first.own next.own first.numbered next.numbered;
}

-- and so may one that got room first
pub gives_later : (who count : ℕ) (taken between given : HeapView) → SameButSpare taken between → AddsCalls who count between given → AddsCalls who count taken given
gives_later who count taken between given same next = record {
  index = next.index ∙ ap (λ (h : PlainHeap). h.index) same.plain;
  serves = next.serves ∙ ap (λ (h : PlainHeap). h.serves) same.plain;
  own = next.own;
  history = next.history ∙ ap (λ h. h ++ next.own) same.history;
  numbered = next.numbered;
}

-- and where no outcome came in, none is a grant
pub agrees_same : (noted : ℕ → ℕ) (taken given : SegsView) → given.asks ≡ taken.asks → AgreesBy noted taken given
agrees_same noted taken given same entry generation member among granted its =
    let none : drop (length taken.asks) given.asks ≡ [] = ap (drop (length taken.asks)) same ∙ drop-length taken.asks in
    let inside = (subst (λ (l : List AskLog). Contains l entry) none among).1 in
    absurd (omega (arith, inside))

-- a heap that the participant holds may be given with such calls, where it has what the participant knows that the segment value has for it,
-- the participant's ask for it, if it armed one, is settled, and the calls left what the names say of it; of its chunks the participant knew
-- when it took the heap that their memory is claimed, where it knows what is
pub gives_heap : (mine : Mine) (slot : ℕ) (taken given : HeldHeap) → value_of slot mine.held ≡ Some (Heap taken.heap taken.pen)
    → AddsHeld mine.who (entries_made (heap_part mine)) taken given → IsHeldWith given.heap (heap_part mine given.heap.plain.index).holding
    → IsSettledFor given.heap.plain.index mine.heard (heap_part mine given.heap.plain.index) → LeavesNames mine.who taken.heap.plain given.heap.plain
    → ((claims : List ExternalRange) (chunk : Chunk) → mine.claims ≡ Some claims → Contains taken.heap.plain.chunks chunk
    → Contains claims (chunk_memory chunk)) → IsGiveAt (knows_of mine) slot (Heap given.heap given.pen)
gives_heap mine slot taken given holds adds held settled leaves claimed =
    gives_at (knows_of mine) slot (Heap taken.heap taken.pen) (Heap given.heap given.pen) holds (record {
      heap = record {
        index = adds.calls.index;
        serves = adds.calls.serves;
        own = adds.calls.own;
        history = adds.calls.history;
        numbered = adds.calls.numbered;
        held = held;
        settled = settled;
        named = λ none. leaves.naming;
        claimed = λ has claims chunk known. claimed_all ⊥ claims given.heap.plain.chunks (λ no. no)
            (claimed_alike ⊥ ⊥ claims taken.heap.plain given.heap.plain (λ no. no) leaves.naming (λ its among. inl (claimed claims its known among))) chunk;
        marks = leaves.marks;
      };
      pen = adds.pen;
    })

-- a heap whose pages stay, and to which no run came and from which none was cut, has what it had when it was taken
pub held_stays : (taken given : HeapView) (holding : Option Holding) → given.plain.pages ≡ taken.plain.pages → runs_grown given.history ≡ runs_grown taken.history
    → runs_cut given.history ≡ runs_cut taken.history → IsHeldWith taken holding → IsHeldWith given holding
held_stays taken given None pages grown cut held = absurd held
held_stays taken given (Some holding) pages grown cut held = record {
  pages = subst (λ (l : List HeapPage). HasPages l holding.owned) (sym pages) held.pages;
  grown = grown ∙ held.grown;
  cut = cut ∙ held.cut;
}

-- so has one as it was taken
pub held_same : (taken given : HeapView) (holding : Option Holding) → SameButSpare taken given → IsHeldWith taken holding → IsHeldWith given holding
held_same taken given holding same held =
    held_stays taken given holding (ap (λ (p : PlainHeap). p.pages) same.plain) (ap runs_grown same.history) (ap runs_cut same.history) held
