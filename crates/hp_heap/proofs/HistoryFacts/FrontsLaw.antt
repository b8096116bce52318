-- Every front of a legal history stands for a tiled heap, and what holds of every heap holds after each call.
use Rattle.std.proofs.Common.{◌≡◌, ℕ, List, [], ◌∷◌, ◌++◌, refl, sym, ap, subst, arith, Option, Some, None}
use Rattle.hp_base.specs.declared.tag.Caller.{Caller}
use Rattle.hp_heap.specs.declared.entry.Entry.{Entry}
use Rattle.hp_heap.specs.declared.entry.HeapCall.{HeapCall}
use Rattle.hp_heap.specs.declared.entry.HeapAnswer.{HeapAnswer}
use Rattle.hp_heap.specs.PlainHeap.{PlainHeap, opening_heap, HasKind}
use Rattle.hp_heap.specs.Tiling.{IsTiled}
use Rattle.hp_heap.specs.History.{HeapView, after_entry, replay, IsLegal, opening_of, StandsFor, IsSound, IsCall}
use Rattle.hp_heap.specs.Laws.{StandsTiled}
use Rattle.hp_heap.proofs.AllocFacts.ChoiceLaw.{Contains-none}
use Rattle.hp_heap.proofs.HistoryFacts.HistoryLaw.{opening_of-replay, StandsFor-push}
use Rattle.hp_heap.proofs.HistoryFacts.StepLaw.{after-tiled}

-- an opening heap is tiled
pub opening-tiled : (index : ℕ) (serves : Option ℕ) → IsTiled (opening_heap index serves)
opening-tiled index serves = record {
  kind = kind serves;
  laid = record { each_page = tt; alike = λ page other has. absurd (Contains-none page has); each_chunk = tt; own_lists = λ list. omega arith };
  tiling = record { rising = tt; once = λ byte. refl; single = λ byte. omega arith; one_list = λ l p byte. refl; elements = tt; stamps = λ stamp. omega arith; apart = tt };
}
  where
    kind : (serves : Option ℕ) → HasKind serves [] []
    kind None = refl
    kind (Some socket) = refl

after_entry-tiled : (heap : PlainHeap) (entry : Entry) → IsTiled heap → Rattle.hp_heap.specs.History.IsLegalEntry heap entry → IsTiled (after_entry heap entry)
unfolding after_entry
after_entry-tiled heap entry tiled legal = after-tiled entry.caller.participant entry.call heap tiled legal.allowed

-- a legal history leaves a tiled heap tiled
pub replay-tiled : (heap : PlainHeap) (history : List Entry) → IsTiled heap → IsLegal heap history → IsTiled (replay heap history)
replay-tiled heap [] tiled legal = tiled
replay-tiled heap (entry ∷ entries) tiled legal = replay-tiled (after_entry heap entry) entries (after_entry-tiled heap entry tiled legal.0) legal.1

legal_front : (heap : PlainHeap) (history more : List Entry) → IsLegal heap (history ++ more) → IsLegal heap history
legal_front heap [] more legal = tt
legal_front heap (entry ∷ entries) more legal = (legal.0, legal_front (after_entry heap entry) entries more legal.1)

pub fronts_stand : (index : ℕ) (serves : Option ℕ) (history more : List Entry) → IsLegal (opening_heap index serves) (history ++ more) → StandsTiled (replay (opening_heap index serves) history) history
fronts_stand index serves history more legal =
    let front = legal_front (opening_heap index serves) history more legal in
    let opened : opening_of (replay (opening_heap index serves) history) ≡ opening_heap index serves = opening_of-replay index serves history in
    record {
      tiled = replay-tiled (opening_heap index serves) history (opening-tiled index serves) front;
      stands = record {
        legal = subst (λ from. IsLegal from history) (sym opened) front;
        left = ap (λ from. replay from history) (sym opened);
      };
    }

pub calls_keep_sound : (caller : Caller) (step : HeapCall) (given : HeapAnswer) (old new : HeapView) → IsSound old → IsCall caller step given old new → IsSound new
unfolding after_entry
calls_keep_sound caller step given old new sound call =
    let entry : Entry = record { caller = caller; call = step; answer = given } in
    record {
      tiled = subst (λ heap. IsTiled heap) (sym call.heap) (after-tiled caller.participant step old.plain sound.tiled call.allowed);
      lists = call.lists;
      stands = subst (λ heap. StandsFor heap new.history) (sym call.heap)
          (subst (λ history. StandsFor (after_entry old.plain entry) history) (sym call.history)
          (StandsFor-push old.plain old.history entry sound.stands (record { allowed = call.allowed; answered = call.answered })));
    }
