-- A heap in hand that got a call of an external heap: it is in hand still, with the marks and the table that its holder has then.
use Rattle.std.proofs.Common.{◌+◌, ◌∙◌, ◌≡◌, List, Option, [], ap, arith, refl, subst, sym, ℕ}
use Rattle.std.specs.Prelude.{slice_get}
use Rattle.hp_base.specs.declared.pool_line.PoolLine.{PoolLine}
use Rattle.hp_hall.specs.Giving.{IsNumbered, entries_made}
use Rattle.hp_hall.specs.HallState.{HallState}
use Rattle.hp_hall.specs.Holding.{HeapPart}
use Rattle.hp_hall.specs.Naming.{MarksStayBut}
use Rattle.hp_hall.specs.declared.kept.Kept.{Kept}
use Rattle.hp_heap.specs.History.{HeapView, IsCall, entries_of}
use Rattle.hp_heap.specs.HistoryLaws.{run_cut, run_grown}
use Rattle.hp_heap.specs.declared.entry.HeapAnswer.{HeapAnswer}
use Rattle.hp_heap.specs.declared.entry.HeapCall.{HeapCall}
use Rattle.hp_log.specs.declared.log_record.LogRecord.{LogRecord}
use Rattle.hp_proc.proofs.HandFacts.HandCalls.{hand_goes, held_still}
use Rattle.hp_proc.proofs.HandFacts.HeldOn.{GoesOnHeld}
use Rattle.hp_proc.specs.Heaps.{sockets_of}
use Rattle.hp_proc.specs.HeldMarks.{HoldsMarked, IsTiedWith, marked_with}
use Rattle.hp_proc.specs.OwnChunks.{AreMarkedAs}
use Rattle.hp_proc.specs.ParticipantView.{ParticipantView, after_call}
use Rattle.hp_proc.specs.Progress.{IsInHand, caller_of, moment_of}
use Rattle.hp_segs.specs.declared.outcome.AskLog.{AskLog}
use Rattle.hp_serve.specs.Party.{IsSameParty}

-- it is in the hand of whoever has that number, has made as many calls, and knows the same pools
pub hand_as : (first last : ParticipantView) (parts : ℕ → HeapPart) (log : List LogRecord) (asks : List AskLog) (taken : ℕ → Option Kept)
    (heap : HeapView) → last.party.me ≡ first.party.me → last.context.calls ≡ first.context.calls → last.context.pools ≡ first.context.pools
    → IsInHand taken (moment_of first parts log asks) heap → IsInHand taken (moment_of last parts log asks) heap
hand_as first last parts log asks taken heap same calls pools hand = record {
  was = hand.was;
  pen = hand.pen;
  taken_is = hand.taken_is;
  pairs = hand.pairs;
  untold = hand.untold;
  few = hand.few;
  index = hand.index;
  serves = hand.serves;
  own = hand.own;
  history = hand.history;
  numbered = subst (λ (who : ℕ). IsNumbered who (entries_made parts) hand.own) (sym same) hand.numbered;
  earlier = subst (λ (who : ℕ). entries_of who hand.was.history ≡ (parts heap.plain.index).entries) (sym same) hand.earlier;
  held = hand.held;
  sound = hand.sound;
  named = hand.named;
  marks = subst (λ (who : ℕ). MarksStayBut who hand.was.plain heap.plain) (sym same) hand.marks;
  claimed = hand.claimed;
  its_socket = hand.its_socket;
  sockets = λ index. hand.sockets index ∙ ap (λ (lines : List PoolLine). slice_get (sockets_of lines) index) (sym pools);
  others = hand.others;
  counted = omega (arith, calls, hand.counted);
}

-- the holder made the call, is the same one, and knows what it knew, but for that and for the chunks that it notes
module _ (old new : ParticipantView) (heap next : HeapView) (call : HeapCall) (answer : HeapAnswer)
    (step : IsCall (caller_of old) call answer heap next) (same : IsSameParty old.party new.party)
    (calls : new.context.calls ≡ old.context.calls + 1) (pools : new.context.pools ≡ old.context.pools)
    (attached : new.context.standing.attached ≡ old.context.standing.attached) (pages : next.plain.pages ≡ heap.plain.pages)
    (grown : run_grown call ≡ []) (cut : run_cut answer ≡ []) where
  abbrev me : ℕ
  me = old.party.me

  pub holds_called : (state : HallState) → HoldsMarked me old heap state
      → GoesOnHeld state.taken me (state.part me heap.plain.index).claims heap.plain next.plain → IsTiedWith me new.party next state
      → ((index : ℕ) → AreMarkedAs index (marked_with me next state index) new.context.standing.chunks) → HoldsMarked me new next state
  holds_called state holds goes tied noted = record {
    may = holds.may;
    tied = tied;
    chunks = noted;
    in_hand = hand_as (after_call old) new (state.part me) (state.seen me) (state.heard me) state.taken next same.me calls pools
        (hand_goes old (state.part me) (state.seen me) (state.heard me) call answer heap next step state.taken holds.in_hand (after_call old) refl
        (held_still old (state.part me) (state.seen me) (state.heard me) call answer heap next step state.taken holds.in_hand
        (state.part me heap.plain.index).holding pages grown cut holds.in_hand.held) goes);
    settled = holds.settled;
    attached = holds.attached ∙ sym attached;
    named = holds.named ∙ sym (ap (λ (lines : List PoolLine). sockets_of lines) pools);
    mapped = holds.mapped;
  }
