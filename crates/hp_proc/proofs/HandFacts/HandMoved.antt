-- A heap in hand whose own segments changed with its pages: what was granted came to it, or what was cut from it was given up.
use Rattle.std.proofs.Common.{◌≡◌, ◌≢◌, ◌∙◌, ℕ, ◌+◌, ◌<◌, List, [], ◌∷◌, ◌++◌, length, Option, ap, sym, subst, append_assoc, ⊎_elim, arith}
use Rattle.std.proofs.lemmas.Bool.Decides.{eqb_tells}
use Rattle.std.proofs.lemmas.List.{length-append}
use Rattle.std.specs.List.{range_with_len}
use Rattle.std.specs.Prelude.{slice_get}
use Rattle.hp_base.specs.declared.limits.TheConstants.{MAX_HEAPS}
use Rattle.hp_heap.proofs.HistoryFacts.FrontsLaw.{calls_keep_sound}
use Rattle.hp_heap.specs.History.{HeapView, IsCall, entries_of}
use Rattle.hp_heap.specs.declared.entry.Entry.{Entry}
use Rattle.hp_heap.specs.declared.entry.HeapAnswer.{HeapAnswer}
use Rattle.hp_heap.specs.declared.entry.HeapCall.{HeapCall}
use Rattle.hp_hall.specs.Giving.{IsNumbered, entries_made}
use Rattle.hp_hall.specs.Holding.{HeapPart, IsHeldWith}
use Rattle.hp_hall.specs.Naming.{IsBesideNames, MarksStayBut}
use Rattle.hp_hall.proofs.NamesLeft.{call_leaves}
use Rattle.hp_hall.specs.declared.kept.Kept.{Kept}
use Rattle.hp_hall.specs.declared.slot.TheConstants.{NAMES_SLOT, SLOTS}
use Rattle.hp_log.specs.declared.log_record.LogRecord.{LogRecord}
use Rattle.hp_segs.specs.declared.outcome.AskLog.{AskLog}
use Rattle.hp_proc.specs.Contexts.{Context, after_calls}
use Rattle.hp_proc.specs.Heaps.{sockets_of}
use Rattle.hp_serve.specs.Party.{IsSameParty}
use Rattle.hp_proc.specs.ParticipantView.{ParticipantView}
use Rattle.hp_proc.specs.Progress.{IsInHand, caller_of, moment_of, with_hand}
use Rattle.hp_proc.proofs.HandFacts.HandCalls.{call_index, call_serves, hand_apart, hand_claims, hand_here, hand_serves, hand_told, numbered_on}
use Rattle.hp_proc.proofs.HandFacts.HandGiven.{sums_same}
use Rattle.hp_proc.proofs.HandFacts.HeldOn.{leaves_held}

-- a part but for what the segment value has for its heap, and for the armed ask
pub record IsSamePart (old new : HeapPart) : Type 0 where
  pub entries : new.entries ≡ old.entries
  pub serves : new.serves ≡ old.serves
  pub told : new.told ≡ old.told
  pub claims : new.claims ≡ old.claims

-- so is what a heap in hand makes of the parts
module _ (who : ℕ) (heap : HeapView) (old new : ℕ → HeapPart) (same : (index : ℕ) → IsSamePart (old index) (new index)) where
  pub hand_same : (index : ℕ) → IsSamePart (with_hand who heap old index) (with_hand who heap new index)
  hand_same index = record {
    entries = ⊎_elim (λ here. hand_here who heap new index here.1 ∙ sym (hand_here who heap old index here.1))
        (λ there. ap (λ (part : HeapPart). part.entries) (hand_apart who heap new index there.0) ∙ (same index).entries
        ∙ ap (λ (part : HeapPart). part.entries) (sym (hand_apart who heap old index there.0))) (eqb_tells index heap.plain.index);
    serves = hand_serves who heap new index ∙ (same index).serves ∙ sym (hand_serves who heap old index);
    told = hand_told who heap new index ∙ (same index).told ∙ sym (hand_told who heap old index);
    claims = hand_claims who heap new index ∙ (same index).claims ∙ sym (hand_claims who heap old index);
  }

module _ (doer : ParticipantView) (parts : ℕ → HeapPart) (log : List LogRecord) (asks : List AskLog) (call : HeapCall) (answer : HeapAnswer)
    (old new : HeapView) (is : IsCall (caller_of doer) call answer old new) (taken : ℕ → Option Kept)
    (hand : IsInHand taken (moment_of doer parts log asks) old) where
  abbrev entry : Entry
  entry = record { caller = caller_of doer; call = call; answer = answer }

  index_is : new.plain.index ≡ old.plain.index
  index_is = call_index (caller_of doer) call answer old new is

  -- it is in hand with the call, by what its holder has of it then
  pub hand_moved : (now : ℕ → Option Kept) (after : ParticipantView) (later : ℕ → HeapPart) (behind : List LogRecord) (heard : List AskLog)
      → ((number : ℕ) → now number ≡ taken number) → IsSameParty doer.party after.party → after.context ≡ after_calls 1 doer.context
      → ((heap : ℕ) → IsSamePart (parts heap) (later heap))
      → ((other : ℕ) → other ≢ old.plain.index → (later other).holding ≡ (parts other).holding)
      → IsHeldWith new (later old.plain.index).holding → IsBesideNames call old.plain → IsInHand now (moment_of after later behind heard) new
  hand_moved now after later behind heard still same known parts_are apart held beside =
      let made : entries_made later ≡ entries_made parts =
      sums_same (λ heap. length (parts heap).entries) (λ heap. length (later heap).entries) (range_with_len 0 SLOTS)
      (λ heap. ap (λ (entries : List Entry). length entries) (parts_are heap).entries) in
      let goes =
      leaves_held taken doer.party.me (parts old.plain.index).claims old.plain new.plain
      (call_leaves (caller_of doer) call answer old new is hand.sound.tiled beside) hand.claimed in
      let calls : after.context.calls ≡ doer.context.calls + 1 = ap (λ (context : Context). context.calls) known in
      let numbered : IsNumbered doer.party.me (entries_made parts) (hand.own ++ entry ∷ []) =
      numbered_on doer.party.me (entries_made parts) hand.own (entry ∷ []) hand.numbered
      (ap (λ (number : ℕ). record { participant = doer.party.me; number = number + 1 }) hand.counted, tt) in
      record {
        was = hand.was;
        pen = hand.pen;
        taken_is = still new.plain.index ∙ ap taken index_is ∙ hand.taken_is;
        pairs = hand.pairs;
        untold = (parts_are new.plain.index).told ∙ ap (λ (index : ℕ). (parts index).told) index_is ∙ hand.untold;
        few = subst (λ (index : ℕ). index < MAX_HEAPS) (sym index_is) hand.few;
        index = index_is ∙ hand.index;
        serves = call_serves (caller_of doer) call answer old new is ∙ hand.serves;
        own = hand.own ++ entry ∷ [];
        history = is.history ∙ ap (λ (history : List Entry). history ++ entry ∷ []) hand.history
            ∙ append_assoc hand.was.history hand.own (entry ∷ []);
        numbered = subst (λ (who : ℕ). IsNumbered who (entries_made later) (hand.own ++ entry ∷ [])) (sym same.me)
            (subst (λ (made : ℕ). IsNumbered doer.party.me made (hand.own ++ entry ∷ [])) (sym made) numbered);
        earlier = subst (λ (who : ℕ). entries_of who hand.was.history ≡ (later new.plain.index).entries) (sym same.me)
            (hand.earlier ∙ ap (λ (index : ℕ). (parts index).entries) (sym index_is) ∙ sym (parts_are new.plain.index).entries);
        held = subst (λ (index : ℕ). IsHeldWith new (later index).holding) (sym index_is) held;
        sound = calls_keep_sound (caller_of doer) call answer old new hand.sound is;
        named = λ none. goes.named (sym (still NAMES_SLOT) ∙ none) ∙ hand.named (sym (still NAMES_SLOT) ∙ none);
        marks = subst (λ (who : ℕ). MarksStayBut who hand.was.plain new.plain) (sym same.me)
            (λ other apart. goes.marks other apart ∙ hand.marks other apart);
        claimed = λ these chunk knows.
            goes.claimed these chunk
            (ap (λ (index : ℕ). (parts index).claims) (sym index_is) ∙ (sym (parts_are new.plain.index).claims ∙ knows));
        its_socket = call_serves (caller_of doer) call answer old new is ∙ hand.its_socket
            ∙ ap (λ (index : ℕ). (parts index).serves) (sym index_is) ∙ sym (parts_are new.plain.index).serves;
        sockets = λ heap. (parts_are heap).serves ∙ hand.sockets heap
            ∙ ap (λ (context : Context). slice_get (sockets_of context.pools) heap) (sym known);
        others = λ other away.
            let far : other ≢ old.plain.index = λ same. away (same ∙ sym index_is) in
            apart other far ∙ hand.others other far;
        counted = omega (arith, calls, made, hand.counted, length-append hand.own (entry ∷ []));
      }
