-- What a line did with a heap in its hand by one call of it, or by none, as a front of its tree.
use Rattle.std.proofs.Common.{◌++◌, ◌+◌, ◌∙◌, ◌∷◌, ◌≡◌, Bool, List, Some, [], ap, append-nil, cond, eqb, false, length, refl, subst, sym, true, ℕ}
use Rattle.hp_hall.specs.Holding.{HeapPart}
use Rattle.hp_hall.specs.Mail.{MailStep}
use Rattle.hp_heap.specs.History.{HeapView, IsCall, entries_of}
use Rattle.hp_heap.specs.declared.entry.Entry.{Entry}
use Rattle.hp_heap.specs.declared.entry.HeapAnswer.{HeapAnswer}
use Rattle.hp_heap.specs.declared.entry.HeapCall.{HeapCall}
use Rattle.hp_log.specs.declared.log_record.LogRecord.{LogRecord}
use Rattle.hp_proc.proofs.HandFacts.HandCalls.{call_index, entries_by}
use Rattle.hp_proc.specs.Acting.{Acts, AreAsked}
use Rattle.hp_proc.specs.Contexts.{after_calls}
use Rattle.hp_proc.specs.Courses.{OwnCall, calls_in}
use Rattle.hp_proc.specs.Doing.{Doing, Done, Leads}
use Rattle.hp_proc.specs.Histories.{entries_for}
use Rattle.hp_proc.specs.ParticipantView.{ParticipantView}
use Rattle.hp_proc.specs.Progress.{Does, caller_of, in_hand, moment_of, with_hand}
use Rattle.hp_segs.specs.declared.outcome.AskLog.{AskLog}
use Rattle.hp_serve.specs.Party.{IsSameParty}

module _ (who : ℕ) (heap : HeapView) (parts later : ℕ → HeapPart) (same : (index : ℕ) → (later index).entries ≡ (parts index).entries)
    (alike : (index : ℕ) → (later index).serves ≡ (parts index).serves) where
  entries_by_bits : (b : Bool) (own : List Entry) (part other : HeapPart) → other.entries ≡ part.entries
      → (cond b (record other { entries = own }) other).entries ≡ (cond b (record part { entries = own }) part).entries
  entries_by_bits true own part other is = refl
  entries_by_bits false own part other is = is

  serves_by_bits : (b : Bool) (own : List Entry) (part other : HeapPart) → other.serves ≡ part.serves
      → (cond b (record other { entries = own }) other).serves ≡ (cond b (record part { entries = own }) part).serves
  serves_by_bits true own part other is = is
  serves_by_bits false own part other is = is

  -- with the same entries and sockets in the parts, those with the heap in hand are the same
  pub hand_entries : (index : ℕ) → (with_hand who heap later index).entries ≡ (with_hand who heap parts index).entries
  hand_entries index = entries_by_bits (eqb index heap.plain.index) (entries_of who heap.history) (parts index) (later index) (same index)

  pub hand_sockets : (index : ℕ) → (with_hand who heap later index).serves ≡ (with_hand who heap parts index).serves
  hand_sockets index = serves_by_bits (eqb index heap.plain.index) (entries_of who heap.history) (parts index) (later index) (alike index)

module _ (old new : ParticipantView) (heap : HeapView) (parts later : ℕ → HeapPart) (log : List LogRecord) (asks : List AskLog)
    (records : List LogRecord) (heard : List AskLog) (count : ℕ) (did : List MailStep → Type 0) (doing rest : Doing) (trace : List Done)
    (steps : List MailStep) (leads : Leads doing trace rest) (made : did steps)
    (acts : Acts count (Some heap.plain.index) (Some heap.plain.index) [] old new trace steps)
    (entries : (index : ℕ) → (later index).entries ≡ (parts index).entries) (serves : (index : ℕ) → (later index).serves ≡ (parts index).serves)
    (same : IsSameParty old.party new.party) (asked : AreAsked records heard old.party.me old.party.asked new.party.asked trace)
    (more : List LogRecord) (log_is : records ≡ log ++ more) (outcomes : List AskLog) (asks_are : heard ≡ asks ++ outcomes) where
  pub sockets_are : (h : HeapView) (index : ℕ) → (with_hand new.party.me h later index).serves ≡ (with_hand old.party.me heap parts index).serves
  sockets_are h index =
      serves_of new.party.me h later index ∙ (serves index ∙ sym (serves_of old.party.me heap parts index))
    where
      by_bits : (b : Bool) (own : List Entry) (part : HeapPart) → (cond b (record part { entries = own }) part).serves ≡ part.serves
      by_bits true own part = refl
      by_bits false own part = refl

      serves_of : (who : ℕ) (h : HeapView) (p : ℕ → HeapPart) (index : ℕ) → (with_hand who h p index).serves ≡ (p index).serves
      serves_of who h p index = by_bits (eqb index h.plain.index) (entries_of who h.history) (p index)

  -- by one call
  module _ (next : HeapView) (call : HeapCall) (answer : HeapAnswer) (step : IsCall (caller_of old) call answer heap next)
      (calls : calls_in trace ≡ record { heap = heap.plain.index; call = call; answer = answer } ∷ [])
      (counted : new.context ≡ record (after_calls 1 old.context) { standing = new.context.standing }) where
    pub made_entries : (at : ℕ) → (with_hand new.party.me next later at).entries
        ≡ (with_hand old.party.me heap parts at).entries ++ entries_for old.party.me at (old.context.calls + 1) (calls_in trace)
    made_entries at =
        subst (λ (who : ℕ). (with_hand who next later at).entries
        ≡ (with_hand old.party.me heap parts at).entries ++ entries_for old.party.me at (old.context.calls + 1) (calls_in trace)) (sym same.me)
        (hand_entries old.party.me next parts later entries serves at
        ∙ (entries_by old parts log asks call answer heap next step at
        ∙ ap (λ (own : List OwnCall). (with_hand old.party.me heap parts at).entries ++ entries_for old.party.me at (old.context.calls + 1) own)
        (sym calls)))

    abbrev pub does_made : Does [] count did doing rest (in_hand heap (moment_of old parts log asks)) (in_hand next (moment_of new later records heard))
    does_made = record {
      trace = trace;
      steps = steps;
      leads = leads;
      made = made;
      acts = subst (λ (behind : ℕ). Acts count (Some heap.plain.index) (Some behind) [] old new trace steps)
          (sym (call_index (caller_of old) call answer heap next step)) acts;
      entries = made_entries;
      serves = sockets_are next;
      counted = subst (λ (own : List OwnCall). new.context ≡ record (after_calls (length own) old.context) { standing = new.context.standing })
          (sym calls) counted;
      same = same;
      asked = asked;
      more = more;
      log = log_is;
      outcomes = outcomes;
      asks = asks_are;
    }

  -- by no call
  module _ (none : calls_in trace ≡ []) (counted : new.context ≡ record (after_calls 0 old.context) { standing = new.context.standing }) where
    pub looked_entries : (at : ℕ) → (with_hand new.party.me heap later at).entries
        ≡ (with_hand old.party.me heap parts at).entries ++ entries_for old.party.me at (old.context.calls + 1) (calls_in trace)
    looked_entries at =
        subst (λ (who : ℕ). (with_hand who heap later at).entries
        ≡ (with_hand old.party.me heap parts at).entries ++ entries_for old.party.me at (old.context.calls + 1) (calls_in trace)) (sym same.me)
        (hand_entries old.party.me heap parts later entries serves at
        ∙ (sym (append-nil (with_hand old.party.me heap parts at).entries)
        ∙ ap (λ (own : List OwnCall). (with_hand old.party.me heap parts at).entries ++ entries_for old.party.me at (old.context.calls + 1) own)
        (sym none)))

    abbrev pub does_looked : Does [] count did doing rest (in_hand heap (moment_of old parts log asks)) (in_hand heap (moment_of new later records heard))
    does_looked = record {
      trace = trace;
      steps = steps;
      leads = leads;
      made = made;
      acts = acts;
      entries = looked_entries;
      serves = sockets_are heap;
      counted = subst (λ (own : List OwnCall). new.context ≡ record (after_calls (length own) old.context) { standing = new.context.standing })
          (sym none) counted;
      same = same;
      asked = asked;
      more = more;
      log = log_is;
      outcomes = outcomes;
      asks = asks_are;
    }
