-- A heap in hand, and what a call of it makes of what is known.
use Rattle.std.proofs.Common.{◌≡◌, ◌≢◌, ◌∙◌, ℕ, ◌+◌, ◌<◌, Bool, true, false, cond, eqb, eq-eqb, List, [], ◌∷◌, ◌++◌, length, append-nil, append_assoc, Option, Some, None, refl, ap, sym, subst, ⊎_elim, arith}
use Rattle.std.proofs.lemmas.Bool.{cond-false, cond-true}
use Rattle.std.proofs.lemmas.Bool.Decides.{eqb_tells}
use Rattle.std.proofs.lemmas.List.{length-append}
use Rattle.std.proofs.lemmas.List.Elements.{filter-append}
use Rattle.hp_base.specs.declared.limits.TheConstants.{MAX_HEAPS}
use Rattle.hp_base.specs.declared.tag.Caller.{Caller}
use Rattle.hp_base.specs.declared.row.Run.{Run}
use Rattle.hp_heap.proofs.FreeFacts.EntriesLaw.{calls_add_runs}
use Rattle.hp_heap.proofs.HistoryFacts.FrontsLaw.{calls_keep_sound}
use Rattle.hp_heap.proofs.HistoryFacts.HistoryLaw.{after-same}
use Rattle.hp_heap.specs.History.{HeapView, IsCall, SameButSpare, StandsFor, entries_of}
use Rattle.hp_heap.specs.Lists.{free_lists}
use Rattle.hp_heap.specs.Tiling.{IsTiled}
use Rattle.hp_heap.specs.PlainHeap.{HeapPage, PlainHeap}
use Rattle.hp_heap.specs.declared.entry.Entry.{Entry}
use Rattle.hp_heap.specs.declared.entry.HeapAnswer.{HeapAnswer}
use Rattle.hp_heap.specs.declared.entry.HeapCall.{HeapCall}
use Rattle.hp_hall.specs.Giving.{IsNumbered, entries_made}
use Rattle.hp_hall.specs.Holding.{HasPages, HeapPart, IsHeldWith}
use Rattle.hp_segs.specs.Standing.{Holding}
use Rattle.hp_hall.specs.Mail.{MailStep}
use Rattle.hp_hall.specs.Naming.{IsBesideNames}
use Rattle.hp_hall.proofs.NamesLeft.{call_leaves, leaves_same}
use Rattle.hp_hall.specs.declared.kept.Kept.{Kept}
use Rattle.hp_log.specs.declared.log_record.LogRecord.{LogRecord}
use Rattle.hp_segs.specs.declared.outcome.AskLog.{AskLog}
use Rattle.hp_proc.proofs.HandFacts.HeldOn.{GoesOnHeld, leaves_held}
use Rattle.hp_proc.specs.Acting.{Acts, AreAsked}
use Rattle.hp_proc.specs.Courses.{OwnCall}
use Rattle.hp_proc.specs.Doing.{Deed, Doing, Goes, Leads}
use Rattle.hp_proc.specs.Doing.Done.{Called}
use Rattle.hp_heap.specs.HistoryLaws.{run_cut, run_grown, runs_cut, runs_grown}
use Rattle.hp_proc.specs.Histories.{entries_for, entry_for}
use Rattle.hp_proc.specs.LineInHall.{IsAsTaken}
use Rattle.hp_proc.specs.ParticipantView.{ParticipantView, after_call}
use Rattle.hp_stats.specs.StatViews.{PenView}
use Rattle.hp_proc.specs.Progress.{Does, DoesIn, IsInHand, IsTakenWith, Moment, caller_of, in_hand, moment_of, with_hand}

-- a call leaves index and socket of a heap
pub call_index : (caller : Caller) (call : HeapCall) (answer : HeapAnswer) (old new : HeapView) → IsCall caller call answer old new
    → new.plain.index ≡ old.plain.index
call_index caller call answer old new is =
    ap (λ (heap : PlainHeap). heap.index) is.heap ∙ (after-same caller.participant call old.plain).index

pub call_serves : (caller : Caller) (call : HeapCall) (answer : HeapAnswer) (old new : HeapView) → IsCall caller call answer old new
    → new.plain.serves ≡ old.plain.serves
call_serves caller call answer old new is =
    ap (λ (heap : PlainHeap). heap.serves) is.heap ∙ (after-same caller.participant call old.plain).serves

-- entries that are numbered on, and further ones after them
pub numbered_on : (who count : ℕ) (own more : List Entry) → IsNumbered who count own → IsNumbered who (count + length own) more
    → IsNumbered who count (own ++ more)
numbered_on who count [] more here there = subst (λ (count : ℕ). IsNumbered who count more) (omega arith) there
numbered_on who count (entry ∷ own) more here there =
    (here.0, numbered_on who (count + 1) own more here.1 (subst (λ (count : ℕ). IsNumbered who count more) (omega arith) there))

-- the entries of one participant in a longer history
pub entries_of_on : (who : ℕ) (history more : List Entry) → entries_of who (history ++ more) ≡ entries_of who history ++ entries_of who more
unfolding entries_of
entries_of_on who history more = filter-append (λ (entry : Entry). eqb entry.caller.participant who) history more

-- its own entry is one of its entries
entry_own : (who : ℕ) (entry : Entry) → entry.caller.participant ≡ who → entries_of who (entry ∷ []) ≡ entry ∷ []
unfolding entries_of
entry_own who entry same = cond-true (eqb entry.caller.participant who) (entry ∷ []) [] (eq-eqb entry.caller.participant who same)

module _ (who : ℕ) (heap : HeapView) (parts : ℕ → HeapPart) (index : ℕ) where
  -- the heap in hand has its own entries already, and the parts in others are as they are
  pub hand_here : index ≡ heap.plain.index → (with_hand who heap parts index).entries ≡ entries_of who heap.history
  hand_here same =
      ap (λ (part : HeapPart). part.entries)
      (cond-true (eqb index heap.plain.index) (record (parts index) { entries = entries_of who heap.history }) (parts index)
      (eq-eqb index heap.plain.index same))

  pub hand_apart : eqb index heap.plain.index ≡ false → with_hand who heap parts index ≡ parts index
  hand_apart apart =
      cond-false (eqb index heap.plain.index) (record (parts index) { entries = entries_of who heap.history }) (parts index) apart

  serves_by : (b : Bool) (part other : HeapPart) → other.serves ≡ part.serves → (cond b other part).serves ≡ part.serves
  serves_by true part other same = same
  serves_by false part other same = refl

  -- they take the pages of the same sockets
  pub hand_serves : (with_hand who heap parts index).serves ≡ (parts index).serves
  hand_serves = serves_by (eqb index heap.plain.index) (parts index) (record (parts index) { entries = entries_of who heap.history }) refl

  told_by : (b : Bool) (part other : HeapPart) → other.told ≡ part.told → (cond b other part).told ≡ part.told
  told_by true part other same = same
  told_by false part other same = refl

  -- and the same was published of them
  pub hand_told : (with_hand who heap parts index).told ≡ (parts index).told
  hand_told = told_by (eqb index heap.plain.index) (parts index) (record (parts index) { entries = entries_of who heap.history }) refl

  claims_by : (b : Bool) (part other : HeapPart) → other.claims ≡ part.claims → (cond b other part).claims ≡ part.claims
  claims_by true part other same = same
  claims_by false part other same = refl

  -- and the same is known to be claimed
  pub hand_claims : (with_hand who heap parts index).claims ≡ (parts index).claims
  hand_claims = claims_by (eqb index heap.plain.index) (parts index) (record (parts index) { entries = entries_of who heap.history }) refl

module _ (who number heap : ℕ) (own : OwnCall) where
  one_here : heap ≡ own.heap → entries_for who heap number (own ∷ []) ≡ entry_for who number own ∷ []
  one_here same =
      cond-true (eqb own.heap heap) (entry_for who number own ∷ []) [] (eq-eqb own.heap heap (sym same))

  one_apart : heap ≢ own.heap → entries_for who heap number (own ∷ []) ≡ []
  one_apart apart =
      cond-false (eqb own.heap heap) (entry_for who number own ∷ []) []
      (⊎_elim (λ yes. absurd (apart (sym yes.1))) (λ other. other.0) (eqb_tells own.heap heap))

module _ (doer : ParticipantView) (parts : ℕ → HeapPart) (log : List LogRecord) (asks : List AskLog) (call : HeapCall) (answer : HeapAnswer)
    (old new : HeapView) (is : IsCall (caller_of doer) call answer old new) where
  abbrev entry : Entry
  entry = record { caller = caller_of doer; call = call; answer = answer }

  abbrev own : OwnCall
  own = record { heap = old.plain.index; call = call; answer = answer }

  index_is : new.plain.index ≡ old.plain.index
  index_is = call_index (caller_of doer) call answer old new is

  pub entries_by : (heap : ℕ) → (with_hand doer.party.me new parts heap).entries
      ≡ (with_hand doer.party.me old parts heap).entries ++ entries_for doer.party.me heap (doer.context.calls + 1) (own ∷ [])
  entries_by heap = ⊎_elim
      (λ here.
      hand_here doer.party.me new parts heap (here.1 ∙ sym index_is)
      ∙ ap (entries_of doer.party.me) is.history
      ∙ entries_of_on doer.party.me old.history (entry ∷ [])
      ∙ ap (λ (more : List Entry). entries_of doer.party.me old.history ++ more) (entry_own doer.party.me entry refl)
      ∙ ap (λ (before : List Entry). before ++ entry ∷ []) (sym (hand_here doer.party.me old parts heap here.1))
      ∙ ap (λ (more : List Entry). (with_hand doer.party.me old parts heap).entries ++ more)
      (sym (one_here doer.party.me (doer.context.calls + 1) heap own here.1)))
      (λ there.
      ap (λ (part : HeapPart). part.entries)
      (hand_apart doer.party.me new parts heap (ap (eqb heap) index_is ∙ there.0) ∙ sym (hand_apart doer.party.me old parts heap there.0))
      ∙ sym (append-nil (with_hand doer.party.me old parts heap).entries)
      ∙ ap (λ (more : List Entry). (with_hand doer.party.me old parts heap).entries ++ more)
      (sym (one_apart doer.party.me (doer.context.calls + 1) heap own there.1)))
      (eqb_tells heap old.plain.index)

  -- the next thing that its line does is that call, with the steps that it makes along with it
  pub does_acted : (count : ℕ) (did : List MailStep → Type 0) (then_on : HeapAnswer → Doing) (after : ParticipantView) (steps : List MailStep)
      → after ≡ after_call doer → did steps
      → Acts count (Some old.plain.index) (Some old.plain.index) [] doer (after_call doer) (Called old.plain.index call answer ∷ []) steps
      → Does [] count did (Doing.Then (Deed.Call old.plain.index call) then_on) (then_on answer)
      (in_hand old (moment_of doer parts log asks))
      (in_hand new (moment_of after parts log asks))
  unfolding Leads Goes AreAsked
  does_acted count did then_on after steps counted made acts =
      subst (λ (after : ParticipantView). Does [] count did (Doing.Then (Deed.Call old.plain.index call) then_on) (then_on answer)
      (in_hand old (moment_of doer parts log asks)) (in_hand new (moment_of after parts log asks))) (sym counted) (record {
        trace = Called old.plain.index call answer ∷ [];
        steps = steps;
        leads = (answer, refl, refl);
        made = made;
        acts = subst (λ (behind : ℕ). Acts count (Some old.plain.index) (Some behind) [] doer (after_call doer)
            (Called old.plain.index call answer ∷ []) steps) (sym index_is) acts;
        entries = entries_by;
        serves = λ heap. hand_serves doer.party.me new parts heap ∙ sym (hand_serves doer.party.me old parts heap);
        counted = refl;
        same = record { me = refl; socket = refl; plan = refl; deadline = refl };
        asked = refl;
        more = [];
        log = sym (append-nil log);
        outcomes = [];
        asks = sym (append-nil asks);
      })

  -- so it is with a call that cuts no run, which makes none
  pub does_call : (count : ℕ) (did : List MailStep → Type 0) (then_on : HeapAnswer → Doing) (after : ParticipantView) → after ≡ after_call doer
      → did [] → run_cut answer ≡ []
      → Does [] count did (Doing.Then (Deed.Call old.plain.index call) then_on) (then_on answer)
      (in_hand old (moment_of doer parts log asks))
      (in_hand new (moment_of after parts log asks))
  does_call count did then_on after counted none whole =
      does_acted count did then_on after [] counted none (Acts.makes_call doer old.plain.index call answer whole)

  -- and that is its last call so far
  pub call_in : (count : ℕ) (did : List MailStep → Type 0) (then_on : HeapAnswer → Doing) (after : ParticipantView) → after ≡ after_call doer
      → did [] → run_cut answer ≡ []
      → DoesIn old.plain.index count did (Doing.Then (Deed.Call old.plain.index call) then_on) (then_on answer)
      (in_hand old (moment_of doer parts log asks))
      (in_hand new (moment_of after parts log asks))
  unfolding does_acted does_call Leads Goes AreAsked
  call_in count did then_on after counted none whole =
      subst (λ (after : ParticipantView). DoesIn old.plain.index count did (Doing.Then (Deed.Call old.plain.index call) then_on)
      (then_on answer)
      (in_hand old (moment_of doer parts log asks)) (in_hand new (moment_of after parts log asks))) (sym counted)
      (record { does = does_call count did then_on (after_call doer) refl none whole; last = refl })

  module _ (taken : ℕ → Option Kept) (hand : IsInHand taken (moment_of doer parts log asks) old) where
    pub own_behind : hand.was.history ++ (hand.own ++ entry ∷ []) ≡ old.history ++ entry ∷ []
    own_behind = sym (append_assoc hand.was.history hand.own (entry ∷ [])) ∙ ap (λ (history : List Entry). history ++ entry ∷ []) (sym hand.history)

    pub numbered_next : IsNumbered doer.party.me (entries_made parts) (hand.own ++ entry ∷ [])
    numbered_next =
        numbered_on doer.party.me (entries_made parts) hand.own (entry ∷ []) hand.numbered
        (ap (λ (number : ℕ). record { participant = doer.party.me; number = number + 1 }) hand.counted, tt)

    -- the heap is in hand still, where it has the pages of its own segments and may be held on
    pub hand_goes : (after : ParticipantView) → after ≡ after_call doer → IsHeldWith new (parts old.plain.index).holding
        → GoesOnHeld taken doer.party.me (parts old.plain.index).claims old.plain new.plain → IsInHand taken (moment_of after parts log asks) new
    hand_goes after counted held goes =
        subst (λ (after : ParticipantView). IsInHand taken (moment_of after parts log asks) new) (sym counted) (record {
          was = hand.was;
          pen = hand.pen;
          taken_is = ap taken index_is ∙ hand.taken_is;
          pairs = hand.pairs;
          untold = ap (λ (index : ℕ). (parts index).told) index_is ∙ hand.untold;
          few = subst (λ (index : ℕ). index < MAX_HEAPS) (sym index_is) hand.few;
          index = index_is ∙ hand.index;
          serves = call_serves (caller_of doer) call answer old new is ∙ hand.serves;
          own = hand.own ++ entry ∷ [];
          history = is.history ∙ sym own_behind;
          numbered = numbered_next;
          earlier = hand.earlier ∙ ap (λ (index : ℕ). (parts index).entries) (sym index_is);
          held = subst (λ (index : ℕ). IsHeldWith new (parts index).holding) (sym index_is) held;
          sound = calls_keep_sound (caller_of doer) call answer old new hand.sound is;
          named = λ none. goes.named none ∙ hand.named none;
          marks = λ other apart. goes.marks other apart ∙ hand.marks other apart;
          claimed = λ these chunk knows. goes.claimed these chunk (ap (λ (index : ℕ). (parts index).claims) (sym index_is) ∙ knows);
          its_socket = call_serves (caller_of doer) call answer old new is ∙ hand.its_socket
              ∙ ap (λ (index : ℕ). (parts index).serves) (sym index_is);
          sockets = hand.sockets;
          others = λ other apart. hand.others other (λ same. apart (same ∙ sym index_is));
          counted = omega (arith, hand.counted, length-append hand.own (entry ∷ []));
        })

    -- which it may be after a call beside the names
    pub hand_called : (after : ParticipantView) → after ≡ after_call doer → IsHeldWith new (parts old.plain.index).holding
        → IsBesideNames call old.plain → IsInHand taken (moment_of after parts log asks) new
    hand_called after counted held beside =
        hand_goes after counted held
        (leaves_held taken doer.party.me (parts old.plain.index).claims old.plain new.plain
        (call_leaves (caller_of doer) call answer old new is hand.sound.tiled beside) hand.claimed)

    pub held_still : (holding : Option Holding) → new.plain.pages ≡ old.plain.pages → run_grown call ≡ [] → run_cut answer ≡ []
        → IsHeldWith old holding → IsHeldWith new holding
    held_still None same none whole held = absurd held
    held_still (Some holding) same none whole held =
        let adds = calls_add_runs (caller_of doer) call answer old new is in
        record {
          pages = subst (λ (pages : List HeapPage). HasPages pages holding.owned) (sym same) held.pages;
          grown = adds.grown ∙ ap (λ (more : List Run). runs_grown old.history ++ more) none ∙ append-nil (runs_grown old.history) ∙ held.grown;
          cut = adds.cut ∙ ap (λ (more : List Run). runs_cut old.history ++ more) whole ∙ append-nil (runs_cut old.history) ∙ held.cut;
        }

    -- so it is where its pages stay, and by the call no run comes or goes, and nothing that the names speak of
    pub hand_stays : (after : ParticipantView) → after ≡ after_call doer → new.plain.pages ≡ old.plain.pages → run_grown call ≡ []
        → run_cut answer ≡ [] → IsBesideNames call old.plain → IsInHand taken (moment_of after parts log asks) new
    hand_stays after counted same none whole beside =
        hand_called after counted (held_still (parts old.plain.index).holding same none whole hand.held) beside

held_spared : (old new : HeapView) (holding : Option Holding) → new.plain ≡ old.plain → new.history ≡ old.history → IsHeldWith old holding
    → IsHeldWith new holding
held_spared old new None plain same held = absurd held
held_spared old new (Some holding) plain same held = record {
  pages = subst (λ (heap : PlainHeap). HasPages heap.pages holding.owned) (sym plain) held.pages;
  grown = ap (λ (history : List Entry). runs_grown history) same ∙ held.grown;
  cut = ap (λ (history : List Entry). runs_cut history) same ∙ held.cut;
}

-- a heap was taken with the same pen, whatever room it has, and whatever calls it got
pub taken_with : {pen : PenView} (old new : HeapView) (taken : ℕ → Option Kept) → new.plain.index ≡ old.plain.index
    → IsTakenWith taken old.plain.index pen → IsTakenWith taken new.plain.index pen
taken_with old new taken index with_it = record { heap = with_it.heap; out = ap taken index ∙ with_it.out }

-- one that was as it was taken is so with room for more calls
pub spared_taken : (old new : HeapView) (taken : ℕ → Option Kept) → SameButSpare old new → IsAsTaken taken old → IsAsTaken taken new
spared_taken old new taken same is = record {
  was = is.was;
  pen = is.pen;
  out = ap (λ (heap : PlainHeap). taken heap.index) same.plain ∙ is.out;
  same = is.same ∙ sym same.plain;
  left = is.left ∙ sym same.history;
}

module _ (old new : HeapView) (same : SameButSpare old new) (moment : Moment) where
  -- a heap with room for more calls is in hand as before
  pub hand_spared : (taken : ℕ → Option Kept) → IsInHand taken moment old → IsInHand taken moment new
  hand_spared taken hand =
      let index : new.plain.index ≡ old.plain.index = ap (λ (heap : PlainHeap). heap.index) same.plain in
      let serves : new.plain.serves ≡ old.plain.serves = ap (λ (heap : PlainHeap). heap.serves) same.plain in
      let goes =
      leaves_held taken moment.party.me (moment.parts old.plain.index).claims old.plain new.plain
      (leaves_same moment.party.me old.plain new.plain same.plain) hand.claimed in
      record {
        was = hand.was;
        pen = hand.pen;
        taken_is = ap taken index ∙ hand.taken_is;
        pairs = hand.pairs;
        untold = ap (λ (index : ℕ). (moment.parts index).told) index ∙ hand.untold;
        few = subst (λ (index : ℕ). index < MAX_HEAPS) (sym index) hand.few;
        index = index ∙ hand.index;
        serves = serves ∙ hand.serves;
        own = hand.own;
        history = same.history ∙ hand.history;
        numbered = hand.numbered;
        earlier = hand.earlier ∙ ap (λ (index : ℕ). (moment.parts index).entries) (sym index);
        held = subst (λ (index : ℕ). IsHeldWith new (moment.parts index).holding) (sym index)
            (held_spared old new (moment.parts old.plain.index).holding same.plain same.history hand.held);
        sound = record {
          tiled = subst (λ (heap : PlainHeap). IsTiled heap) (sym same.plain) hand.sound.tiled;
          lists = same.lists ∙ hand.sound.lists ∙ ap (λ (heap : PlainHeap). free_lists heap) (sym same.plain);
          stands = subst (λ (heap : PlainHeap). StandsFor heap new.history) (sym same.plain)
              (subst (λ (history : List Entry). StandsFor old.plain history) (sym same.history) hand.sound.stands);
        };
        named = λ none. goes.named none ∙ hand.named none;
        marks = λ other apart. goes.marks other apart ∙ hand.marks other apart;
        claimed = λ these chunk knows. goes.claimed these chunk (ap (λ (index : ℕ). (moment.parts index).claims) (sym index) ∙ knows);
        its_socket = serves ∙ hand.its_socket ∙ ap (λ (index : ℕ). (moment.parts index).serves) (sym index);
        sockets = hand.sockets;
        others = λ other apart. hand.others other (λ (same : other ≡ old.plain.index). apart (same ∙ sym index));
        counted = hand.counted;
      }

  -- and what was done up to there is the same
  pub does_spared : {held : List ℕ} (count : ℕ) (did : List MailStep → Type 0) (doing rest : Doing) (before : Moment)
      → Does held count did doing rest before (in_hand old moment) → Does held count did doing rest before (in_hand new moment)
  does_spared {held} count did doing rest before does =
      subst (λ (heap : PlainHeap). Does held count did doing rest before (in_hand (record new { plain = heap }) moment)) (sym same.plain)
      (subst (λ (history : List Entry). Does held count did doing rest before (in_hand (record new { plain = old.plain; history = history }) moment))
      (sym same.history) does)
