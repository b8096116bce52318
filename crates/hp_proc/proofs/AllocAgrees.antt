-- Names agree with what its participant knows, with the heap in its hand in which a request was tried.
use Rattle.std.proofs.Common.{◌≡◌, ◌∙◌, ◌+◌, ◌++◌, ℕ, Bool, true, false, cond, eqb, List, [], append-nil, Option, Some, None, refl, ap, sym, subst}
use Rattle.std.specs.List.{reduce}
use Rattle.std.specs.Prelude.{Err, IfNone, IsErr, Ok, Result}
use Rattle.std.proofs.lemmas.Bool.{eq-eqb, false≢true}
use Rattle.hp_base.specs.declared.request.Request.{Request}
use Rattle.hp_base.specs.declared.span.Span.{Span}
use Rattle.hp_base.specs.declared.tag.Caller.{Caller}
use Rattle.hp_base.specs.declared.tag.Tag.{Tag}
use Rattle.hp_hall.specs.HallState.{HallState}
use Rattle.hp_hall.specs.Holding.{AgreeWith, HeapPart}
use Rattle.hp_hall.specs.Named.{IsAllocated}
use Rattle.hp_hall.specs.Naming.{naming_of}
use Rattle.hp_heap.specs.Choice.{HasNoChoice, chosen, sooner}
use Rattle.hp_heap.specs.History.{HeapView, IsCall, entries_of}
use Rattle.hp_heap.specs.PlainHeap.{PlainHeap}
use Rattle.hp_heap.specs.Placing.{after_alloc, after_choice}
use Rattle.hp_heap.specs.Step.{address_answer, after}
use Rattle.hp_heap.specs.declared.entry.Entry.{Entry}
use Rattle.hp_heap.specs.declared.entry.HeapAnswer.{HeapAnswer}
use Rattle.hp_heap.specs.declared.entry.HeapCall.TheVariants as call
use Rattle.hp_script.specs.declared.answer.Answer.{Answer}
use Rattle.hp_script.specs.declared.answer.Answer.TheVariants as gives
use Rattle.hp_zone.specs.declared.names.Names.{Names as NamesView}
use Rattle.hp_proc.specs.Courses.{calls_in}
use Rattle.hp_proc.specs.Doing.{Doing, Done}
use Rattle.hp_proc.specs.Histories.{entries_for}
use Rattle.hp_proc.specs.LineInHall.{HoldsIn, KeepsHeld, KnowsAsBefore, did_in, moment, moment_with}
use Rattle.hp_proc.specs.NamesInHand.{KeepsAgreed, TakesAgreed}
use Rattle.hp_proc.specs.ParticipantView.{ParticipantView}
use Rattle.hp_proc.specs.Progress.{Does, caller_of, with_hand}
use Rattle.hp_proc.specs.ZonesInHand.{AgreeOnceAnswered, AgreeOnceAnsweredIn, answer_of, last_answer_of, parts_with}
use Rattle.hp_proc.proofs.HandFacts.BesideNames.{held_agrees}
use Rattle.hp_proc.proofs.HandFacts.HandCalls.{call_index}
use Rattle.hp_proc.proofs.InHandUntold.{still_leads}
use Rattle.hp_proc.proofs.ZoneAgrees.{agrees_found, agrees_none, from_parts, hand_entries, into_parts}

-- without an element to choose the heap stays
left_none : (participant : ℕ) (request : Request) (tag : Tag) (heap : PlainHeap) → HasNoChoice participant request heap
    → after_alloc participant request tag heap ≡ heap
unfolding after_alloc chosen
left_none participant request tag heap none = ap (λ (l : List Span). after_choice (reduce sooner l) request tag heap) none

says_none : (caller : Caller) (asked : Request) (tag : Tag) (given : HeapAnswer) (heap next : HeapView)
    → IsCall caller (call.Alloc asked tag) given heap next → HasNoChoice caller.participant asked heap.plain
    → naming_of next.plain ≡ naming_of heap.plain
unfolding after
says_none caller asked tag given heap next step none = ap naming_of (step.heap ∙ left_none caller.participant asked tag heap.plain none)

none_of : {P : Type 0} (found : Option ℕ) → IfNone found P → found ≡ None → P
none_of None given none = given
none_of (Some addr) given none = cc

-- a line that stopped gave no answer
pub stopped_none : {E : Type 0} (result : Result (Option Answer) E) → IsErr result → None ≡ answer_of result
stopped_none (Ok given) is = absurd (false≢true is)
stopped_none (Err stopped) is = refl

pub stopped_last : {E : Type 0} (result : Result (Answer × ℕ) E) → IsErr result → None ≡ last_answer_of result
stopped_last (Ok given) is = absurd (false≢true is)
stopped_last (Err stopped) is = refl

-- it was held on, and what the names say of it is as it was
hand_keeps : (who : ℕ) (heap next : HeapView) (old new : ℕ → HeapPart) → next.plain.index ≡ heap.plain.index
    → naming_of next.plain ≡ naming_of heap.plain → ((index : ℕ) → (new index).naming ≡ (old index).naming)
    → ((index : ℕ) → (new index).claims ≡ (old index).claims) → (names : NamesView)
    → AgreeWith (parts_with who heap old) names → AgreeWith (parts_with who next new) names
hand_keeps who heap next old new same says naming claims names agree =
    into_parts who next new (held_agrees heap next old new same says naming claims (from_parts who heap old agree))

other_answer : (addr : ℕ) → Some gives.None ≡ Some (gives.Address addr) → ⊥
other_answer addr is = cc

module _ (doer : ParticipantView) (heap next : HeapView) (asked : Request) (tag : Tag) (found : Option ℕ) (a : HallState)
    (step : IsCall (caller_of doer) (call.Alloc asked tag) (address_answer found) heap next) (holds : HoldsIn doer.party.me doer heap a) where
  abbrev me : ℕ
  me = doer.party.me

  same : next.plain.index ≡ heap.plain.index
  same = call_index (caller_of doer) (call.Alloc asked tag) (address_answer found) heap next step

  -- an address was given
  pub agrees_first : (addr : ℕ) → found ≡ Some addr
      → AgreeOnceAnsweredIn me tag (Some (gives.Address addr)) heap next (a.part me) (a.part me)
  agrees_first addr is =
      agrees_found (caller_of doer) heap next asked tag addr
      (subst (λ (found : Option ℕ). IsCall (caller_of doer) (call.Alloc asked tag) (address_answer found) heap next) is step)
      holds.in_hand.sound.tiled same holds.in_hand.few (parts_with me heap (a.part me)) (a.part me)
      (λ names agree. from_parts me heap (a.part me) agree)

  -- none was
  pub keeps_searched : IfNone found (HasNoChoice me asked heap.plain) → found ≡ None → (names : NamesView)
      → AgreeWith (parts_with me heap (a.part me)) names → AgreeWith (parts_with me next (a.part me)) names
  keeps_searched missing none =
      hand_keeps me heap next (a.part me) (a.part me) same
      (says_none (caller_of doer) asked tag (address_answer found) heap next step (none_of found missing none)) (λ index. refl) (λ index. refl)

  module _ (missing : IfNone found (HasNoChoice me asked heap.plain)) (none : found ≡ None) (mid grown : ParticipantView) (more : HeapView)
      (b : HallState) (mine : mid.party.me ≡ me) (keeps : KeepsHeld mid.party.me mid grown next more a b)
      (says : naming_of more.plain ≡ naming_of next.plain) where
    knows : KnowsAsBefore me a b
    knows = subst (λ (who : ℕ). KnowsAsBefore who a b) mine keeps.knows

    -- and pages were asked for
    pub keeps_asked : (names : NamesView) → AgreeWith (parts_with me heap (a.part me)) names → AgreeWith (parts_with me more (b.part me)) names
    keeps_asked names agree =
        hand_keeps me next more (a.part me) (b.part me) keeps.index says knows.naming knows.claims names (keeps_searched missing none names agree)

    module _ (request : Request) (twice : Option ℕ) (again : HeapView)
        (second : IsCall (caller_of grown) (call.Alloc request tag) (address_answer twice) more again) where
      here : grown.party.me ≡ me
      here = keeps.remains.same.me ∙ mine

      same_again : again.plain.index ≡ more.plain.index
      same_again = call_index (caller_of grown) (call.Alloc request tag) (address_answer twice) more again second

      -- and it was searched again
      pub agrees_again : (addr : ℕ) → twice ≡ Some addr
          → AgreeOnceAnsweredIn me tag (Some (gives.Address addr)) heap again (a.part me) (b.part me)
      agrees_again addr is =
          subst (λ (who : ℕ). AgreeOnceAnswered tag (Some (gives.Address addr)) again.plain.index (parts_with me heap (a.part me))
          (parts_with who again (b.part me))) here
          (agrees_found (caller_of grown) more again request tag addr
          (subst (λ (found : Option ℕ). IsCall (caller_of grown) (call.Alloc request tag) (address_answer found) more again) is second)
          keeps.in_hand.sound.tiled same_again keeps.in_hand.few (parts_with me heap (a.part me)) (b.part me)
          (λ names agree. from_parts me more (b.part me) (keeps_asked names agree)))

      pub agrees_missing : IfNone twice (HasNoChoice grown.party.me request more.plain) → twice ≡ None
          → AgreeOnceAnsweredIn me tag (Some gives.None) heap again (a.part me) (b.part me)
      agrees_missing lacks gone =
          agrees_none other_answer
          (λ names agree.
          hand_keeps me more again (b.part me) (b.part me) same_again
          (says_none (caller_of grown) request tag (address_answer twice) more again second (none_of twice lacks gone)) (λ index. refl) (λ index. refl)
          names (keeps_asked names agree))

-- GIVEN BACK

-- the entries of a heap that is given back are what it has of its holder's
hand_has : (who : ℕ) (heap : HeapView) (parts : ℕ → HeapPart) (index : ℕ) → index ≡ heap.plain.index
    → (with_hand who heap parts index).entries ≡ entries_of who heap.history
hand_has who heap parts index same =
    let test : eqb index heap.plain.index ≡ true = eq-eqb index heap.plain.index same in
    by_test (eqb index heap.plain.index) test
  where
    by_test : (b : Bool) → b ≡ true
        → (cond b (record (parts index) { entries = entries_of who heap.history }) (parts index)).entries ≡ entries_of who heap.history
    by_test true is = refl
    by_test false is = cc

pub put_entries : (doer : ParticipantView) (heap : HeapView) (third last : HallState)
    → ((doing : Doing) → Does [] third.count (did_in doer.party.me third last) doing doing (moment_with heap doer.party.me doer third)
    (moment doer.party.me doer last)) → (index : ℕ) → index ≡ heap.plain.index
    → (last.part doer.party.me index).entries ≡ entries_of doer.party.me heap.history
put_entries doer heap third last puts index same =
    let me = doer.party.me in
    let does = puts (Doing.Ended gives.None) in
    let front : HeapPart = with_hand me heap (third.part me) index in
    does.entries index
    ∙ (ap (λ (trace : List Done). front.entries ++ entries_for me index (doer.context.calls + 1) (calls_in trace))
    (still_leads (Doing.Ended gives.None) does.trace does.leads)
    ∙ (append-nil front.entries ∙ hand_has me heap (third.part me) index same))

module _ (me : ℕ) (tag : Tag) (given : Option Answer) (index : ℕ) (heap left : HeapView) (first second third last : HallState)
    (here : heap.plain.index ≡ index) (same : left.plain.index ≡ heap.plain.index) (takes : TakesAgreed me heap first second)
    (there : AgreeOnceAnsweredIn me tag given heap left (second.part me) (third.part me)) (puts : KeepsAgreed me left third last)
    (kept : (last.part me index).entries ≡ entries_of me left.history) where
  back : (names : NamesView) → AgreeWith (parts_with me left (third.part me)) names → AgreeWith (last.part me) names
  back names agree = puts.agrees names (from_parts me left (third.part me) agree)

  taken_so : (names : NamesView) → AgreeWith (first.part me) names → AgreeWith (parts_with me heap (second.part me)) names
  taken_so names agree = into_parts me heap (second.part me) (takes names agree)

  -- a heap was tried
  pub agrees_tried : AgreeOnceAnswered tag given index (first.part me) (last.part me)
  agrees_tried = record {
    still = λ names found agree. back names (there.still names found (taken_so names agree));
    with_more = λ names more zone zoned is at have agree.
        back more (there.with_more names more zone zoned is (at ∙ sym (same ∙ here)) have (taken_so names agree));
    allocated = λ addr is.
        subst (λ (entries : List Entry). IsAllocated addr entries) (hand_entries me left (third.part me) left.plain.index refl ∙ sym kept)
        (there.allocated addr is);
  }
