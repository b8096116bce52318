-- A line on an external heap, with the names in hand: it takes the heap, does its act with both, and gives the heap back.
use Rattle.std.proofs.Common.{◌++◌, ◌+◌, ◌<◌, ◌∙◌, ◌∷◌, ◌≡◌, ◌≢◌, ◌≤◌, Bool, Err, List, None, Ok, OnErr, Option, Result, Some, [], ap, append-nil, arith, cond, eqb, false, filter_map, fold, inl, inr, length, map, option_map, refl, slice_get, subst, sym, true, true≢false, ℕ, ⊎_elim}
use Rattle.std.proofs.lemmas.Bool.Decides.{eqb_tells}
use Rattle.std.proofs.lemmas.Bool.{cases_eq}
use Rattle.std.proofs.lemmas.List.Elements.{filter-append, filter_map-append}
use Rattle.std.proofs.lemmas.List.Sums.{fold-append}
use Rattle.std.specs.Option.{option_flatten}
use Rattle.hp_base.specs.declared.limits.TheConstants.{MAX_HEAPS}
use Rattle.hp_external.specs.Naming.{IsExternalName}
use Rattle.hp_hall.proofs.HallStates.{did_same, did_then}
use Rattle.hp_hall.specs.HallState.{HallState, OthersStay, SlotsStay, SlotsStayBut}
use Rattle.hp_hall.specs.Holding.{HeapPart}
use Rattle.hp_hall.specs.Mail.{MailStep}
use Rattle.hp_hall.specs.Naming.{Naming, naming_of}
use Rattle.hp_hall.specs.declared.kept.Kept.TheVariants.{Heap}
use Rattle.hp_hall.specs.declared.slot.TheConstants.{NAMES_SLOT}
use Rattle.hp_heap.specs.History.{HeapView, entries_of}
use Rattle.hp_heap.specs.PlainHeap.{PlainHeap}
use Rattle.hp_heap.specs.declared.entry.Entry.{Entry}
use Rattle.hp_proc.proofs.Halted.{halts_then, halts_then_trace, then_halts, then_halts_trace}
use Rattle.hp_proc.proofs.HandFacts.HandMarks.{holds_marked}
use Rattle.hp_proc.proofs.HandFacts.HandNamed.{known_here, names_entries}
use Rattle.hp_proc.proofs.HandFacts.OnceHeld.{once_none, once_one}
use Rattle.hp_proc.proofs.InHandUntold.{changes_none, still_leads}
use Rattle.hp_proc.proofs.Joining.{does_same, does_then}
use Rattle.hp_proc.proofs.LinesOrdered.{read_on, untold_both}
use Rattle.hp_proc.proofs.NamedTrees.{Notices}
use Rattle.hp_proc.proofs.NamesAround.{names_give_on}
use Rattle.hp_proc.specs.Contexts.{Context, after_calls}
use Rattle.hp_proc.specs.Courses.{calls_in}
use Rattle.hp_proc.specs.Doing.{Doing, Done, Goes, Leads}
use Rattle.hp_proc.specs.ExternalLines.{seeing_heap}
use Rattle.hp_proc.specs.Halting.{ActsOn, Halts}
use Rattle.hp_proc.specs.Handing.{shared_of}
use Rattle.hp_proc.specs.Heaps.{sockets_of}
use Rattle.hp_proc.specs.HeldMarks.{HasMarksOf, IsTiedWith}
use Rattle.hp_proc.specs.Histories.{entries_for}
use Rattle.hp_proc.specs.LineInHall.{AreFreeBesideNames, AreFreeBut, HaltsHere, HasCalledBeside, HoldsIn, IsAsTaken, IsBesideTheNames, IsFreeAt, SeesHeap, TableStays, did_in, moment, moment_with}
use Rattle.hp_proc.specs.MarksInHand.{HoldsNamedMarked}
use Rattle.hp_proc.specs.NamesInHand.{AgreesStill, DoesNamed, DoesNamedHeld, DoesNamedOnce, HaltsNamed, HaltsNamedHeld, HaltsNamedOnce, IsReadyNamed, KeepsAgreed, TakesAgreed, entries_in}
use Rattle.hp_proc.specs.NamesLog.{change_made}
use Rattle.hp_proc.specs.NamesOfLines.{ChangesNames, names_after, names_read}
use Rattle.hp_proc.specs.OwnChunks.{own_chunk}
use Rattle.hp_proc.specs.ParticipantView.{ParticipantView}
use Rattle.hp_proc.specs.Progress.{Does, IsInHand, MayDo, Moment, doer_at, with_hand}
use Rattle.hp_proc.specs.SharedNames.{NamesChange, SharedNames, names_with}
use Rattle.hp_script.specs.declared.answer.Answer.TheVariants as answer
use Rattle.hp_script.specs.declared.answer.Answer.{Answer}
use Rattle.hp_serve.specs.InHall.{IsTiedIn}
use Rattle.hp_serve.specs.Party.{IsSameParty}
use Rattle.hp_stats.specs.StatViews.{PenView}
use Rattle.hp_zone.specs.declared.heap_name.HeapName.{HeapName}
use Rattle.hp_zone.specs.declared.names.Names.{Names as NamesView}

-- TRACES

quiet : (names : NamesView) (trace : List Done) → trace ≡ [] → ChangesNames names names trace
quiet names trace none = subst (ChangesNames names names) (sym none) (changes_none names)

-- the names are those that what was done first left
changes_then : (names given : NamesView) (first rest : List Done) → ChangesNames names names first → ChangesNames names given rest
    → ChangesNames names given (first ++ rest)
changes_then names given first rest here there = record {
  changed = there.changed
      ∙ (ap (λ (shared : SharedNames). names_after shared rest) here.changed
      ∙ (sym (fold-append names_with (shared_of names) (filter_map change_made first) (filter_map change_made rest))
      ∙ sym (ap (λ (made : List NamesChange). fold names_with (shared_of names) made) (filter_map-append change_made first rest))));
  unread = read_on first rest
      ∙ (ap (λ (some : List SharedNames). some ++ names_read rest) here.unread ∙ there.unread);
  untold = untold_both first rest here.untold there.untold;
}

ended_leads : (given : Answer) (trace : List Done) (rest : Doing) → Leads (Doing.Ended given) trace rest → trace ≡ []
unfolding Leads Goes
ended_leads given [] rest leads = refl
ended_leads given (done ∷ trace) rest leads = absurd leads

-- where it stopped before it took a heap, nothing of what was to do was done
halts_nothing : {heaps : List ℕ} (count : ℕ) (did : List MailStep → Type 0) (old new : Moment) → Halts heaps count did (Doing.Ended answer.Done) old new
    → (doing : Doing) → (halts : Halts heaps count did doing old new) × (halts.trace ≡ [])
unfolding Leads
halts_nothing {heaps} count did old new is doing =
    let none = ended_leads answer.Done is.trace is.rest is.leads in (
      record {
        rest = doing;
        trace = [];
        steps = is.steps;
        held = is.held;
        others = is.others;
        front = is.front;
        leads = refl;
        made = is.made;
        acts = subst (λ (trace : List Done). ActsOn count old.hand new.hand is.held (doer_at old) (doer_at new) trace is.steps) none is.acts;
        entries = λ heap.
            subst (λ (trace : List Done). (new.parts heap).entries
            ≡ (old.parts heap).entries ++ entries_for old.party.me heap (old.context.calls + 1) (calls_in trace)) none (is.entries heap);
        counted = subst (λ (trace : List Done). new.context
            ≡ record (after_calls (length (calls_in trace)) old.context) { standing = new.context.standing }) none is.counted;
        same = is.same;
      },
      refl,
    )

-- THE ENTRIES OF A HEAP IN HAND

socket_of : (h : PlainHeap) → (naming_of h).socket ≡ h.socket
unfolding naming_of
socket_of h = refl

entries_on : (who : ℕ) (first rest : List Entry) → entries_of who (first ++ rest) ≡ entries_of who first ++ entries_of who rest
unfolding entries_of
entries_on who first rest = filter-append (λ (entry : Entry). eqb entry.caller.participant who) first rest

same_heap : {was other : HeapView} {pen pen' : PenView} → Some (Heap was pen) ≡ Some (Heap other pen') → was ≡ other
same_heap same = cc

part_by : (b : Bool) (own : List Entry) (part : HeapPart) → (b ≡ true → own ≡ part.entries) → (cond b (record part { entries = own }) part).entries ≡ part.entries
part_by true own part is = is refl
part_by false own part is = refl

-- as it was taken it has those that its taker gave back last
taken_entries : (me : ℕ) (doer : ParticipantView) (heap : HeapView) (state : HallState) → doer.party.me ≡ me
    → IsInHand state.taken (moment me doer state) heap → IsAsTaken state.taken heap
    → (index : ℕ) → (with_hand me heap (state.part me) index).entries ≡ (state.part me index).entries
taken_entries me doer heap state mine hand fresh index =
    part_by (eqb index heap.plain.index) (entries_of me heap.history) (state.part me index)
    (λ here.
    subst (λ (at : ℕ). entries_of me heap.history ≡ (state.part me at).entries) (sym (its_index index heap.plain.index here))
    (ap (entries_of me) (sym fresh.left ∙ ap (λ (h : HeapView). h.history) (same_heap (sym fresh.out ∙ hand.taken_is)))
    ∙ subst (λ (who : ℕ). entries_of who hand.was.history ≡ (state.part me heap.plain.index).entries) mine hand.earlier))
  where
    its_index : (one other : ℕ) → eqb one other ≡ true → one ≡ other
    its_index one other same =
        ⊎_elim (λ (is : (eqb one other ≡ true) × (one ≡ other)). is.1) (λ (differ : (eqb one other ≡ false) × (one ≢ other)). absurd (true≢false (sym same ∙ differ.0)))
        (eqb_tells one other)

-- and those of its holder follow
more_by : (b : Bool) (own : List Entry) (part : HeapPart) (more : List Entry) → (b ≡ true → own ≡ part.entries ++ more)
    → (rest : List Entry) × ((cond b (record part { entries = own }) part).entries ≡ part.entries ++ rest)
more_by true own part more is = (more, is refl)
more_by false own part more is = ([], sym (append-nil part.entries))

held_entries : (me : ℕ) (doer : ParticipantView) (heap : HeapView) (state : HallState) → doer.party.me ≡ me
    → IsInHand state.taken (moment me doer state) heap
    → (index : ℕ) → (more : List Entry) × ((with_hand me heap (state.part me) index).entries ≡ (state.part me index).entries ++ more)
held_entries me doer heap state mine hand index =
    more_by (eqb index heap.plain.index) (entries_of me heap.history) (state.part me index) (entries_of me hand.own)
    (λ here.
    subst (λ (at : ℕ). entries_of me heap.history ≡ (state.part me at).entries ++ entries_of me hand.own) (sym (its_index index heap.plain.index here))
    (ap (entries_of me) hand.history ∙ (entries_on me hand.was.history hand.own
    ∙ ap (λ (l : List Entry). l ++ entries_of me hand.own)
    (subst (λ (who : ℕ). entries_of who hand.was.history ≡ (state.part me heap.plain.index).entries) mine hand.earlier))))
  where
    its_index : (one other : ℕ) → eqb one other ≡ true → one ≡ other
    its_index one other same =
        ⊎_elim (λ (is : (eqb one other ≡ true) × (one ≡ other)). is.1) (λ (differ : (eqb one other ≡ false) × (one ≢ other)). absurd (true≢false (sym same ∙ differ.0)))
        (eqb_tells one other)

-- THE HEAP IS TAKEN

-- it took the heap of that index, by which it did nothing with the names
pub record TakesThere (index : ℕ) (old mid : ParticipantView) (names : NamesView) (heap : HeapView) (from at : HallState) (tree held : Doing)
    : Type 0 where
  pub does : Does (index ∷ []) from.count (did_in old.party.me from at) tree held (moment old.party.me old from)
      (moment_with heap old.party.me mid at)
  pub changes : ChangesNames names names does.trace

pub took_there : (old mid : ParticipantView) (names : NamesView) (heap : HeapView) (from at : HallState) (tree held : Doing)
    → ((doing : Doing) → Does (heap.plain.index ∷ []) from.count (did_in old.party.me from at) doing doing (moment old.party.me old from)
    (moment_with heap old.party.me mid at))
    → ((goes : PlainHeap → Doing) → SeesHeap heap.plain.index old.party.me old mid heap from at goes)
    → Notices heap.plain tree held → TakesThere heap.plain.index old mid names heap from at tree held
took_there old mid names heap from at tree held did sees (inr is) =
    subst (λ (tree : Doing). TakesThere heap.plain.index old mid names heap from at tree held) (sym is)
    (let does = did held in
    record { does = does; changes = quiet names does.trace (still_leads held does.trace does.leads) })
took_there old mid names heap from at tree held did sees (inl first) =
    subst (λ (tree : Doing). TakesThere heap.plain.index old mid names heap from at tree held) (sym first.tree_is)
    (subst (TakesThere heap.plain.index old mid names heap from at (seeing_heap heap.plain.index first.goes)) first.leaves
    (let seen = sees first.goes in
    record {
      does = seen.does;
      changes = subst (ChangesNames names names) (sym seen.alone) (record { changed = refl; unread = refl; untold = (tt, tt) });
    }))

module _ (old mid : ParticipantView) (names : NamesView) (heap : HeapView) {from at : HallState} (ready : IsReadyNamed old.party.me old names from)
    (same : IsSameParty old.party mid.party) (context : mid.context ≡ old.context) (beside : IsBesideTheNames old.party.me from at)
    (held : HoldsIn old.party.me mid heap at) (fresh : IsAsTaken at.taken heap) (agreed : TakesAgreed old.party.me heap from at)
    (did : (doing : Doing) → Does (heap.plain.index ∷ []) from.count (did_in old.party.me from at) doing doing (moment old.party.me old from)
    (moment_with heap old.party.me mid at)) where
  came_entries : (index : ℕ) → entries_in old.party.me at index ≡ entries_in old.party.me from index
  came_entries index =
      let does = did (Doing.Ended answer.Done) in
      sym (taken_entries old.party.me mid heap at same.me held.in_hand fresh index)
      ∙ (subst (λ (who : ℕ). (with_hand who heap (at.part old.party.me) index).entries
      ≡ (from.part old.party.me index).entries ++ entries_for old.party.me index (old.context.calls + 1) (calls_in does.trace)) same.me
      (does.entries index)
      ∙ (ap (λ (trace : List Done). (from.part old.party.me index).entries
      ++ entries_for old.party.me index (old.context.calls + 1) (calls_in trace)) (still_leads (Doing.Ended answer.Done) does.trace does.leads)
      ∙ append-nil (from.part old.party.me index).entries))

  -- it has both in hand
  pub holds_there : HoldsNamedMarked old.party.me mid names heap at
  holds_there = record {
    holds = holds_marked old.party.me mid heap held;
    told = beside.told ∙ ready.told;
    was = ready.was;
    taken = beside.slot.taken ∙ ready.taken;
    sound = ready.sound;
    goes_on = names_entries (entries_in old.party.me from) (entries_in old.party.me at) ready.was names came_entries ready.goes_on;
    agrees = agreed names ready.agrees;
    sockets = ready.sockets ∙ ap (λ (k : Context). sockets_of k.pools) (sym context);
  }

-- a heap that is meant takes nobody's pages, and its socket number is that of its name
module _ (mid : ParticipantView) (names : NamesView) (heap : HeapView) (me : ℕ) (at : HallState) (holds : HoldsNamedMarked me mid names heap at) where
  pub serves_none : slice_get names.heaps.sockets heap.plain.index ≡ None → heap.plain.serves ≡ None
  serves_none none =
      holds.holds.in_hand.its_socket
      ∙ (holds.holds.in_hand.sockets heap.plain.index
      ∙ (ap (λ (s : List ℕ). slice_get s heap.plain.index) (sym holds.sockets) ∙ none))

  by_text : (naming : Naming) (found : HeapName) (text : Option (List ℕ))
      → Some found ≡ option_map (λ (t : List ℕ). record { name = t; socket = naming.socket }) text → found.socket ≡ naming.socket
  by_text naming found None same = absurd (cc)
  by_text naming found (Some t) same = cc

  pub its_number : (text : List ℕ) (socket : ℕ) → IsExternalName names.heaps.plain text heap.plain.index socket → socket ≡ heap.plain.socket
  its_number text socket is =
      let few = holds.holds.in_hand.few in
      let naming = holds.agrees.namings heap.plain.index in
      sym is.found.socket_is
      ∙ (by_text naming is.found.heap naming.name
      (sym (ap option_flatten is.found.there) ∙ (holds.agrees.agreed.each heap.plain.index few).name)
      ∙ (ap (λ (n : Naming). n.socket) (sym (known_here heap (at.part me) names holds.agrees few)) ∙ socket_of heap.plain))

-- WHAT IT DID

module _ (index : ℕ) (old mid new : ParticipantView) (names given : NamesView) (heap next : HeapView) {from at between to : HallState}
    (tree held : Doing) (took : TakesThere index old mid names heap from at tree held) (mine : mid.party.me ≡ old.party.me)
    (own : new.party.me ≡ old.party.me) (many : at.count ≡ from.count) (more : between.count ≡ from.count)
    (put : (doing : Doing) → Does [] between.count (did_in new.party.me between to) doing doing (moment_with next new.party.me new between)
    (moment new.party.me new to)) where
  abbrev me : ℕ
  me = old.party.me

  put_does : (rest : Doing) → Does [] from.count (did_in me between to) rest rest (moment_with next me new between) (moment me new to)
  put_does rest =
      subst (λ (count : ℕ). Does [] count (did_in me between to) rest rest (moment_with next me new between) (moment me new to)) more
      (subst (λ (who : ℕ). Does [] between.count (did_in who between to) rest rest (moment_with next who new between) (moment who new to)) own
      (put rest))

  record MidDoes (count who : ℕ) (rest : Doing) : Type 0 where
    does : Does [] count (did_in who at between) held rest (moment_with heap who mid at) (moment_with next who new between)
    changes : ChangesNames names given does.trace

  mid_does : (rest : Doing) → DoesNamedHeld mid.party.me mid new names given heap next at between held rest → MidDoes from.count me rest
  mid_does rest is =
      subst (λ (count : ℕ). MidDoes count me rest) many
      (subst (λ (who : ℕ). MidDoes at.count who rest) mine (record { does = is.does; changes = is.names }))

  pub there_does : (rest : Doing) → DoesNamedHeld mid.party.me mid new names given heap next at between held rest
      → DoesNamed (index ∷ []) me old new names given from to tree rest
  unfolding does_then
  there_does rest is =
      let mid_is = mid_does rest is in
      let last = put_does rest in
      let first = does_then from.count (did_in me from at) (did_in me at between) (did_in me from between) tree held rest (moment me old from)
      (moment_with heap me mid at) (moment_with next me new between) (λ one two. did_then) took.does mid_is.does in
      record {
        does = does_then from.count (did_in me from between) (did_in me between to) (did_in me from to) tree rest rest (moment me old from)
            (moment_with next me new between) (moment me new to) (λ one two. did_then) first last;
        names = subst (λ (last : List Done). ChangesNames names given ((took.does.trace ++ mid_is.does.trace) ++ last))
            (sym (still_leads rest last.trace last.leads))
            (subst (ChangesNames names given) (sym (append-nil (took.does.trace ++ mid_is.does.trace)))
            (changes_then names given took.does.trace mid_is.does.trace took.changes mid_is.changes));
      }

  record MidHalts (count who : ℕ) : Type 0 where
    halts : Halts [] count (did_in who at between) held (moment_with heap who mid at) (moment_with next who new between)
    changes : ChangesNames names given halts.trace

  mid_halts : HaltsNamedHeld mid.party.me mid new names given heap next at between held → MidHalts from.count me
  mid_halts is =
      subst (λ (count : ℕ). MidHalts count me) many
      (subst (λ (who : ℕ). MidHalts at.count who) mine (record { halts = is.halts; changes = is.names }))

  pub there_halts : HaltsNamedHeld mid.party.me mid new names given heap next at between held
      → HaltsNamed (index ∷ []) me old new names given from to tree
  there_halts is =
      let mid_is = mid_halts is in
      let first = then_halts from.count (did_in me from at) (did_in me at between) (did_in me from between) (moment me old from)
      (moment_with heap me mid at) (moment_with next me new between) (λ one two. did_then) [] tree held took.does mid_is.halts in
      let last = put_does first.rest in
      let whole = halts_then from.count (did_in me from between) (did_in me between to) (did_in me from to) (moment me old from)
      (moment_with next me new between) (moment me new to) (λ one two. did_then) (index ∷ []) tree first first.rest last in
      let trace_is : whole.trace ≡ (took.does.trace ++ mid_is.halts.trace) ++ last.trace =
      halts_then_trace from.count (did_in me from between) (did_in me between to) (did_in me from to) (moment me old from)
      (moment_with next me new between) (moment me new to) (λ one two. did_then) (index ∷ []) tree first first.rest last
      ∙ ap (λ (front : List Done). front ++ last.trace)
      (then_halts_trace from.count (did_in me from at) (did_in me at between) (did_in me from between) (moment me old from)
      (moment_with heap me mid at) (moment_with next me new between) (λ one two. did_then) [] tree held took.does mid_is.halts) in
      record {
        halts = whole;
        names = subst (ChangesNames names given) (sym trace_is)
            (subst (λ (last : List Done). ChangesNames names given ((took.does.trace ++ mid_is.halts.trace) ++ last))
            (sym (still_leads first.rest last.trace last.leads))
            (subst (ChangesNames names given) (sym (append-nil (took.does.trace ++ mid_is.halts.trace)))
            (changes_then names given took.does.trace mid_is.halts.trace took.changes mid_is.changes)));
      }

-- THE HEAP IS GIVEN BACK

module _ (me slot : ℕ) (new : ParticipantView) (given : NamesView) (next : HeapView) {from at between to : HallState}
    (free : AreFreeBesideNames slot me from at) (holds : HoldsNamedMarked new.party.me new given next between) (index : next.plain.index ≡ slot)
    (kept : SlotsStay at between)
    (put : (doing : Doing) → Does [] between.count (did_in new.party.me between to) doing doing (moment_with next new.party.me new between)
    (moment new.party.me new to))
    (ready : MayDo (moment new.party.me new to)) (marks : HasMarksOf new.party.me next between to)
    (tied : IsTiedWith new.party.me new.party next between → IsTiedIn new.party.me new.party to) (table : TableStays new.party.me between to)
    (agreed : KeepsAgreed new.party.me next between to) (home : IsFreeAt next.plain.index to) (slots : SlotsStayBut next.plain.index between to)
    (others : OthersStay new.party.me between to) where
  abbrev who : ℕ
  who = new.party.me

  few : next.plain.index < MAX_HEAPS
  few = holds.holds.in_hand.few

  below : (number : ℕ) → number ≤ NAMES_SLOT → number ≢ NAMES_SLOT → number < NAMES_SLOT
  below number few away = omega (arith, few, away)

  names_away : NAMES_SLOT ≢ next.plain.index
  names_away same = let low = few in omega (arith, low, same)

  free_but : AreFreeBut NAMES_SLOT to
  free_but = record {
    taken = λ number away.
        ⊎_elim (λ (is : number ≡ next.plain.index). ap to.taken is ∙ home.taken)
        (λ (apart : number ≢ next.plain.index).
        slots.taken number apart ∙ (kept.taken number ∙ free.taken number (λ same. apart (same ∙ sym index)) away))
        (cases_eq number next.plain.index);
    home = λ number few away.
        ⊎_elim (λ (is : number ≡ next.plain.index). subst to.may_take (sym is) home.home)
        (λ (apart : number ≢ next.plain.index).
        slots.home number apart
        (kept.home number (free.home number (below number few away) (λ same. apart (same ∙ sym index)))))
        (cases_eq number next.plain.index);
  }

  given_entries : (heap : ℕ) → (more : List Entry) × (entries_in who to heap ≡ entries_in who between heap ++ more)
  given_entries heap =
      let does = put (Doing.Ended answer.Done) in
      let held = held_entries who new next between refl holds.holds.in_hand heap in (
        held.0,
        does.entries heap
            ∙ (ap (λ (trace : List Done). (with_hand who next (between.part who) heap).entries
            ++ entries_for who heap (new.context.calls + 1) (calls_in trace)) (still_leads (Doing.Ended answer.Done) does.trace does.leads)
            ∙ (append-nil (with_hand who next (between.part who) heap).entries ∙ held.1)),
      )

  -- the names are in hand still
  pub ready_there : IsReadyNamed who new given to
  ready_there =
      let may = holds.holds.may in
      record {
        but = record {
          serves = others.later.serves who may.serves;
          declared = omega (arith, others.later.count, may.declared);
          free = free_but;
          tied = tied holds.holds.tied;
          ready = ready;
          attached = table.joined ∙ holds.holds.attached;
          named = (others.later.named who).sockets ∙ holds.holds.named;
          chunks = λ heap. ap (map (own_chunk heap)) (marks heap) ∙ holds.holds.chunks heap;
        };
        told = agreed.told ∙ holds.told;
        was = holds.was;
        taken = slots.taken NAMES_SLOT names_away ∙ holds.taken;
        sound = holds.sound;
        goes_on = names_give_on {old = entries_in who between} {new = entries_in who to} {taken = holds.was} {given = given} given_entries holds.goes_on;
        agrees = agreed.agrees given holds.agrees;
        sockets = holds.sockets;
      }

-- IT STOPPED BEFORE IT HAD THE HEAP

module _ (old new : ParticipantView) (names : NamesView) {from to : HallState} (heaps : List ℕ) (ready : IsReadyNamed old.party.me old names from)
    (halts : (doing : Doing) → HaltsHere heaps old.party.me old new from to doing) where
  pub stopped_there : (tree : Doing) → HaltsNamed heaps old.party.me old new names names from to tree
  stopped_there tree =
      let is = halts_nothing from.count (did_in old.party.me from to) (moment old.party.me old from) (moment old.party.me new to)
      (halts (Doing.Ended answer.Done)) tree in
      record { halts = is.0; names = quiet names is.0.trace is.1 }

  pub ready_stopped : HasCalledBeside old.party.me old new from to → AgreesStill old.party.me from to → IsReadyNamed old.party.me new names to
  ready_stopped called agreed =
      let is = halts (Doing.Ended answer.Done) in
      record {
        but = called.but;
        told = called.names.told ∙ ready.told;
        was = ready.was;
        taken = called.names.slot.taken ∙ ready.taken;
        sound = ready.sound;
        goes_on = names_give_on {old = entries_in old.party.me from} {new = entries_in old.party.me to} {taken = ready.was} {given = names}
            (λ heap. (entries_for old.party.me heap (old.context.calls + 1) (calls_in is.trace), is.entries heap)) ready.goes_on;
        agrees = agreed names ready.agrees;
        sockets = ready.sockets ∙ sym (ap (λ (k : Context). sockets_of k.pools) called.context);
      }

pub on_err_map : {T E : Type 0} {P Q : Type 0} (result : Result T E) → (P → Q) → OnErr result P → OnErr result Q
on_err_map (Ok value) goes was = tt
on_err_map (Err error) goes was = goes was

-- ONE HEAP, OR NONE

pub once_there : {index me : ℕ} {old new : ParticipantView} {names given : NamesView} {from to : HallState} {tree rest : Doing}
    → DoesNamed (index ∷ []) me old new names given from to tree rest → DoesNamedOnce me old new names given from to tree rest
once_there {index} is = record { does = record { held = index ∷ []; once = once_one index; does = is.does }; names = is.names }

pub halts_once : {index me : ℕ} {old new : ParticipantView} {names given : NamesView} {from to : HallState} {tree : Doing}
    → HaltsNamed (index ∷ []) me old new names given from to tree → HaltsNamedOnce me old new names given from to tree
halts_once {index} is = record { heaps = index ∷ []; once = once_one index; halts = is }

pub refused_once : (old : ParticipantView) (names : NamesView) (state : HallState) (tree : Doing) (given : Answer) → tree ≡ Doing.Ended given
    → DoesNamedOnce old.party.me old old names names state state tree (Doing.Ended given)
refused_once old names state tree given is =
    subst (λ (tree : Doing). DoesNamedOnce old.party.me old old names names state state tree (Doing.Ended given)) (sym is)
    (let does = does_same state.count (did_in old.party.me state state) (Doing.Ended given) (moment old.party.me old state) (did_same old.party.me state) in
    record {
      does = record { held = []; once = once_none; does = does };
      names = quiet names does.trace (still_leads (Doing.Ended given) does.trace does.leads);
    })
