-- A participant with a heap in hand, over what calls leave.
use Rattle.std.proofs.Common.{◌≡◌, ◌≢◌, ◌+◌, ◌<◌, ◌≤◌, ◌++◌, ◌∙◌, ℕ, Bool, List, [], map, refl, sym, ap, subst, ⊎_elim, arith}
use Rattle.std.proofs.lemmas.Bool.{cases_eq}
use Rattle.hp_base.specs.declared.limits.TheConstants.{MAX_HEAPS}
use Rattle.hp_hall.specs.HallState.{HallState, HasMapped, MayServe, OthersStay, SlotsStay, SlotsStayBut}
use Rattle.hp_hall.specs.Holding.{AgreeWith, HeapPart}
use Rattle.hp_hall.specs.Naming.{IsBesideNames, marked_by, naming_of}
use Rattle.hp_hall.specs.declared.slot.TheConstants.{NAMES_SLOT}
use Rattle.hp_hall.proofs.HallStates.{did_then, later_same, may_still, others_same, slots_same}
use Rattle.hp_heap.specs.History.{HeapView, IsCall, SameButSpare}
use Rattle.hp_heap.specs.PlainHeap.{PlainHeap}
use Rattle.hp_zone.specs.declared.names.Names.{Names as NamesView}
use Rattle.hp_heap.specs.HistoryLaws.{run_cut, run_grown}
use Rattle.hp_heap.specs.declared.entry.HeapAnswer.{HeapAnswer}
use Rattle.hp_heap.specs.declared.entry.HeapCall.{HeapCall}
use Rattle.hp_proc.specs.Contexts.{Context}
use Rattle.hp_proc.specs.Courses.{Standing}
use Rattle.hp_base.specs.declared.pool_line.PoolLine.{PoolLine}
use Rattle.hp_proc.specs.Doing.{Doing}
use Rattle.hp_proc.specs.Heaps.{sockets_of}
use Rattle.hp_proc.specs.HeldMarks.{HasMarksOf, IsTiedWith}
use Rattle.hp_proc.specs.LineInHall.{
  AreFreeBesideNames,
  ChangesRoster,
  HasCalled,
  HasCalledBeside,
  HasRoom,
  HoldsIn,
  IsBesideTheNames,
  IsFreeAt,
  IsReadyAgain,
  IsReadyBut,
  IsReadyIn,
  KeepsHeld,
  KnowsAsBefore,
  TableStays,
  did_in,
  moment,
}
use Rattle.hp_serve.specs.InHall.{CanServe, IsTiedIn, RemainsIn, StaysIn, marked_in}
use Rattle.hp_serve.specs.Party.{IsSameParty, Party}
use Rattle.hp_stats.specs.StatViews.{PenView}
use Rattle.hp_proc.specs.NamesInHand.{KeepsAgreed, with_naming}
use Rattle.hp_proc.specs.OwnChunks.{AreMarkedAs, chunks_of, own_chunk}
use Rattle.hp_proc.specs.ParticipantView.{ParticipantView, after_call, with_calls, with_standing}
use Rattle.hp_proc.specs.Progress.{AreSettled, Does, IsInHand, IsTakenWith, MayDo, Moment, caller_of}
use Rattle.hp_proc.proofs.ChunksLeft.{IsBesideChunks, call_marks}
use Rattle.hp_proc.proofs.HandFacts.BesideNames.{held_agrees, knows_same, knows_then, names_but, names_then}
use Rattle.hp_proc.proofs.HandFacts.HandCalls.{call_index, call_serves, hand_spared, hand_stays}
use Rattle.hp_proc.proofs.HandFacts.HandGiven.{ready_still}
use Rattle.hp_proc.proofs.HandFacts.HandMarks.{held_tied, noted_calls, noted_same, spared_marks, with_same}
use Rattle.hp_proc.proofs.LinesInHall.{idle_in, idle_still}
use Rattle.hp_serve.proofs.Carrying.{same_party, same_then}
use Rattle.hp_serve.proofs.InHalls.{remains_then}
use Rattle.hp_proc.proofs.Joining.{does_then}

-- what is known after calls is so but for their number
pub knew_then : (first mid last : Context) → mid ≡ with_calls mid.calls first → last ≡ with_calls last.calls mid
    → last ≡ with_calls last.calls first
knew_then first mid last here next = next ∙ ap (with_calls last.calls) here

-- and so it is where it was the same before
pub knew_same : (first mid : Context) → mid ≡ first → mid ≡ with_calls mid.calls first
knew_same first mid same = ap (with_calls mid.calls) same

pub knew_after : (first mid last : Context) → mid ≡ first → last ≡ with_calls last.calls mid → last ≡ with_calls last.calls first
knew_after first mid last here next = next ∙ ap (with_calls last.calls) here

-- a participant goes on for nothing
pub remains_same : (me : ℕ) (party : Party) (a : HallState) → IsTiedIn me party a → RemainsIn me party party a a
remains_same me party a tied = record {
  same = same_party party;
  tied = tied;
  slots = slots_same a;
  marked = λ heap. refl;
  joined = refl;
  lines = refl;
  later = later_same a;
}

pub keeps_same : (me : ℕ) (doer : ParticipantView) (heap : HeapView) {a : HallState} → HoldsIn me doer heap a
    → KeepsHeld me doer doer heap heap a a
keeps_same me doer heap {a} holds = record {
  in_hand = holds.in_hand;
  index = refl;
  its_socket = refl;
  marks = refl;
  context = refl;
  settled = holds.settled;
  mapped = holds.mapped;
  knows = knows_same me a;
  remains = remains_same me doer.party a holds.can.tied;
}

-- a heap with room for more calls is held as it was
pub spared_holds : (me : ℕ) (doer : ParticipantView) (heap next : HeapView) (a : HallState) → SameButSpare heap next → HoldsIn me doer heap a
    → HoldsIn me doer next a
spared_holds me doer heap next a same holds = record {
  can = holds.can;
  marks = spared_marks me heap next a same holds.marks;
  chunks = holds.chunks;
  in_hand = hand_spared heap next same (moment me doer a) a.taken holds.in_hand;
  settled = holds.settled;
  attached = holds.attached;
  named = holds.named;
  mapped = holds.mapped;
}

-- and names agree with it as they did
pub spared_agrees : {names : NamesView} (heap next : HeapView) (parts : ℕ → HeapPart) → SameButSpare heap next
    → AgreeWith (with_naming heap parts) names → AgreeWith (with_naming next parts) names
spared_agrees heap next parts same =
    held_agrees heap next parts parts (ap (λ (plain : PlainHeap). plain.index) same.plain) (ap naming_of same.plain) (λ index. refl) (λ index. refl)

-- what it did with its heap joins
pub keeps_then : {first mid last : ParticipantView} {one two three : HeapView} {a b c : HallState}
    → KeepsHeld first.party.me first mid one two a b → KeepsHeld mid.party.me mid last two three b c
    → KeepsHeld first.party.me first last one three a c
keeps_then {first} {mid} {last} {one} {two} {three} {a} {b} {c} here next =
    let there : KeepsHeld first.party.me mid last two three b c =
    subst (λ (who : ℕ). KeepsHeld who mid last two three b c) here.remains.same.me next in
    record {
      in_hand = there.in_hand;
      index = there.index ∙ here.index;
      its_socket = there.its_socket ∙ here.its_socket;
      marks = there.marks ∙ here.marks;
      context = knew_then first.context mid.context last.context here.context there.context;
      settled = there.settled;
      mapped = there.mapped;
      knows = knows_then here.knows there.knows;
      remains = remains_then here.remains there.remains;
    }

-- and joins with a wait before it, in which the heap stayed as it was
pub keeps_after : {first mid last : ParticipantView} {one two three : HeapView} {a b c : HallState}
    → RemainsIn first.party.me first.party mid.party a b → KnowsAsBefore first.party.me a b → mid.context ≡ first.context → two ≡ one
    → KeepsHeld mid.party.me mid last two three b c → KeepsHeld first.party.me first last one three a c
keeps_after {first} {mid} {last} {one} {two} {three} {a} {b} {c} here knows knew heap next =
    let there : KeepsHeld first.party.me mid last two three b c =
    subst (λ (who : ℕ). KeepsHeld who mid last two three b c) here.same.me next in
    record {
      in_hand = there.in_hand;
      index = there.index ∙ ap (λ (heap : HeapView). heap.plain.index) heap;
      its_socket = there.its_socket ∙ ap (λ (heap : HeapView). heap.plain.serves) heap;
      marks = there.marks ∙ ap (λ (heap : HeapView). marked_by first.party.me heap.plain) heap;
      context = knew_after first.context mid.context last.context knew there.context;
      settled = there.settled;
      mapped = there.mapped;
      knows = knows_then knows there.knows;
      remains = remains_then here there.remains;
    }

-- what is known after calls says as before whether it is attached
still_attached : (first last : Context) {joined : Bool} → joined ≡ first.standing.attached → last ≡ with_calls last.calls first
    → joined ≡ last.standing.attached
still_attached first last attached knew = attached ∙ sym (ap (λ (context : Context). context.standing.attached) knew)

-- the heap was taken with the same pen, whatever it did with it
pub with_kept : {me : ℕ} {first last : ParticipantView} {before behind : HeapView} {pen : PenView} {a b : HallState}
    → KeepsHeld me first last before behind a b → IsTakenWith a.taken before.plain.index pen → IsTakenWith b.taken behind.plain.index pen
with_kept {me} {first} {last} {before} {behind} {pen} {a} {b} keeps with_it = record {
  heap = with_it.heap;
  out = keeps.remains.slots.taken behind.plain.index ∙ (ap a.taken keeps.index ∙ with_it.out);
}

-- it may go on with the heap in its hand
pub can_on : {first last : ParticipantView} {before behind : HeapView} {a b : HallState}
    → KeepsHeld first.party.me first last before behind a b → MayServe first.party.me a → CanServe last.party.me last.party b
can_on {first} {last} {before} {behind} {a} {b} keeps may =
    let here : CanServe first.party.me last.party b = record {
      may = may_still keeps.remains.slots keeps.remains.later may;
      tied = keeps.remains.tied;
    } in
    subst (λ (who : ℕ). CanServe who last.party b) (sym keeps.remains.same.me) here

pub holds_on : {first last : ParticipantView} {before behind : HeapView} {a b : HallState}
    → KeepsHeld first.party.me first last before behind a b → HoldsIn first.party.me first before a → HoldsIn last.party.me last behind b
holds_on {first} {last} {before} {behind} {a} {b} keeps holds = record {
  can = can_on keeps holds.can.may;
  marks = subst (λ (who : ℕ). marked_by who behind.plain ≡ marked_in who b behind.plain.index) (sym keeps.remains.same.me)
      (keeps.marks
      ∙ (holds.marks ∙ (ap (marked_in first.party.me a) (sym keeps.index) ∙ sym (keeps.remains.marked behind.plain.index))));
  chunks = λ index.
      subst (λ (who : ℕ). AreMarkedAs index (marked_in who b index) last.context.standing.chunks) (sym keeps.remains.same.me)
      (noted_calls index (marked_in first.party.me a index) (marked_in first.party.me b index) first.context last.context
      (keeps.remains.marked index) keeps.context (holds.chunks index));
  in_hand = subst (λ (who : ℕ). IsInHand b.taken (moment who last b) behind) (sym keeps.remains.same.me) keeps.in_hand;
  settled = subst (λ (who : ℕ). AreSettled (moment who last b)) (sym keeps.remains.same.me) keeps.settled;
  attached = subst (λ (who : ℕ). b.joined who ≡ last.context.standing.attached) (sym keeps.remains.same.me)
      (keeps.remains.joined ∙ still_attached first.context last.context holds.attached keeps.context);
  named = subst (λ (who : ℕ). (b.named who).sockets ≡ sockets_of last.context.pools) (sym keeps.remains.same.me)
      ((keeps.remains.later.named first.party.me).sockets
      ∙ (holds.named ∙ sym (ap (λ (context : Context). sockets_of context.pools) keeps.context)));
  mapped = subst (λ (who : ℕ). HasMapped who b) (sym keeps.remains.same.me) keeps.mapped;
}

-- lines of which each goes on from where the one before ended
pub again_then : (first mid last : ParticipantView) {a b : HallState} → HasCalled first.party.me first mid a
    → HasCalled mid.party.me mid last b → HasCalled first.party.me first last b
again_then first mid last {a} {b} here next = record {
  again = record {
    same = same_then first.party mid.party last.party here.again.same next.again.same;
    ready = subst (λ (who : ℕ). IsReadyIn who last b) here.again.same.me next.again.ready;
  };
  context = knew_then first.context mid.context last.context here.context next.context;
}

-- a wait, and a call after it
pub knew_called : (first mid last : ParticipantView) → mid.context ≡ first.context → last ≡ after_call mid
    → last.context ≡ with_calls last.context.calls first.context
knew_called first mid last knew called =
    subst (λ (last : ParticipantView). last.context ≡ with_calls last.context.calls first.context) (sym called)
    (ap (with_calls (mid.context.calls + 1)) knew)

pub remains_called : {me : ℕ} {first : Party} (mid last : ParticipantView) {a b : HallState} → RemainsIn me first mid.party a b
    → last ≡ after_call mid → RemainsIn me first last.party a b
remains_called {me} {first} mid last {a} {b} here called =
    subst (λ (last : ParticipantView). RemainsIn me first last.party a b) (sym called) here

-- a call of the heap in its hand, which leaves the heap its pages, by which no run comes or goes, and which is beside the names and the chunks
pub keeps_called : (doer after : ParticipantView) (heap next : HeapView) {call : HeapCall} {answer : HeapAnswer} {a : HallState}
    → IsCall (caller_of doer) call answer heap next → after ≡ after_call doer → next.plain.pages ≡ heap.plain.pages → run_grown call ≡ []
    → run_cut answer ≡ [] → IsBesideNames call heap.plain → IsBesideChunks call → HoldsIn doer.party.me doer heap a
    → KeepsHeld doer.party.me doer after heap next a a
keeps_called doer after heap next {call} {answer} {a} step counted pages none whole beside apart holds =
    let me = doer.party.me in
    subst (λ (after : ParticipantView). KeepsHeld me doer after heap next a a) (sym counted)
    (record {
      in_hand = hand_stays doer (a.part me) (a.seen me) (a.heard me) call answer heap next step a.taken holds.in_hand (after_call doer) refl pages
          none whole beside;
      index = call_index (caller_of doer) call answer heap next step;
      its_socket = call_serves (caller_of doer) call answer heap next step;
      marks = call_marks me (caller_of doer) call answer heap next step apart;
      context = refl;
      settled = holds.settled;
      mapped = holds.mapped;
      knows = knows_same me a;
      remains = remains_same me doer.party a holds.can.tied;
    })

pub room_called : (calls : ℕ) (doer after : ParticipantView) (heap next : HeapView) → next.spare + 1 ≡ heap.spare → after ≡ after_call doer
    → HasRoom (calls + 1) heap doer → HasRoom calls next after
room_called calls doer after heap next spare counted room =
    let left = room.spare in
    let numbers = room.counted in
    subst (λ (after : ParticipantView). HasRoom calls next after) (sym counted)
    (record { spare = omega (arith, left, spare); counted = omega (arith, numbers) })

-- what was done of a line, and what was done of it next
pub does_next : {held more : List ℕ} (me : ℕ) {inside : ℕ} (first : Moment) (mid last : ℕ → Moment) {doing rest end : Doing}
    {a b c : HallState} → inside ≡ me → b.count ≡ a.count → Does held a.count (did_in me a b) doing rest first (mid me)
    → Does more b.count (did_in inside b c) rest end (mid inside) (last inside)
    → Does (held ++ more) a.count (did_in me a c) doing end first (last me)
does_next {held} {more} me {inside} first mid last {doing} {rest} {end} {a} {b} {c} here count was next =
    does_then a.count (did_in me a b) (did_in me b c) (did_in me a c) doing rest end first (mid me) (last me) (λ one two. did_then) was
    (subst (λ (count : ℕ). Does more count (did_in me b c) rest end (mid me) (last me)) count
    (subst (λ (who : ℕ). Does more b.count (did_in who b c) rest end (mid who) (last who)) here next))

-- a line that did nothing, and one that waited alone
pub again_same : (doer : ParticipantView) {a : HallState} → IsReadyIn doer.party.me doer a → HasCalled doer.party.me doer doer a
again_same doer ready = record { again = record { same = same_party doer.party; ready = ready }; context = refl }

pub again_by : {me : ℕ} (old new : ParticipantView) {a b : HallState} → StaysIn me old.party new.party a b → new.context ≡ old.context
    → IsReadyIn me old a → HasCalled me old new b
again_by {me} old new {a} {b} stays knew ready =
    let others = stays.waits.later.heard me in
    record {
      again = record {
        same = stays.same;
        ready = record {
          idle = idle_in stays ready.idle;
          ready = ready_still old new (a.part me) (b.part me) (a.seen me) (b.seen me) (a.heard me) (b.heard me) others.0 stays.same knew
              stays.waits.parts.part others.1 ready.ready;
          attached = stays.waits.parts.joined ∙ (ready.attached ∙ sym (ap (λ (context : Context). context.standing.attached) knew));
          named = (stays.waits.later.named me).sockets ∙ (ready.named ∙ sym (ap (λ (context : Context). sockets_of context.pools) knew));
          chunks = λ index.
              noted_same index (marked_in me a index) (marked_in me b index) old.context new.context
              (ap (λ (part : HeapPart). part.marked) (stays.waits.parts.part index)) knew (ready.chunks index);
        };
      };
      context = knew_same old.context new.context knew;
    }

-- it is given back, and its holder is ready again but for the names
pub ready_put : (doer : ParticipantView) (heap : HeapView) {old a b : HallState} → HoldsIn doer.party.me doer heap a
    → AreFreeBesideNames heap.plain.index doer.party.me old a → HasMarksOf doer.party.me heap a b
    → (IsTiedWith doer.party.me doer.party heap a → IsTiedIn doer.party.me doer.party b) → MayDo (moment doer.party.me doer b)
    → TableStays doer.party.me a b → IsFreeAt heap.plain.index b → SlotsStayBut heap.plain.index a b → OthersStay doer.party.me a b
    → IsReadyBut NAMES_SLOT doer.party.me doer b
ready_put doer heap {old} {a} {b} holds free marks tied ready table at slots others =
    let me = doer.party.me in
    let may = holds.can.may in
    record {
      serves = others.later.serves me may.serves;
      declared = omega (arith, others.later.count, may.declared);
      free = record {
        taken = λ number away.
            ⊎_elim (λ (is : number ≡ heap.plain.index). ap b.taken is ∙ at.taken)
            (λ (apart : number ≢ heap.plain.index). slots.taken number apart ∙ free.taken number apart away)
            (cases_eq number heap.plain.index);
        home = λ number few away.
            ⊎_elim (λ (is : number ≡ heap.plain.index). subst b.may_take (sym is) at.home)
            (λ (apart : number ≢ heap.plain.index). slots.home number apart (free.home number (below number few away) apart))
            (cases_eq number heap.plain.index);
      };
      tied = tied (held_tied me doer heap holds);
      ready = ready;
      attached = table.joined ∙ holds.attached;
      named = (others.later.named me).sockets ∙ holds.named;
      chunks = λ index. ap (map (own_chunk index)) (marks index ∙ with_same me heap a holds.marks index) ∙ holds.chunks index;
    }
  where
    below : (number : ℕ) → number ≤ NAMES_SLOT → number ≢ NAMES_SLOT → number < NAMES_SLOT
    below number few away = omega (arith, few, away)

pub names_put : {me : ℕ} {heap : HeapView} {old a b : HallState} → heap.plain.index < MAX_HEAPS → AreFreeBesideNames heap.plain.index me old a
    → KeepsAgreed me heap a b → SlotsStayBut heap.plain.index a b → IsBesideTheNames me old b
names_put few free agreed slots = names_then free.names (names_but few slots agreed.told)

-- after what it did with the heap that it took
pub again_put : {first mid last : ParticipantView} {one two : HeapView} {old a b c : HallState} → IsSameParty first.party mid.party
    → mid.context ≡ first.context → KeepsHeld mid.party.me mid last one two a b → IsReadyBut NAMES_SLOT last.party.me last c
    → IsBesideTheNames first.party.me old c → HasCalledBeside first.party.me first last old c
again_put {first} {mid} {last} {one} {two} {old} {a} {b} {c} same knew keeps ready names = record {
  same = same_then first.party mid.party last.party same keeps.remains.same;
  but = subst (λ (who : ℕ). IsReadyBut NAMES_SLOT who last c) (keeps.remains.same.me ∙ same.me) ready;
  context = knew_after first.context mid.context last.context knew keeps.context;
  names = names;
}

-- so it is to a whole line, after which it knows other things
pub again_line : (doer : ParticipantView) {a : HallState} → IsReadyIn doer.party.me doer a → IsReadyAgain doer.party.me doer doer a
again_line doer ready = record { same = same_party doer.party; ready = ready }

-- it attached or detached
pub changes_same : (doer : ParticipantView) {a : HallState} → IsTiedIn doer.party.me doer.party a
    → a.joined doer.party.me ≡ doer.context.standing.attached → ChangesRoster doer.party.me doer doer a a
changes_same doer {a} tied attached = record {
  same = same_party doer.party;
  tied = tied;
  attached = attached;
  pools = refl;
  chunks = λ noted. noted;
  slots = slots_same a;
  others = others_same doer.party.me a;
}

pub changes_noted : (doer mid : ParticipantView) (standing : Standing) {after : ParticipantView} {a b : HallState}
    → IsSameParty doer.party mid.party → mid.context.pools ≡ doer.context.pools → after ≡ with_standing standing mid
    → IsTiedIn doer.party.me mid.party b
    → b.joined doer.party.me ≡ standing.attached → ((heap : ℕ) → b.part doer.party.me heap ≡ a.part doer.party.me heap)
    → standing.chunks ≡ doer.context.standing.chunks → SlotsStay a b → OthersStay doer.party.me a b → ChangesRoster doer.party.me doer after a b
changes_noted doer mid standing {after} {a} {b} same pools noted tied attached part left slots others =
    subst (λ (after : ParticipantView). ChangesRoster doer.party.me doer after a b) (sym noted)
    (record {
      same = same;
      tied = tied;
      attached = attached;
      pools = pools;
      chunks = λ noted heap.
          ap (map (own_chunk heap)) (ap (λ (part : HeapPart). part.marked) (part heap)) ∙ (noted heap ∙ ap (chunks_of heap) (sym left));
      slots = slots;
      others = others;
    })

pub ready_changed : {me : ℕ} {old new : ParticipantView} {a b : HallState} → ChangesRoster me old new a b → IsReadyIn me old a
    → MayDo (moment me new b) → IsReadyAgain me old new b
ready_changed {me} changes ready may = record {
  same = changes.same;
  ready = record {
    idle = idle_still changes.slots changes.others.later changes.tied ready.idle;
    ready = may;
    attached = changes.attached;
    named = (changes.others.later.named me).sockets ∙ (ready.named ∙ sym (ap (λ (pools : List PoolLine). sockets_of pools) changes.pools));
    chunks = changes.chunks ready.chunks;
  };
}
