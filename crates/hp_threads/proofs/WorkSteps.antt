-- A participant serves once more, or does a line more, and has done so all that it did before.
use Rattle.std.proofs.Common.{◌≡◌, ◌∙◌, ℕ, ◌+◌, ◌≤◌, Bool, List, [], ◌∷◌, ◌++◌, length, Option, Some, None, refl, sym, ap, subst, arith}
use Rattle.std.specs.Prelude.{Result, Ok, Err, OnOk}
use Rattle.std.specs.Result.{result_ok}
use Rattle.std.proofs.lemmas.List.{append_cancel_left, length_push}
use Rattle.std.proofs.lemmas.List.Elements.{All-push}
use Rattle.hp_base.specs.declared.chunk.Chunk.{Chunk}
use Rattle.hp_hall.specs.HallCalls.{HasStored, MayStore}
use Rattle.hp_hall.specs.declared.slot.TheConstants.{NAMES_SLOT}
use Rattle.hp_hall.specs.HallState.{Did, HallState, IsLater, SlotsStay}
use Rattle.hp_hall.specs.Holding.{HeapPart}
use Rattle.hp_hall.specs.Mail.{MailStep}
use Rattle.hp_hall.proofs.HallStates.{did_then}
use Rattle.hp_script.specs.declared.answer.Answer.{Answer}
use Rattle.hp_script.specs.declared.line.Line.{Line}
use Rattle.hp_script.specs.declared.workload.Workload.{Workload}
use Rattle.hp_serve.specs.Coordinating.{IsServed}
use Rattle.hp_serve.specs.InHall.{StaysIn}
use Rattle.hp_serve.specs.Party.{IsSameParty, Party}
use Rattle.hp_serve.specs.SegmentSlot.{MarksStay}
use Rattle.hp_serve.proofs.Carrying.{same_party, same_then}
use Rattle.hp_serve.proofs.InHalls.{tied_later}
use Rattle.hp_proc.specs.Acting.{Acts, AreAsked}
use Rattle.hp_proc.specs.Contexts.{Context}
use Rattle.hp_proc.specs.Denying.{denials_of}
use Rattle.hp_proc.specs.Courses.{Standing, calls_in}
use Rattle.hp_proc.specs.Histories.{entries_for}
use Rattle.hp_proc.specs.LineInHall.{DoesLineHere, IsReadyAgain, IsReadyIn}
use Rattle.hp_proc.specs.LinesDone.{AreDone, Course, courses_of, opening_standing}
use Rattle.hp_proc.specs.OwnChunks.{AreMarkedAs}
use Rattle.hp_proc.specs.ParticipantView.{ParticipantView, with_party}
use Rattle.hp_proc.proofs.HandFacts.HandGiven.{ready_still}
use Rattle.hp_proc.proofs.HandFacts.Holds.{again_by, again_line}
use Rattle.hp_proc.proofs.Joining.{asked_on}
use Rattle.hp_proc.proofs.LineEnds as ends
use Rattle.hp_proc.proofs.LinesInHall.{idle_still}
use Rattle.hp_proc.specs.Progress.{Moment, doer_at}
use Rattle.thm_run.specs.Seats.{Seat}
use Rattle.thm_run.specs.SoFar.{trace_for}
use Rattle.thm_run.proofs.LineSteps.LineMore.{asked_later, context_more, done_more, entries_more, known_next, own_calls, own_courses, own_trace}
use Rattle.thm_run.proofs.PathSteps.PathsServing.{serving_path}
use Rattle.hp_threads.specs.Adding.{added_by}
use Rattle.hp_threads.specs.Working.{GoesOnWorking, HasDoneLines, HasWorkedIn, IsCourseOf, IsReadyStill, WorksOneMore}
use Rattle.hp_threads.specs.Works.{Works, tells}

-- SERVING

-- a participant that knows what it knew
same_doer : (old new : ParticipantView) → new.context ≡ old.context → with_party new.party old ≡ new
same_doer old new knew = ap (λ (context : Context). record { party = new.party; context = context }) (sym knew)

abbrev blank : Standing → Party → Seat
blank left party = record { party = party; standing = left; lines = []; trace = []; fetched = []; asking = None }

-- serving asks for nothing of its own
asked_stays : (count who : ℕ) (left : Standing) (old new : Party) (steps : List MailStep) (moved : Bool) → old.me ≡ who
    → IsServed (denials_of left) count old new steps (Some moved) → new.asked ≡ old.asked
asked_stays count who left old new steps moved me served =
    (serving_path count who left old new steps moved me served (blank left old) refl).asked

-- its lines are done still by a later state, where its parts in heaps stay
module _ (workload : Workload) (courses : List Course) (me : ℕ) (old new : ParticipantView) {a b : HallState} (later : IsLater a b)
    (parts : (heap : ℕ) → b.part me heap ≡ a.part me heap) where
  pub done_still : IsSameParty old.party new.party → new.context ≡ old.context → new.party.asked ≡ old.party.asked
      → HasDoneLines workload courses me old (a.part me) (a.seen me) (a.heard me)
      → HasDoneLines workload courses me new (b.part me) (b.seen me) (b.heard me)
  done_still same knew number done =
      let seen = later.seen me in
      let heard = later.heard me in
      record {
        me = same.me ∙ done.me;
        socket = same.socket ∙ done.socket;
        deadline = same.deadline ∙ done.deadline;
        knows = knew ∙ done.knows;
        own = done.own;
        done = done.done;
        entries = λ heap. ap (λ (part : HeapPart). part.entries) (parts heap) ∙ done.entries heap;
        asked = subst (λ (asked : ℕ). AreAsked (b.seen me) (b.heard me) me 0 asked (trace_for me courses)) (sym number)
            (asked_later (a.seen me) seen.0 (b.seen me) (a.heard me) heard.0 (b.heard me) me 0 old.party.asked (trace_for me courses)
            seen.1 heard.1 done.asked);
      }

-- it has served once more
pub serving_more : (workload : Workload) (me : ℕ) (courses : List Course) (first old new : ParticipantView) {from to : HallState}
    (steps : List MailStep) (moved : Bool) → old.party.me ≡ me → Did me steps from to
    → IsServed (denials_of old.context.standing) from.count old.party new.party steps (Some moved) → StaysIn me old.party new.party from to → new.context ≡ old.context
    → HasWorkedIn workload me courses first old from → HasWorkedIn workload me courses first new to
serving_more workload me courses first old new {from} {to} steps moved here did served stays knew was =
    let by : IsServed (denials_of old.context.standing) workload.participants old.party new.party steps (Some moved) =
    subst (λ (n : ℕ). IsServed (denials_of old.context.standing) n old.party new.party steps (Some moved)) was.count served in
    record {
      works = subst (Works workload.participants first new courses) (sym did.made)
          (subst (λ (doer : ParticipantView). Works workload.participants first doer courses (from.done me ++ steps))
          (same_doer old new knew)
          (Works.serves first old new.party courses (from.done me) steps moved was.works by));
      done = done_still workload courses me old new stays.waits.later stays.waits.parts.part stays.same knew
          (asked_stays from.count me old.context.standing old.party new.party steps moved here served) was.done;
      ready = (again_by old new stays knew was.ready).again.ready;
      told = stays.waits.parts.lines ∙ was.told;
      count = stays.waits.later.count ∙ was.count;
    }

-- A LINE

-- it is ready still by a later state, where its slots and its parts in heaps stay
pub ready_later : (me : ℕ) (doer : ParticipantView) {a b : HallState} → SlotsStay a b → IsLater a b
    → ((heap : ℕ) → b.part me heap ≡ a.part me heap) → b.joined me ≡ a.joined me → b.own me ≡ a.own me → IsReadyIn me doer a
    → IsReadyIn me doer b
ready_later me doer {a} {b} slots later parts joined own ready =
    let marks : MarksStay me a b = λ heap. ap (λ (part : HeapPart). part.marked) (parts heap) in
    record {
      idle = idle_still slots later (tied_later me doer.party later joined own marks ready.idle.tied) ready.idle;
      ready = ready_still doer doer (a.part me) (b.part me) (a.seen me) (b.seen me) (a.heard me) (b.heard me) (later.heard me).0
          (same_party doer.party) refl parts (later.heard me).1 ready.ready;
      attached = joined ∙ ready.attached;
      named = (later.named me).sockets ∙ ready.named;
      chunks = λ heap.
          subst (λ (marked : List Chunk). AreMarkedAs heap marked doer.context.standing.chunks) (sym (marks heap)) (ready.chunks heap);
    }

-- after it told of its lines it is ready still
pub told_ready : (me lines : ℕ) (doer : ParticipantView) {mid to : HallState} → HasStored me lines mid to → IsReadyIn me doer mid
    → IsReadyIn me doer to
told_ready me lines doer is ready = ready_later me doer is.slots is.others.later is.part is.joined is.own ready

-- it may tell of so many, where it has told of no more
pub may_store : (me lines : ℕ) (doer : ParticipantView) {mid : HallState} → IsReadyIn me doer mid → mid.lines me ≤ lines → MayStore me lines mid
may_store me lines doer ready low = record { rises = low; free = ready.ready.unheld; names = ready.idle.free NAMES_SLOT }

-- what it had of each heap grew by what its steps added
abbrev pub AddsHere : ℕ → HallState → HallState → Type 0
AddsHere me from to = (steps : List MailStep) → Did me steps from to → (heap : ℕ)
    → (to.part me heap).entries ≡ (from.part me heap).entries ++ added_by heap steps

module _ (workload : Workload) (me : ℕ) (courses : List Course) (first old new : ParticipantView) (line : Line) (answer : Answer)
    {from mid : HallState} (here : old.party.me ≡ me) (own : line.participant ≡ me)
    (was : HasWorkedIn workload me courses first old from) (does : DoesLineHere me old new from mid line answer)
    (again : IsReadyAgain me old new mid) (later : IsLater from mid) (adds : AddsHere me from mid) where
  abbrev pub course : Course
  course = record { line = line; answer = answer; trace = does.does.trace }

  abbrev more : List Course
  more = courses ++ course ∷ []

  line_asked : AreAsked (mid.seen me) (mid.heard me) me 0 new.party.asked (trace_for me more)
  line_asked =
      let is = does.does in
      subst (AreAsked (mid.seen me) (mid.heard me) me 0 new.party.asked) (sym (own_trace workload me courses course own))
      (asked_on (mid.seen me) (mid.heard me) me 0 old.party.asked new.party.asked (trace_for me courses) is.trace
      (asked_later (from.seen me) is.more (mid.seen me) (from.heard me) is.outcomes (mid.heard me) me 0 old.party.asked
      (trace_for me courses) (ends.line_log does) (ends.line_asks does) was.done.asked)
      (subst (λ (who : ℕ). AreAsked (mid.seen me) (mid.heard me) who old.party.asked new.party.asked is.trace) here (ends.line_asked does)))

  pub line_done : HasDoneLines workload more me new (mid.part me) (mid.seen me) (mid.heard me)
  line_done =
      let is = does.does in
      record {
        me = again.same.me ∙ here;
        socket = again.same.socket ∙ was.done.socket;
        deadline = again.same.deadline ∙ was.done.deadline;
        knows = context_more workload me courses course own old.context new.context was.done.knows (ends.line_counted does) does.left;
        own = All-push (λ (course : Course). course.line.participant ≡ me) courses course was.done.own own;
        done = subst (AreDone workload (opening_standing workload me)) (sym (own_courses me courses course own))
            (done_more workload (opening_standing workload me) (courses_of me courses) course was.done.done
            (record {
              facts = does.facts;
              known = known_next workload me courses old.party.socket old.context line does.facts was.done.socket was.done.knows own does.known;
              does = is.leads;
            }));
        entries = λ heap.
            entries_more old.party.me me heap old.context.calls (calls_in (trace_for me courses)) (calls_in is.trace)
            (calls_in (trace_for me more)) (from.part me heap).entries (mid.part me heap).entries here
            (ap (λ (context : Context). context.calls) was.done.knows) (was.done.entries heap) (ends.line_entries does heap)
            (own_calls workload me courses course own);
        asked = line_asked;
      }

  line_added : (heap : ℕ)
      → added_by heap does.does.steps ≡ entries_for old.party.me heap (old.context.calls + 1) (calls_in does.does.trace)
  line_added heap =
      let it = does.does in
      append_cancel_left (from.part me heap).entries (added_by heap it.steps)
      (entries_for old.party.me heap (old.context.calls + 1) (calls_in it.trace)) (sym (adds it.steps it.made heap) ∙ ends.line_entries does heap)

  -- and then it told of it
  pub line_more : {to : HallState} (lines : ℕ) → HasStored me lines mid to → length courses + 1 ≡ lines
      → HasWorkedIn workload me more first new to
  line_more {to} lines is many =
      let it = does.does in
      record {
        works = subst (Works workload.participants first new more)
            (sym (did_then it.made (subst (λ (n : ℕ). Did me (tells n) mid to) (sym many) is.did)).made)
            (Works.does first old new courses course (from.done me) it.steps was.works
            (record {
              held = does.held;
              once = does.once;
              mid = doer_at does.mid;
              acts = subst (λ (n : ℕ). Acts n None None does.held old (doer_at does.mid) it.trace it.steps) was.count
                  (subst (λ (hand : Option ℕ). Acts from.count None hand does.held old (doer_at does.mid) it.trace it.steps)
                  (ap (λ (moment : Moment). moment.hand) (sym does.ended)) it.acts);
              ended = ap doer_at does.ended;
              left = does.left;
              added = line_added;
              names = does.names;
              awaited = does.awaited;
            }));
        done = done_still workload more me new new is.others.later is.part (same_party new.party) refl refl line_done;
        ready = told_ready me lines new is again.ready;
        told = is.lines_are ∙ (sym many ∙ sym (length_push courses course));
        count = is.others.later.count ∙ (later.count ∙ was.count);
      }

-- WHATEVER IT HAS DONE BEFORE

-- by one serving that was not stopped
pub serve_goes : {E : Type 0} (result : Result Bool E) (old new : ParticipantView) {from to : HallState} (steps : List MailStep)
    → Did old.party.me steps from to → IsServed (denials_of old.context.standing) from.count old.party new.party steps (result_ok result)
    → StaysIn old.party.me old.party new.party from to → new.context ≡ old.context → OnOk result (GoesOnWorking old new from to)
serve_goes (Ok moved) old new {from} {to} steps did served stays knew = λ workload me courses first was.
    subst
    (λ (me : ℕ). HasWorkedIn workload me courses first old from → HasWorkedIn workload me courses first new to)
    was.done.me (serving_more workload old.party.me courses first old new steps moved refl did served stays knew) was
serve_goes (Err e) old new steps did served stays knew = tt

-- by a line, of which it told then
pub line_goes : (old new : ParticipantView) (line : Line) (given : Answer) (lines done : ℕ) {from mid to : HallState}
    → line.participant ≡ old.party.me → DoesLineHere old.party.me old new from mid line given → IsReadyAgain old.party.me old new mid
    → IsLater from mid → AddsHere old.party.me from mid → HasStored old.party.me done mid to → lines + 1 ≡ done
    → WorksOneMore line given lines old new from to
line_goes old new line given lines done {from} {mid} {to} own does again later adds is next = λ workload me courses first was many.
    subst
    (λ (me : ℕ). HasWorkedIn workload me courses first old from
    → (course : Course) × IsCourseOf line given course × HasWorkedIn workload me (courses ++ course ∷ []) first new to)
    was.done.me
    (λ (here : HasWorkedIn workload old.party.me courses first old from). (
      course workload old.party.me courses first old new line given refl own here does again later adds,
      record { line_is = refl; answer_is = refl },
      line_more workload old.party.me courses first old new line given refl own here does again later adds done is (omega (arith, many, next)),
    )) was

-- READY AGAIN

pub again_then : (first mid last : ParticipantView) {a b : HallState} → IsReadyAgain first.party.me first mid a
    → IsReadyAgain mid.party.me mid last b → IsReadyAgain first.party.me first last b
again_then first mid last {a} {b} here next = record {
  same = same_then first.party mid.party last.party here.same next.same;
  ready = subst (λ (who : ℕ). IsReadyIn who last b) here.same.me next.ready;
}

pub again_ready : (first mid : ParticipantView) {a : HallState} → IsReadyAgain first.party.me first mid a → IsReadyIn mid.party.me mid a
again_ready first mid {a} here = subst (λ (who : ℕ). IsReadyIn who mid a) (sym here.same.me) here.ready

pub still_same : (doer : ParticipantView) {a : HallState} → IsReadyIn doer.party.me doer a → IsReadyStill doer doer a a
still_same doer ready = record { again = again_line doer ready; context = refl; lines = refl }

pub still_then : (first mid last : ParticipantView) {a b c : HallState} → IsReadyStill first mid a b → IsReadyStill mid last b c
    → IsReadyStill first last a c
still_then first mid last {a} {b} {c} here next = record {
  again = again_then first mid last here.again next.again;
  context = next.context ∙ here.context;
  lines = subst (λ (who : ℕ). c.lines who ≡ b.lines who) here.again.same.me next.lines ∙ here.lines;
}

-- one thing after another
pub goes_then : (first mid last : ParticipantView) {a b c : HallState} → GoesOnWorking first mid a b → GoesOnWorking mid last b c
    → GoesOnWorking first last a c
goes_then first mid last here next = λ workload me courses begun was.
    next workload me courses begun (here workload me courses begun was)

pub goes_more : (line : Line) (given : Answer) (lines : ℕ) (first mid last : ParticipantView) {a b c : HallState}
    → GoesOnWorking first mid a b → WorksOneMore line given lines mid last b c → WorksOneMore line given lines first last a c
goes_more line given lines first mid last here next = λ workload me courses begun was many.
    next workload me courses begun (here workload me courses begun was) many

-- nothing is asked of what was refused
pub unless_ok : {A E : Type 0} (result : Result A E) (refusal : E) (P : Type 0) → result ≡ Err refusal → OnOk result P
unless_ok (Ok value) refusal P is = cc
unless_ok (Err refused) refusal P is = tt
