-- An allocation line is served from the first of its heaps that has or gets memory for it, and its element is noted.
use Rattle.std.proofs.Common.{◌≡◌, ◌∙◌, ℕ, ◌*◌, ◌≤◌, [], List, length, map, Option, Some, None, true, false, refl, ap, sym, subst, arith, inl}
use Rattle.std.specs.List.{Contains}
use Rattle.hp_base.specs.declared.limits.TheConstants.{MAX_HEAPS}
use Rattle.hp_base.specs.declared.request.Request.{Request}
use Rattle.hp_hall.proofs.HallStates.{did_same}
use Rattle.hp_hall.specs.HallState.{HallState, IsBusy}
use Rattle.hp_hall.specs.declared.slot.TheConstants.{NAMES_SLOT}
use Rattle.hp_script.specs.declared.answer.Answer.{Answer}
use Rattle.hp_script.specs.declared.answer.Answer.TheVariants as gives
use Rattle.hp_script.specs.declared.line.Line.{Line}
use Rattle.hp_script.specs.declared.options.Options.{Options}
use Rattle.hp_serve.proofs.AskingFacts.AskedAlong.{on_err_any}
use Rattle.hp_serve.specs.Clocks.{RisesWithin, longest_growth}
use Rattle.hp_serve.specs.Party.{IsSameParty, Party}
use Rattle.hp_proc.specs.Allocating.{serving}
use Rattle.hp_proc.specs.Contexts.{Context, IsNextLine}
use Rattle.hp_proc.specs.LineInHall.{DoesLineHere, HaltsHere, HaltsLineHere, HasCalled, IsKnownMapped, IsMapped, IsReadyAgain, IsReadyBut, IsReadyIn, MayGiveBeside, did_in, moment}
use Rattle.hp_proc.specs.Lines.{tag_of}
use Rattle.hp_proc.specs.ParticipantView.{ParticipantView, after_answer, with_calls}
use Rattle.hp_proc.specs.PlaceLists.{place_list}
use Rattle.hp_proc.specs.Progress.{AreOnce, IsAllocation}
use Rattle.hp_proc.specs.declared.searched_heap.SearchedHeap.{SearchedHeap}
use Rattle.hp_proc.proofs.AddressLies.{lies_in_table}
use Rattle.hp_proc.proofs.AllocLines.{alloc_by, line_answered, line_halts}
use Rattle.hp_proc.proofs.Halted.{halts_of, halts_same}
use Rattle.hp_proc.proofs.HandFacts.BesideNames.{but_home, called_home}
use Rattle.hp_proc.proofs.HandFacts.Holds.{again_line, again_then}
use Rattle.hp_proc.proofs.HandFacts.OnceHeld.{once_none}
use Rattle.hp_proc.proofs.Rising.{rises_within}
use Rattle.hp_proc.proofs.ServedLines.{chosen_few, chosen_of, chosen_once, served, served_halts, stopped_choosing}
use Rattle.hp_proc.proofs.participant.Participant.serve_line.Goals as goal

-- what its line left changes nothing of what it may do, nor of who it is, of its table and its slots
ready_answered : (line heap : ℕ) (answer : Answer) (me : ℕ) (mid : ParticipantView) {a : HallState} → IsReadyIn me mid a
    → IsReadyIn me (after_answer line heap answer mid) a
ready_answered line heap (gives.Address address) me mid ready = record {
  idle = ready.idle;
  ready = record {
    sockets = ready.ready.sockets;
    unheld = ready.ready.unheld;
    settled = ready.ready.settled;
    counted = ready.ready.counted;
  };
  attached = ready.attached;
  named = ready.named;
  chunks = ready.chunks;
}
ready_answered line heap _ me mid ready = ready

same_answered : (line heap : ℕ) (answer : Answer) (party : Party) (mid : ParticipantView) → IsSameParty party mid.party
    → IsSameParty party (after_answer line heap answer mid).party
same_answered line heap (gives.Address address) party mid same = same
same_answered line heap _ party mid same = same

mapped_answered : (line heap : ℕ) (answer given : Answer) (mid : ParticipantView) → IsMapped mid.party given
    → IsMapped (after_answer line heap answer mid).party given
mapped_answered line heap (gives.Address address) given mid mapped = mapped
mapped_answered line heap _ given mid mapped = mapped

-- it is ready again after the request
called_from : (doer start mid : ParticipantView) {a : HallState} → start ≡ doer → HasCalled start.party.me start mid a
    → HasCalled doer.party.me doer mid a
called_from doer start mid {a} same called = subst (λ (doer : ParticipantView). HasCalled doer.party.me doer mid a) same called

again_from : (doer start mid : ParticipantView) {a : HallState} → start ≡ doer → IsReadyAgain start.party.me start mid a
    → IsReadyAgain doer.party.me doer mid a
again_from doer start mid {a} same again = subst (λ (doer : ParticipantView). IsReadyAgain doer.party.me doer mid a) same again

start_ready : (doer start : ParticipantView) {a : HallState} → start ≡ doer → IsReadyIn doer.party.me doer a → IsReadyIn start.party.me start a
start_ready doer start {a} same ready = subst (λ (doer : ParticipantView). IsReadyIn doer.party.me doer a) (sym same) ready

-- the heaps are chosen by one that is ready
pub heaps_to_try-requires : goal.heaps_to_try-requires
heaps_to_try-requires g c = record { ready = start_ready c.args.self.now c.reserve_element.new.self c.reserve_element.ensures c.requires.ready }

pub serve_request-requires-clause-places : goal.serve_request-requires-clause-places
serve_request-requires-clause-places g c = λ place among.
    chosen_of c.reserve_element.new.self.party.me c.reserve_element.new.self c.heaps_to_try.new.self c.args.options.now (place_list c.in_ok-places.places)
    (c.heaps_to_try.new.hall ≡ c.args.hall.now) (g.H.Hall.state c.args.hall.now) (g.H.Hall.state c.heaps_to_try.new.hall) c.args.options.now.heap c.in_ok-places.ensures.does place
    (subst (λ (places : List SearchedHeap). Contains places place) c.as_slice.ensures.value among)

pub serve_request-requires-clause-apart : goal.serve_request-requires-clause-apart
serve_request-requires-clause-apart g c =
    subst (λ (places : List SearchedHeap). AreOnce (map (λ (place : SearchedHeap). place.index) places)) (sym c.as_slice.ensures.value)
    (chosen_once c.reserve_element.new.self.party.me c.reserve_element.new.self c.heaps_to_try.new.self c.args.options.now (place_list c.in_ok-places.places)
    (c.heaps_to_try.new.hall ≡ c.args.hall.now) (g.H.Hall.state c.args.hall.now) (g.H.Hall.state c.heaps_to_try.new.hall) c.args.options.now.heap c.in_ok-places.ensures.does)

-- who chose its heaps is ready for them
mid_ready : {me : ℕ} {start mid : ParticipantView} {a : HallState} → HasCalled me start mid a → mid.party.me ≡ me → IsReadyIn mid.party.me mid a
mid_ready {me} {start} {mid} {a} called mine = subst (λ (who : ℕ). IsReadyIn who mid a) (sym mine) called.again.ready

pub serve_request-requires-clause-ready : goal.serve_request-requires-clause-ready
serve_request-requires-clause-ready g c =
    but_home (mid_ready c.heaps_to_try.ensures.ready c.heaps_to_try.ensures.ready.again.same.me)

pub serve_request-requires-clause-beside : goal.serve_request-requires-clause-beside
serve_request-requires-clause-beside g c = inl (c.heaps_to_try.ensures.ready.again.ready.idle.free NAMES_SLOT)

pub serve_request-requires-clause-named : goal.serve_request-requires-clause-named
serve_request-requires-clause-named g c = λ zone. absurd cc

-- its line is the next one still
next_still : (doer start mid after : ParticipantView) (line : Line) → start ≡ doer → mid.context ≡ with_calls mid.context.calls start.context
    → after.context ≡ with_calls after.context.calls mid.context → IsNextLine doer.context line → IsNextLine after.context line
next_still doer start mid after line same chosen called next =
    subst (λ (context : Context). IsNextLine context line) (sym called)
    (subst (λ (context : Context). IsNextLine context line) (sym chosen)
    (subst (λ (doer : ParticipantView). IsNextLine doer.context line) (sym same) next))

pub note_answer-requires-clause-next : goal.note_answer-requires-clause-next
note_answer-requires-clause-next g c =
    let chosen = c.heaps_to_try.ensures.ready in
    next_still c.args.self.now c.reserve_element.new.self c.heaps_to_try.new.self c.serve_request.new.self c.args.line.now c.reserve_element.ensures
    chosen.context (called_home (mid_ready chosen chosen.again.same.me) c.serve_request.ensures.ready).context c.requires.next

-- IT GOES ON

pub returns-in_err-answer-clause-goes_on : goal.returns-in_err-answer-clause-goes_on
returns-in_err-answer-clause-goes_on g c = g.met.H.Hall.goes_on_then _ _ _ c.heaps_to_try.ensures.goes_on c.serve_request.ensures.goes_on

pub returns-in_err-note_answer-clause-goes_on : goal.returns-in_err-note_answer-clause-goes_on
returns-in_err-note_answer-clause-goes_on g c = g.met.H.Hall.goes_on_then _ _ _ c.heaps_to_try.ensures.goes_on c.serve_request.ensures.goes_on

pub returns-clause-goes_on : goal.returns-clause-goes_on
returns-clause-goes_on g c = g.met.H.Hall.goes_on_then _ _ _ c.heaps_to_try.ensures.goes_on c.serve_request.ensures.goes_on

-- READY AGAIN

pub returns-in_err-reserve_element-clause-ready : goal.returns-in_err-reserve_element-clause-ready
returns-in_err-reserve_element-clause-ready g c =
    let doer = c.args.self.now in
    subst (λ (after : ParticipantView). IsReadyAgain doer.party.me doer after (g.H.Hall.state c.args.hall.now))
    (sym c.reserve_element.ensures) (again_line doer c.requires.ready)

pub returns-in_err-places-clause-ready : goal.returns-in_err-places-clause-ready
returns-in_err-places-clause-ready g c =
    again_from c.args.self.now c.reserve_element.new.self c.heaps_to_try.new.self c.reserve_element.ensures c.heaps_to_try.ensures.ready.again

-- once the request was served, or not
called_again : (doer start mid after : ParticipantView) {a b : HallState} → start ≡ doer → HasCalled start.party.me start mid a
    → HasCalled mid.party.me mid after b → HasCalled doer.party.me doer after b
called_again doer start mid after same chosen called = called_from doer start after same (again_then start mid after chosen called)

pub returns-in_err-answer-clause-ready : goal.returns-in_err-answer-clause-ready
returns-in_err-answer-clause-ready g c =
    let chosen = c.heaps_to_try.ensures.ready in
    (called_again c.args.self.now c.reserve_element.new.self c.heaps_to_try.new.self c.serve_request.new.self c.reserve_element.ensures chosen
    (called_home (mid_ready chosen chosen.again.same.me) c.serve_request.ensures.ready)).again

pub returns-in_err-note_answer-clause-ready : goal.returns-in_err-note_answer-clause-ready
returns-in_err-note_answer-clause-ready g c =
    let doer = c.args.self.now in
    let chosen = c.heaps_to_try.ensures.ready in
    let called = called_again doer c.reserve_element.new.self c.heaps_to_try.new.self c.serve_request.new.self c.reserve_element.ensures chosen
    (called_home (mid_ready chosen chosen.again.same.me) c.serve_request.ensures.ready) in
    subst (λ (after : ParticipantView). IsReadyAgain doer.party.me doer after (g.H.Hall.state c.serve_request.new.hall))
    (sym c.in_err-note_answer.ensures.err) called.again

pub returns-clause-ready : goal.returns-clause-ready
returns-clause-ready g c =
    let doer = c.args.self.now in
    let mid = c.serve_request.new.self in
    let line = c.args.line.now.line in
    let chosen = c.heaps_to_try.ensures.ready in
    let called = called_again doer c.reserve_element.new.self c.heaps_to_try.new.self mid c.reserve_element.ensures chosen
    (called_home (mid_ready chosen chosen.again.same.me) c.serve_request.ensures.ready) in
    subst (λ (after : ParticipantView). IsReadyAgain doer.party.me doer after (g.H.Hall.state c.serve_request.new.hall))
    (sym c.in_ok-note_answer.ensures.noted)
    (record {
      same = same_answered line c.in_ok-answer.heap c.in_ok-answer.answer doer.party mid called.again.same;
      ready = ready_answered line c.in_ok-answer.heap c.in_ok-answer.answer doer.party.me mid called.again.ready;
    })

-- WHAT IT DID

pub returns-clause-does : goal.returns-clause-does
returns-clause-does g c =
    let doer = c.args.self.now in
    let start = c.reserve_element.new.self in
    let mid = c.heaps_to_try.new.self in
    let after = c.serve_request.new.self in
    let first = g.H.Hall.state c.args.hall.now in
    let third = g.H.Hall.state c.serve_request.new.hall in
    let line = c.args.line.now in
    let options = c.args.options.now in
    let request = c.args.request.now in
    let asks = c.requires.asks in
    let answer = c.in_ok-answer.answer in
    let heap = c.in_ok-answer.heap in
    let same = c.reserve_element.ensures in
    let me = start.party.me in
    let chosen = c.heaps_to_try.ensures.ready in
    let called = called_home (mid_ready chosen chosen.again.same.me) c.serve_request.ensures.ready in
    let attached = subst (λ (doer : ParticipantView). doer.context.standing.attached ≡ true) (sym same) c.requires.attached in
    let its = served (λ hall. g.H.Hall.state hall) c.args.hall.now c.heaps_to_try.new.hall third me mid.party.me start mid after line options request
    (place_list c.in_ok-places.places) chosen.again.same.me ((g.met.H.Hall.goes_on_later _ _ c.heaps_to_try.ensures.goes_on).count) options.heap heap
    answer c.in_ok-places.ensures.does (λ heaps are. c.in_ok-answer.ensures.does heaps (are ∙ sym c.as_slice.ensures.value)) in
    subst (λ (doer : ParticipantView). DoesLineHere doer.party.me doer c.note_answer.new.self first third line answer) same
    (line_answered line asks.label asks.size options asks.its_act (moment me start first) attached refl first.count (did_in me first third) request
    asks.accepted asks.is options.heap refl heap answer after (third.part me) (third.seen me) (third.heard me) its
    (ap (λ (context : Context). context.standing) called.context ∙ ap (λ (context : Context). context.standing) chosen.context)
    c.note_answer.new.self c.in_ok-note_answer.ensures.noted)

-- who is attached is in the roster, and so the row is one of its own table
pub returns-clause-lies : goal.returns-clause-lies
returns-clause-lies g c =
    let doer = c.args.self.now in
    let mid = c.serve_request.new.self in
    let hall = g.H.Hall.state c.serve_request.new.hall in
    let answer = c.in_ok-answer.answer in
    let chosen = c.heaps_to_try.ensures.ready in
    let called = called_again doer c.reserve_element.new.self c.heaps_to_try.new.self mid c.reserve_element.ensures chosen
    (called_home (mid_ready chosen chosen.again.same.me) c.serve_request.ensures.ready) in
    let ready = called.again.ready in
    let known : IsKnownMapped doer.party.me hall answer =
    subst (λ (doer : ParticipantView). IsKnownMapped doer.party.me hall answer) c.reserve_element.ensures
    (subst (λ (who : ℕ). IsKnownMapped who hall answer) chosen.again.same.me c.in_ok-answer.ensures.lies) in
    let joined = ready.attached ∙ (ap (λ (context : Context). context.standing.attached) called.context ∙ c.requires.attached) in
    subst (λ (after : ParticipantView). IsMapped after.party answer) (sym c.in_ok-note_answer.ensures.noted)
    (mapped_answered c.args.line.now.line c.in_ok-answer.heap answer answer mid
    (lies_in_table doer.party.me mid.party hall answer ready.idle.tied joined known))

-- BY HOW MUCH IT CARRIES THE CLOCK

-- no time goes by while it chooses its heaps
module _ {T : Type 0} (pending : ℕ → ℕ → ℕ) (IsStopped : T → Type 0) (doer start mid : ParticipantView) (places given : List SearchedHeap)
    (same : start ≡ doer) (alike : mid.party.deadline ≡ start.party.deadline) (value : given ≡ places) (few : length places ≤ MAX_HEAPS)
    (old between new : ℕ) (first : RisesWithin pending IsStopped 0 old between)
    (rest : RisesWithin pending IsStopped (length given * longest_growth mid.party.deadline) between new) where
  all_within : RisesWithin pending IsStopped (MAX_HEAPS * longest_growth doer.party.deadline) between new
  all_within =
      rises_within pending IsStopped (length places) MAX_HEAPS (longest_growth doer.party.deadline) between new few
      (subst (λ (deadline : ℕ). RisesWithin pending IsStopped (length places * longest_growth deadline) between new)
      (alike ∙ ap (λ (doer : ParticipantView). doer.party.deadline) same)
      (subst (λ (given : List SearchedHeap). RisesWithin pending IsStopped (length given * longest_growth mid.party.deadline) between new) value rest))

  serves_within : RisesWithin pending IsStopped (MAX_HEAPS * longest_growth doer.party.deadline) old new
  serves_within one = omega (arith, first one, all_within one)

pub returns-in_err-places-clause-clock : goal.returns-in_err-places-clause-clock
returns-in_err-places-clause-clock g c = λ one. omega (arith, c.heaps_to_try.ensures.clock one)

pub returns-in_err-answer-clause-clock : goal.returns-in_err-answer-clause-clock
returns-in_err-answer-clause-clock g c =
    serves_within g.H.Hall.pending (λ hall. IsBusy (g.H.Hall.state hall)) c.args.self.now c.reserve_element.new.self c.heaps_to_try.new.self
    (place_list c.in_ok-places.places) c.as_slice.result.now c.reserve_element.ensures c.heaps_to_try.ensures.ready.again.same.deadline
    c.as_slice.ensures.value (chosen_few c.reserve_element.new.self.party.me c.reserve_element.new.self c.heaps_to_try.new.self c.args.options.now (place_list c.in_ok-places.places)
    (c.heaps_to_try.new.hall ≡ c.args.hall.now) (g.H.Hall.state c.args.hall.now) (g.H.Hall.state c.heaps_to_try.new.hall) c.args.options.now.heap c.in_ok-places.ensures.does) (g.H.Hall.state c.args.hall.now).clock
    (g.H.Hall.state c.heaps_to_try.new.hall).clock (g.H.Hall.state c.serve_request.new.hall).clock c.heaps_to_try.ensures.clock
    c.serve_request.ensures.clock

pub returns-in_err-note_answer-clause-clock : goal.returns-in_err-note_answer-clause-clock
returns-in_err-note_answer-clause-clock g c =
    serves_within g.H.Hall.pending (λ hall. IsBusy (g.H.Hall.state hall)) c.args.self.now c.reserve_element.new.self c.heaps_to_try.new.self
    (place_list c.in_ok-places.places) c.as_slice.result.now c.reserve_element.ensures c.heaps_to_try.ensures.ready.again.same.deadline
    c.as_slice.ensures.value (chosen_few c.reserve_element.new.self.party.me c.reserve_element.new.self c.heaps_to_try.new.self c.args.options.now (place_list c.in_ok-places.places)
    (c.heaps_to_try.new.hall ≡ c.args.hall.now) (g.H.Hall.state c.args.hall.now) (g.H.Hall.state c.heaps_to_try.new.hall) c.args.options.now.heap c.in_ok-places.ensures.does) (g.H.Hall.state c.args.hall.now).clock
    (g.H.Hall.state c.heaps_to_try.new.hall).clock (g.H.Hall.state c.serve_request.new.hall).clock c.heaps_to_try.ensures.clock
    c.serve_request.ensures.clock

pub returns-clause-clock : goal.returns-clause-clock
returns-clause-clock g c =
    serves_within g.H.Hall.pending (λ hall. IsBusy (g.H.Hall.state hall)) c.args.self.now c.reserve_element.new.self c.heaps_to_try.new.self
    (place_list c.in_ok-places.places) c.as_slice.result.now c.reserve_element.ensures c.heaps_to_try.ensures.ready.again.same.deadline
    c.as_slice.ensures.value (chosen_few c.reserve_element.new.self.party.me c.reserve_element.new.self c.heaps_to_try.new.self c.args.options.now (place_list c.in_ok-places.places)
    (c.heaps_to_try.new.hall ≡ c.args.hall.now) (g.H.Hall.state c.args.hall.now) (g.H.Hall.state c.heaps_to_try.new.hall) c.args.options.now.heap c.in_ok-places.ensures.does) (g.H.Hall.state c.args.hall.now).clock
    (g.H.Hall.state c.heaps_to_try.new.hall).clock (g.H.Hall.state c.serve_request.new.hall).clock c.heaps_to_try.ensures.clock
    c.serve_request.ensures.clock

-- A LINE THAT ENDS HERE

module _ (doer start after : ParticipantView) (first last : HallState) (line : Line) (options : Options) (request : Request)
    (asks : IsAllocation line options request) (attached : doer.context.standing.attached ≡ true) (same : start ≡ doer) where
  -- it stopped, and had done that of the line
  stops_so : (heaps : List ℕ) → AreOnce heaps
      → HaltsHere heaps start.party.me start after first last (alloc_by start.party.socket start.context.pools line options request options.heap)
      → HaltsLineHere doer.party.me doer after first last line
  stops_so heaps once halts =
      subst (λ (doer : ParticipantView). HaltsLineHere doer.party.me doer after first last line) same
      (line_halts line asks.label asks.size options asks.its_act (moment start.party.me start first)
      (subst (λ (doer : ParticipantView). doer.context.standing.attached ≡ true) (sym same) attached) refl first.count
      (did_in start.party.me first last) request asks.accepted asks.is options.heap refl heaps once (moment start.party.me after last) halts)

pub returns-in_err-reserve_element-clause-halts : goal.returns-in_err-reserve_element-clause-halts
returns-in_err-reserve_element-clause-halts g c =
    let start = c.reserve_element.new.self in
    let hall = g.H.Hall.state c.args.hall.now in
    on_err_any _ _
    (stops_so c.args.self.now start start hall hall c.args.line.now c.args.options.now c.args.request.now c.requires.asks c.requires.attached
    c.reserve_element.ensures [] once_none
    (halts_same [] hall.count (did_in start.party.me hall hall) _ (moment start.party.me start hall) (did_same start.party.me hall)))

pub returns-in_err-places-clause-halts : goal.returns-in_err-places-clause-halts
returns-in_err-places-clause-halts g c =
    on_err_any _ _
    (stops_so c.args.self.now c.reserve_element.new.self c.heaps_to_try.new.self (g.H.Hall.state c.args.hall.now)
    (g.H.Hall.state c.heaps_to_try.new.hall) c.args.line.now c.args.options.now c.args.request.now c.requires.asks c.requires.attached
    c.reserve_element.ensures [] once_none
    (stopped_choosing c.reserve_element.new.self.party.me c.reserve_element.new.self c.heaps_to_try.new.self (g.H.Hall.state c.args.hall.now)
    (g.H.Hall.state c.heaps_to_try.new.hall) c.args.line.now c.args.options.now c.args.request.now c.args.options.now.heap c.in_err-places.ensures.halts))

-- the request was not served
pub returns-in_err-answer-clause-halts : goal.returns-in_err-answer-clause-halts
returns-in_err-answer-clause-halts g c =
    let start = c.reserve_element.new.self in
    let mid = c.heaps_to_try.new.self in
    let after = c.serve_request.new.self in
    let third = g.H.Hall.state c.serve_request.new.hall in
    let line = c.args.line.now in
    let options = c.args.options.now in
    let request = c.args.request.now in
    let places = place_list c.in_ok-places.places in
    let chosen = c.heaps_to_try.ensures.ready in
    on_err_any _ _
    (stops_so c.args.self.now start after (g.H.Hall.state c.args.hall.now) third line options request c.requires.asks c.requires.attached
    c.reserve_element.ensures (map (λ (place : SearchedHeap). place.index) places) (chosen_once c.reserve_element.new.self.party.me c.reserve_element.new.self c.heaps_to_try.new.self c.args.options.now (place_list c.in_ok-places.places)
    (c.heaps_to_try.new.hall ≡ c.args.hall.now) (g.H.Hall.state c.args.hall.now) (g.H.Hall.state c.heaps_to_try.new.hall) c.args.options.now.heap c.in_ok-places.ensures.does)
    (served_halts (λ hall. g.H.Hall.state hall) c.args.hall.now c.heaps_to_try.new.hall third start.party.me mid.party.me start mid after line options
    request places chosen.again.same.me ((g.met.H.Hall.goes_on_later _ _ c.heaps_to_try.ensures.goes_on).count) options.heap
    c.in_ok-places.ensures.does
    (λ heaps are.
    subst (λ (given : List SearchedHeap). HaltsHere (map (λ (place : SearchedHeap). place.index) given) mid.party.me mid after
    (g.H.Hall.state c.heaps_to_try.new.hall) third (serving mid.context.pools request (tag_of line) heaps)) c.as_slice.ensures.value
    (c.in_err-answer.ensures.halts heaps (are ∙ sym c.as_slice.ensures.value)))))

-- it was, and there was no memory to note its element
pub returns-in_err-note_answer-clause-halts : goal.returns-in_err-note_answer-clause-halts
returns-in_err-note_answer-clause-halts g c =
    let start = c.reserve_element.new.self in
    let mid = c.heaps_to_try.new.self in
    let after = c.serve_request.new.self in
    let first = g.H.Hall.state c.args.hall.now in
    let third = g.H.Hall.state c.serve_request.new.hall in
    let line = c.args.line.now in
    let options = c.args.options.now in
    let request = c.args.request.now in
    let me = start.party.me in
    let chosen = c.heaps_to_try.ensures.ready in
    let its = served (λ hall. g.H.Hall.state hall) c.args.hall.now c.heaps_to_try.new.hall third me mid.party.me start mid after line options request
    (place_list c.in_ok-places.places) chosen.again.same.me ((g.met.H.Hall.goes_on_later _ _ c.heaps_to_try.ensures.goes_on).count) options.heap
    c.in_ok-answer.heap c.in_ok-answer.answer c.in_ok-places.ensures.does
    (λ heaps are. c.in_ok-answer.ensures.does heaps (are ∙ sym c.as_slice.ensures.value)) in
    on_err_any _ _
    (subst (λ (after : ParticipantView). HaltsLineHere c.args.self.now.party.me c.args.self.now after first third line)
    (sym c.in_err-note_answer.ensures.err)
    (stops_so c.args.self.now start after first third line options request c.requires.asks c.requires.attached c.reserve_element.ensures
    its.brings.held its.brings.once
    (halts_of first.count (did_in me first third) _ _ (moment me start first) (moment me after third) its.brings.does)))
