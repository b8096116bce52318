-- It is armed, sends, and awaits its answer, each of which leaves what it holds of the heaps but what the answer brings.
use Rattle.std.proofs.Common.{◌≡◌, refl, arith, ◌∙◌, ◌<◌, ◌≤◌, ◌⊎◌, ℕ, [], ◌∷◌, Some, ap, sym, subst}
use Rattle.hp_base.specs.declared.limits.TheConstants.{MAX_PARTICIPANTS}
use Rattle.hp_hall.specs.Holding.{HeapPart}
use Rattle.hp_segs.specs.LaterSteps.{after_arm}
use Rattle.hp_segs.specs.declared.ask.Ask.{Ask}
use Rattle.hp_serve.specs.Asking.{GrowsHeld, HasSettledAsks, IsAwaiting, IsHeldAsBefore, Settles, ask_of, next_number}
use Rattle.hp_serve.specs.AskSteps.{AsksNothing, IsArmedAsBefore, IsAwaitedOn, waits_until}
use Rattle.hp_serve.specs.Serving.{gives_segments, takes_segments}
use Rattle.hp_serve.proofs.AskingFacts.AskDone.{does_ask}
use Rattle.hp_serve.proofs.AskingFacts.AskedAlong.{awaits_along, grows_from, held_same, held_then, is_asked, on_err_any, settled_by}
use Rattle.hp_serve.proofs.Rising.{wait_rises}
use Rattle.hp_hall.specs.HallState.{Did, HasMapped, IsBusy}
use Rattle.hp_hall.proofs.HallStates.{did_then, later_then, may_still, slots_then}
use Rattle.hp_serve.specs.InHall.{CanServe, RemainsIn}
use Rattle.hp_serve.specs.Party.{IsSameParty, Party}
use Rattle.hp_serve.specs.SegmentSlot.{MayHold, StaysButParts}
use Rattle.hp_serve.proofs.InHalls.{parts_marks, remains_then, tied_later}
use Rattle.hp_serve.proofs.SegmentSlots.{may_hold, remains_parts}
use Rattle.hp_serve.proofs.server.Server.ask.Goals as goal

pub arm-requires-clause-may : goal.arm-requires-clause-may
arm-requires-clause-may g c =
    subst (λ (who : ℕ). MayHold who (g.H.Hall.state c.args.hall.now)) (sym (ap (λ (party : Party). party.me) c.self.view_is))
    (may_hold c.requires.can.may)

pub send-since-requires-clause-serves : goal.send-since-requires-clause-serves
send-since-requires-clause-serves g c = c.arm.ensures.stays.others.later.serves c.args.self.now.me c.requires.can.may.serves

pub send-since-requires-clause-me : goal.send-since-requires-clause-me
send-since-requires-clause-me g c =
    let declared = c.requires.can.may.declared in
    let count = c.arm.ensures.stays.others.later.count in
    omega (arith, declared, count)

pub send-since-requires-clause-tied : goal.send-since-requires-clause-tied
send-since-requires-clause-tied g c =
    let mine = ap (λ (party : Party). party.me) c.self.view_is in
    let armed_so : StaysButParts c.args.self.now.me (g.H.Hall.state c.args.hall.now) (g.H.Hall.state c.arm.new.hall) =
    subst (λ (who : ℕ). StaysButParts who (g.H.Hall.state c.args.hall.now) (g.H.Hall.state c.arm.new.hall)) mine c.arm.ensures.stays in
    tied_later c.args.self.now.me c.args.self.now armed_so.others.later armed_so.joined armed_so.own armed_so.marked c.requires.can.tied

pub await_answer-answered-requires-clause-can : goal.await_answer-answered-requires-clause-can
await_answer-answered-requires-clause-can g c =
    let mine = ap (λ (party : Party). party.me) c.self.view_is in
    let armed_so : StaysButParts c.args.self.now.me (g.H.Hall.state c.args.hall.now) (g.H.Hall.state c.arm.new.hall) =
    subst (λ (who : ℕ). StaysButParts who (g.H.Hall.state c.args.hall.now) (g.H.Hall.state c.arm.new.hall)) mine c.arm.ensures.stays in
    let sent = c.send-since.ensures.stays in
    subst (λ (who : ℕ). CanServe who c.send-since.new.self (g.H.Hall.state c.send-since.new.hall))
    (sym (ap (λ (party : Party). party.me) c.send-since.ensures.sent))
    (record {
      may = may_still (slots_then armed_so.slots sent.slots) (later_then armed_so.others.later sent.others.later) c.requires.can.may;
      tied = c.send-since.ensures.tied;
    })

pub await_answer-answered-requires-clause-awaits : goal.await_answer-answered-requires-clause-awaits
await_answer-answered-requires-clause-awaits g c =
    let me = c.args.self.now.me in
    let ask = c.in_ok-ask.ask in
    let mid = g.H.Hall.state c.arm.new.hall in
    let late = g.H.Hall.state c.send-since.new.hall in
    let mine = ap (λ (party : Party). party.me) c.self.view_is in
    subst (λ who. IsAwaiting ask (late.part who)) (sym (ap (λ (party : Party). party.me) c.send-since.ensures.sent))
    (awaits_along ask (mid.part me) (late.part me) c.send-since.ensures.stays.mine.parts.part
    (subst (λ who. IsAwaiting ask (mid.part who)) mine c.in_ok-ask.ensures.awaits))

pub returns-in_err-ask-clause-clock : goal.returns-in_err-ask-clause-clock
returns-in_err-ask-clause-clock g c =
    let still = c.arm.ensures.stays.others.clock in
    λ one. omega (arith, still)

pub returns-in_err-ask-clause-remains : goal.returns-in_err-ask-clause-remains
returns-in_err-ask-clause-remains g c =
    let mine = ap (λ (party : Party). party.me) c.self.view_is in
    let armed_so : StaysButParts c.args.self.now.me (g.H.Hall.state c.args.hall.now) (g.H.Hall.state c.arm.new.hall) =
    subst (λ (who : ℕ). StaysButParts who (g.H.Hall.state c.args.hall.now) (g.H.Hall.state c.arm.new.hall)) mine c.arm.ensures.stays in
    remains_parts c.args.self.now.me c.args.self.now armed_so c.requires.can.tied

pub returns-clause-remains : goal.returns-clause-remains
returns-clause-remains g c =
    let mine = ap (λ (party : Party). party.me) c.self.view_is in
    let armed_so : StaysButParts c.args.self.now.me (g.H.Hall.state c.args.hall.now) (g.H.Hall.state c.arm.new.hall) =
    subst (λ (who : ℕ). StaysButParts who (g.H.Hall.state c.args.hall.now) (g.H.Hall.state c.arm.new.hall)) mine c.arm.ensures.stays in
    let party = c.args.self.now in
    let me = party.me in
    let sent = c.send-since.ensures.stays in
    let sending : RemainsIn me party c.send-since.new.self (g.H.Hall.state c.arm.new.hall) (g.H.Hall.state c.send-since.new.hall) = record {
      same = subst (IsSameParty party) (sym c.send-since.ensures.sent) (record { me = refl; socket = refl; plan = refl; deadline = refl });
      tied = c.send-since.ensures.tied;
      slots = sent.slots;
      marked = parts_marks sent.mine.parts;
      joined = sent.mine.parts.joined;
      lines = sent.mine.parts.lines;
      later = sent.others.later;
    } in
    remains_then (remains_then (remains_parts me party armed_so c.requires.can.tied) sending)
    (subst (λ (who : ℕ). RemainsIn who c.send-since.new.self c.await_answer-answered.new.self (g.H.Hall.state c.send-since.new.hall)
    (g.H.Hall.state c.await_answer-answered.new.hall)) (ap (λ (party : Party). party.me) c.send-since.ensures.sent) c.await_answer-answered.ensures.remains)

pub returns-clause-goes_on : goal.returns-clause-goes_on
returns-clause-goes_on g c =
    g.met.H.Hall.goes_on_then _ _ _ c.arm.ensures.goes_on
    (g.met.H.Hall.goes_on_then _ _ _ c.send-since.ensures.goes_on c.await_answer-answered.ensures.goes_on)

pub arm-requires-clause-settled : goal.arm-requires-clause-settled
arm-requires-clause-settled g c =
    subst (λ (party : Party). HasSettledAsks ((g.H.Hall.state c.args.hall.now).part party.me) ((g.H.Hall.state c.args.hall.now).heard party.me))
    (sym c.self.view_is) c.requires.settled

pub await_answer-answered-requires-clause-few : goal.await_answer-answered-requires-clause-few
await_answer-answered-requires-clause-few g c =
    subst (λ from. from < MAX_PARTICIPANTS) (sym (ap (λ (ask : Ask). ask.from) c.in_ok-ask.ensures.asked.is)) c.self.invariant.declared

pub returns-clause-clock : goal.returns-clause-clock
returns-clause-clock g c =
    let mid = (g.H.Hall.state c.send-since.new.hall).clock in
    let new = (g.H.Hall.state c.await_answer-answered.new.hall).clock in
    let since = c.send-since.result in
    wait_rises g.H.Hall.pending (λ hall. IsBusy (g.H.Hall.state hall)) since c.args.self.now.deadline (g.H.Hall.state c.args.hall.now).clock mid new
    (c.send-since.ensures.stays.others.clock ∙ c.arm.ensures.stays.others.clock) c.send-since.ensures.read
    (subst (λ (deadline : ℕ). (new ≡ mid) ⊎ (new ≤ waits_until since deadline))
    (ap (λ (party : Party). party.deadline) c.send-since.ensures.sent) c.await_answer-answered.ensures.clock)

-- what the participant holds stays until it awaits its answer
pub returns-clause-others : goal.returns-clause-others
returns-clause-others g c = λ heap apart.
    let me = c.args.self.now.me in
    let ask = c.in_ok-ask.ask in
    let mid = (g.H.Hall.state c.send-since.new.hall).part in
    let new = g.H.Hall.state c.await_answer-answered.new.hall in
    let who = ap (λ (party : Party). party.me) c.send-since.ensures.sent in
    let mine = ap (λ (party : Party). party.me) c.self.view_is in
    let its_heap = ap (λ (ask : Ask). ask.heap) c.in_ok-ask.ensures.asked.is in
    let held =
    subst (λ who. IsHeldAsBefore ((g.H.Hall.state c.args.hall.now).part who heap) ((g.H.Hall.state c.arm.new.hall).part who heap)) mine
    (c.arm.ensures.held heap) in
    let sent = held_then _ _ _ held (held_same _ _ (c.send-since.ensures.stays.mine.parts.part heap)) in
    let settles =
    subst (λ who. Settles (new.seen who) (new.heard who) ask (mid who) (new.part who) c.await_answer-answered.result.run) who
    c.await_answer-answered.ensures.settles in
    held_then _ _ _ sent (held_same _ _ (settles.others heap (λ same. apart (same ∙ its_heap))))

pub returns-clause-settled : goal.returns-clause-settled
returns-clause-settled g c =
    let me = c.args.self.now.me in
    let ask = c.in_ok-ask.ask in
    let mid = (g.H.Hall.state c.send-since.new.hall).part in
    let new = g.H.Hall.state c.await_answer-answered.new.hall in
    let run = c.await_answer-answered.result.run in
    let who = ap (λ (party : Party). party.me) c.send-since.ensures.sent in
    let mine = ap (λ (party : Party). party.me) c.self.view_is in
    let armed : (heap : ℕ) → (mid me heap).armed ≡ Some ask =
    λ heap.
    ap (λ (part : HeapPart). part.armed) (c.send-since.ensures.stays.mine.parts.part heap)
    ∙ subst (λ (who : ℕ). ((g.H.Hall.state c.arm.new.hall).part who heap).armed ≡ Some ask) mine (c.in_ok-ask.ensures.awaits.armed.armed heap) in
    settled_by (new.seen me) (new.heard me) ask (mid me) (new.part me) run armed
    (subst (λ who. Settles (new.seen who) (new.heard who) ask (mid who) (new.part who) run) who c.await_answer-answered.ensures.settles)

pub returns-clause-mapped : goal.returns-clause-mapped
returns-clause-mapped g c =
    subst (λ (who : ℕ). HasMapped who (g.H.Hall.state c.await_answer-answered.new.hall))
    (ap (λ (party : Party). party.me) c.send-since.ensures.sent) c.await_answer-answered.ensures.mapped

pub returns-clause-asks : goal.returns-clause-asks
returns-clause-asks g c =
    let party = c.args.self.now in
    let me = party.me in
    let ask = c.in_ok-ask.ask in
    let asked = c.args.asked.now in
    let old = g.H.Hall.state c.args.hall.now in
    let mid = g.H.Hall.state c.send-since.new.hall in
    let new = g.H.Hall.state c.await_answer-answered.new.hall in
    let after = c.await_answer-answered.new.self in
    let run = c.await_answer-answered.result.run in
    let stopped = c.await_answer-answered.result.stopped in
    let sent = c.send-since.ensures.did in
    let armed = c.in_ok-ask.ensures.did in
    let awaited = c.await_answer-answered.ensures.did in
    let who = ap (λ (party : Party). party.me) c.send-since.ensures.sent in
    let mine = ap (λ (party : Party). party.me) c.self.view_is in
    let its_number = c.await_answer-answered.ensures.asked ∙ ap (λ (party : Party). party.asked) c.send-since.ensures.sent in
    let count =
    (g.met.H.Hall.goes_on_later _ _ (g.met.H.Hall.goes_on_then _ _ _ c.arm.ensures.goes_on c.send-since.ensures.goes_on)).count in
    let grown =
    (g.met.H.Hall.goes_on_later _ _ (g.met.H.Hall.goes_on_then _ _ _ c.send-since.ensures.goes_on c.await_answer-answered.ensures.goes_on)).heard me in
    let ask_is = subst (λ (party : Party). ask ≡ ask_of party.me ask.number asked) c.self.view_is c.in_ok-ask.ensures.asked.is in
    let its_heap = ap (λ (ask : Ask). ask.heap) c.in_ok-ask.ensures.asked.is in
    let number =
    subst (λ (party : Party). ask.number ≡ next_number party.asked ((g.H.Hall.state c.arm.new.hall).heard party.me) party.me) c.self.view_is
    c.in_ok-ask.ensures.asked.number in
    let held : (heap : ℕ) → IsHeldAsBefore (old.part me heap) (mid.part me heap) = λ heap.
    held_then _ _ _
    (subst (λ (who : ℕ). IsHeldAsBefore (old.part who heap) ((g.H.Hall.state c.arm.new.hall).part who heap)) mine (c.arm.ensures.held heap))
    (held_same _ _ (c.send-since.ensures.stays.mine.parts.part heap)) in
    let settles =
    subst (λ who. Settles (new.seen who) (new.heard who) ask (mid.part who) (new.part who) run) who c.await_answer-answered.ensures.settles in
    record {
      did = (
        _,
        did_then
            (did_then
            (subst (λ who. Did who (takes_segments armed.0 ∷ gives_segments (after_arm ask armed.0) ∷ []) old (g.H.Hall.state c.arm.new.hall)) mine
            armed.2)
            sent.5)
            (subst (λ who. Did who awaited.0 mid new) who awaited.1),
        does_ask old.count party c.send-since.new.self after asked ask c.send-since.result sent.0 armed.0 sent.1 sent.2 awaited.0 run stopped
            ask_is (subst (λ (party : Party). ask.number ≡ next_number party.asked armed.0.asks party.me) c.self.view_is armed.1)
            sent.3 its_number c.send-since.ensures.sent sent.4
            (subst (λ count. IsAwaitedOn (g.J.Judge.denies c.args.judge.now) count c.send-since.new.self after ask c.send-since.result
            awaited.0 run stopped) count awaited.2),
      );
      answer = is_asked (new.seen me) (new.heard me) ((g.H.Hall.state c.arm.new.hall).heard me) grown.0 me party.asked after.asked asked ask
          (mid.part me) (new.part me) run ask_is its_number number grown.1 settles;
      grows = subst (λ (heap : ℕ). GrowsHeld heap run (old.part me heap) (new.part me heap)) its_heap
          (grows_from (new.seen me) (new.heard me) ask (old.part me) (mid.part me) (new.part me) run held settles);
    }

-- WITHOUT MEMORY TO BE ARMED

pub returns-in_err-ask-clause-settled : goal.returns-in_err-ask-clause-settled
returns-in_err-ask-clause-settled g c =
    let new = g.H.Hall.state c.arm.new.hall in
    subst (λ (who : ℕ). HasSettledAsks (new.part who) (new.heard who)) (ap (λ (party : Party). party.me) c.self.view_is)
    c.in_err-ask.ensures.err.settled

pub returns-in_err-ask-clause-mapped : goal.returns-in_err-ask-clause-mapped
returns-in_err-ask-clause-mapped g c =
    subst (λ (who : ℕ). HasMapped who (g.H.Hall.state c.arm.new.hall)) (ap (λ (party : Party). party.me) c.self.view_is) c.arm.ensures.mapped

pub returns-in_err-ask-clause-err : goal.returns-in_err-ask-clause-err
returns-in_err-ask-clause-err g c =
    let party = c.args.self.now in
    let old = g.H.Hall.state c.args.hall.now in
    let new = g.H.Hall.state c.arm.new.hall in
    let nothing : AsksNothing party.me party party old new = record {
      armed = subst (λ (who : ℕ). IsArmedAsBefore who old new) (ap (λ (party : Party). party.me) c.self.view_is) c.in_err-ask.ensures.err;
      party = refl;
    } in
    on_err_any _ _ nothing
