-- The ask is one step of its line, and where a run comes its growth is the next, whoever stopped meanwhile.
use Rattle.std.proofs.Common.{◌+◌, ◌<◌, ℕ, Bool, subst, sym}
use Rattle.std.specs.Prelude.{◌^◌, IsSome}
use Rattle.hp_base.specs.declared.tag.Tag.{Tag}
use Rattle.hp_proc.specs.Denying.{denials_of}
use Rattle.hp_serve.specs.AskSteps.{DoesAskOn}
use Rattle.hp_serve.proofs.AskingFacts.AskedAlong.{held_same, on_err_any}
use Rattle.hp_serve.proofs.AskingFacts.AskedOn.{asked_whole}
use Rattle.hp_proc.specs.Allocating.{with_run}
use Rattle.hp_proc.specs.Contexts.{Context}
use Rattle.hp_proc.specs.Doing.{Deed, Doing}
use Rattle.hp_proc.specs.LineInHall.{HaltsHeld}
use Rattle.hp_proc.proofs.HandFacts.HandAsked.{held_some}
use Rattle.hp_proc.proofs.HandFacts.HandGrown.{allowed_by, calls_by, does_grown, grew_by, halts_grown, halts_unasked, keeps_asked, keeps_grown, passed_by, says_grown, spare_by, told_asked, told_unasked}
use Rattle.hp_proc.proofs.participant.Participant.ask_in.Goals as goal

pub ask-requires-clause-can : goal.ask-requires-clause-can
ask-requires-clause-can g c = c.requires.holds.can

pub ask-requires-clause-settled : goal.ask-requires-clause-settled
ask-requires-clause-settled g c = c.requires.holds.settled

pub ask-requires-clause-holds : goal.ask-requires-clause-holds
ask-requires-clause-holds g c =
    subst (λ (index : ℕ). IsSome ((g.H.Hall.state c.args.hall.now).part c.args.self.now.party.me index).holding) (sym c.requires.its)
    (held_some c.args.heap.now _ c.requires.holds.in_hand.held)

-- NOTHING WAS ASKED

pub returns-in_err-answered-clause-keeps : goal.returns-in_err-answered-clause-keeps
returns-in_err-answered-clause-keeps g c =
    let is = c.ask.ensures in
    keeps_asked c.args.self.now c.ask.new.self (g.H.Hall.state c.args.hall.now) (g.H.Hall.state c.ask.new.hall) c.args.heap.now
    c.args.asked.now c.requires.holds c.requires.its is.context is.remains is.settled is.mapped (told_unasked c.args.self.now.party.me _ _ _ _ c.in_err-answered.ensures.err)
    (λ index. held_same _ _ (c.in_err-answered.ensures.err.armed.stays.mine.parts.part index))

pub returns-in_err-answered-clause-halts : goal.returns-in_err-answered-clause-halts
returns-in_err-answered-clause-halts g c =
    let is = c.ask.ensures in
    let doer = c.args.self.now in
    let old = g.H.Hall.state c.args.hall.now in
    let new = g.H.Hall.state c.ask.new.hall in
    let heap = c.args.heap.now in
    let asked = c.args.asked.now in
    let halts : (tag : Tag) (otherwise : Doing) → HaltsHeld doer.party.me doer c.ask.new.self heap heap old new
    (Doing.Then (Deed.Ask asked) (with_run asked.heap asked.request tag otherwise)) =
    λ tag otherwise.
    halts_unasked doer c.ask.new.self old new heap asked c.requires.holds c.requires.its is.context is.remains is.settled is.mapped (told_unasked c.args.self.now.party.me _ _ _ _ c.in_err-answered.ensures.err)
    (Doing.Then (Deed.Ask asked) (with_run asked.heap asked.request tag otherwise)) c.in_err-answered.ensures.err in
    on_err_any _ _ halts

-- THE HEAP TAKES IN WHAT WAS GRANTED

pub grow_by-granted-requires-clause-allowed : goal.grow_by-granted-requires-clause-allowed
grow_by-granted-requires-clause-allowed g c =
    let is = c.ask.ensures in
    allowed_by c.args.self.now c.ask.new.self (g.H.Hall.state c.args.hall.now) (g.H.Hall.state c.ask.new.hall) c.args.heap.now
    c.args.asked.now c.requires.holds c.requires.its is.context is.remains is.settled is.mapped
    (told_asked c.args.self.now c.ask.new.self _ _ c.args.asked.now c.in_ok-answered.answered.run c.in_ok-answered.answered.stopped
    c.in_ok-answered.ensures.asks.did) is.others c.ask.new.self.party.me
    c.in_ok-answered.answered.run c.in_ok-answered.ensures.asks.grows c.requires.of_socket

pub grow_by-granted-requires-clause-room : goal.grow_by-granted-requires-clause-room
grow_by-granted-requires-clause-room g c = record {
  spare = c.requires.room.spare;
  counted = subst (λ (context : Context). context.calls + 1 < 2 ^ 64) (sym c.ask.ensures.context) c.requires.room.counted;
}

-- SOMEBODY STOPPED MEANWHILE

pub returns-then-answered-clause-keeps : goal.returns-then-answered-clause-keeps
returns-then-answered-clause-keeps g c =
    let is = c.ask.ensures in
    let run = c.in_ok-answered.answered.run in
    let next = c.grow_by-granted.new.heap in
    let last = c.grow_by-granted.new.self in
    let granted = c.grow_by-granted.result in
    keeps_grown c.args.self.now c.ask.new.self (g.H.Hall.state c.args.hall.now) (g.H.Hall.state c.ask.new.hall) c.args.heap.now
    c.args.asked.now c.requires.holds c.requires.its is.context is.remains is.settled is.mapped
    (told_asked c.args.self.now c.ask.new.self _ _ c.args.asked.now c.in_ok-answered.answered.run c.in_ok-answered.answered.stopped
    c.in_ok-answered.ensures.asks.did) is.others next last run granted
    c.in_ok-answered.ensures.asks.grows
    (grew_by run granted c.args.heap.now next c.ask.new.self last c.grow_by-granted.ensures.none c.grow_by-granted.ensures.some)

pub returns-then-answered-clause-spare : goal.returns-then-answered-clause-spare
returns-then-answered-clause-spare g c =
    let is = c.ask.ensures in
    let run = c.in_ok-answered.answered.run in
    let next = c.grow_by-granted.new.heap in
    let last = c.grow_by-granted.new.self in
    let granted = c.grow_by-granted.result in
    spare_by c.args.self.now c.ask.new.self (g.H.Hall.state c.args.hall.now) (g.H.Hall.state c.ask.new.hall) c.args.heap.now
    c.args.asked.now c.requires.holds c.requires.its is.context is.remains is.settled is.mapped
    (told_asked c.args.self.now c.ask.new.self _ _ c.args.asked.now c.in_ok-answered.answered.run c.in_ok-answered.answered.stopped
    c.in_ok-answered.ensures.asks.did) is.others next last run granted
    (grew_by run granted c.args.heap.now next c.ask.new.self last c.grow_by-granted.ensures.none c.grow_by-granted.ensures.some)

pub returns-then-answered-clause-says : goal.returns-then-answered-clause-says
returns-then-answered-clause-says g c =
    let is = c.ask.ensures in
    let run = c.in_ok-answered.answered.run in
    let next = c.grow_by-granted.new.heap in
    let last = c.grow_by-granted.new.self in
    let granted = c.grow_by-granted.result in
    says_grown c.args.self.now c.ask.new.self (g.H.Hall.state c.args.hall.now) (g.H.Hall.state c.ask.new.hall) c.args.heap.now
    c.args.asked.now c.requires.holds c.requires.its is.context is.remains is.settled is.mapped
    (told_asked c.args.self.now c.ask.new.self _ _ c.args.asked.now c.in_ok-answered.answered.run c.in_ok-answered.answered.stopped
    c.in_ok-answered.ensures.asks.did) is.others next last run granted
    (grew_by run granted c.args.heap.now next c.ask.new.self last c.grow_by-granted.ensures.none c.grow_by-granted.ensures.some)

pub returns-then-answered-clause-more : goal.returns-then-answered-clause-more
returns-then-answered-clause-more g c =
    let is = c.ask.ensures in
    let run = c.in_ok-answered.answered.run in
    let next = c.grow_by-granted.new.heap in
    let last = c.grow_by-granted.new.self in
    let granted = c.grow_by-granted.result in
    calls_by c.args.self.now c.ask.new.self (g.H.Hall.state c.args.hall.now) (g.H.Hall.state c.ask.new.hall) c.args.heap.now
    c.args.asked.now c.requires.holds c.requires.its is.context is.remains is.settled is.mapped
    (told_asked c.args.self.now c.ask.new.self _ _ c.args.asked.now c.in_ok-answered.answered.run c.in_ok-answered.answered.stopped
    c.in_ok-answered.ensures.asks.did) is.others next last run granted
    (grew_by run granted c.args.heap.now next c.ask.new.self last c.grow_by-granted.ensures.none c.grow_by-granted.ensures.some)

pub returns-then-answered-clause-halts : goal.returns-then-answered-clause-halts
returns-then-answered-clause-halts g c = λ tag otherwise.
    let is = c.ask.ensures in
    let asks = c.in_ok-answered.ensures.asks in
    let did = asks.did in
    let run = c.in_ok-answered.answered.run in
    let next = c.grow_by-granted.new.heap in
    let last = c.grow_by-granted.new.self in
    let granted = c.grow_by-granted.result in
    halts_grown c.args.self.now c.ask.new.self (g.H.Hall.state c.args.hall.now) (g.H.Hall.state c.ask.new.hall) c.args.heap.now
    c.args.asked.now c.requires.holds c.requires.its is.context is.remains is.settled is.mapped
    (told_asked c.args.self.now c.ask.new.self _ _ c.args.asked.now c.in_ok-answered.answered.run c.in_ok-answered.answered.stopped
    c.in_ok-answered.ensures.asks.did) is.others next last tag otherwise did.0 did.1
    run granted asks.grows
    (grew_by run granted c.args.heap.now next c.ask.new.self last c.grow_by-granted.ensures.none c.grow_by-granted.ensures.some)
    (subst (λ (stopped : Bool). DoesAskOn (denials_of c.args.self.now.context.standing)
    (g.H.Hall.state c.args.hall.now).count c.args.self.now.party c.ask.new.self.party c.args.asked.now did.0 run
    stopped) c.if-answered.true did.2)

-- NOBODY DID

pub returns-clause-does : goal.returns-clause-does
returns-clause-does g c = λ tag otherwise.
    let is = c.ask.ensures in
    let asks = c.in_ok-answered.ensures.asks in
    let did = asks.did in
    let run = c.in_ok-answered.answered.run in
    let next = c.grow_by-granted.new.heap in
    let last = c.grow_by-granted.new.self in
    let granted = c.grow_by-granted.result in
    does_grown c.args.self.now c.ask.new.self (g.H.Hall.state c.args.hall.now) (g.H.Hall.state c.ask.new.hall) c.args.heap.now
    c.args.asked.now c.requires.holds c.requires.its is.context is.remains is.settled is.mapped
    (told_asked c.args.self.now c.ask.new.self _ _ c.args.asked.now c.in_ok-answered.answered.run c.in_ok-answered.answered.stopped
    c.in_ok-answered.ensures.asks.did) is.others next last tag otherwise did.0 did.1
    run granted asks.grows
    (grew_by run granted c.args.heap.now next c.ask.new.self last c.grow_by-granted.ensures.none c.grow_by-granted.ensures.some)
    (asked_whole (g.H.Hall.state c.args.hall.now).count c.args.self.now.party c.ask.new.self.party c.args.asked.now did.0 run
    c.in_ok-answered.answered.stopped c.if-answered.false did.2) asks.answer

pub returns-clause-keeps : goal.returns-clause-keeps
returns-clause-keeps g c =
    let is = c.ask.ensures in
    let run = c.in_ok-answered.answered.run in
    let next = c.grow_by-granted.new.heap in
    let last = c.grow_by-granted.new.self in
    let granted = c.grow_by-granted.result in
    keeps_grown c.args.self.now c.ask.new.self (g.H.Hall.state c.args.hall.now) (g.H.Hall.state c.ask.new.hall) c.args.heap.now
    c.args.asked.now c.requires.holds c.requires.its is.context is.remains is.settled is.mapped
    (told_asked c.args.self.now c.ask.new.self _ _ c.args.asked.now c.in_ok-answered.answered.run c.in_ok-answered.answered.stopped
    c.in_ok-answered.ensures.asks.did) is.others next last run granted
    c.in_ok-answered.ensures.asks.grows
    (grew_by run granted c.args.heap.now next c.ask.new.self last c.grow_by-granted.ensures.none c.grow_by-granted.ensures.some)

pub returns-clause-passed : goal.returns-clause-passed
returns-clause-passed g c =
    let is = c.ask.ensures in
    let run = c.in_ok-answered.answered.run in
    let next = c.grow_by-granted.new.heap in
    let last = c.grow_by-granted.new.self in
    let granted = c.grow_by-granted.result in
    passed_by c.args.self.now c.ask.new.self (g.H.Hall.state c.args.hall.now) (g.H.Hall.state c.ask.new.hall) c.args.heap.now
    c.args.asked.now c.requires.holds c.requires.its is.context is.remains is.settled is.mapped
    (told_asked c.args.self.now c.ask.new.self _ _ c.args.asked.now c.in_ok-answered.answered.run c.in_ok-answered.answered.stopped
    c.in_ok-answered.ensures.asks.did) is.others next last run granted
    (grew_by run granted c.args.heap.now next c.ask.new.self last c.grow_by-granted.ensures.none c.grow_by-granted.ensures.some)

pub returns-clause-spare : goal.returns-clause-spare
returns-clause-spare g c =
    let is = c.ask.ensures in
    let run = c.in_ok-answered.answered.run in
    let next = c.grow_by-granted.new.heap in
    let last = c.grow_by-granted.new.self in
    let granted = c.grow_by-granted.result in
    spare_by c.args.self.now c.ask.new.self (g.H.Hall.state c.args.hall.now) (g.H.Hall.state c.ask.new.hall) c.args.heap.now
    c.args.asked.now c.requires.holds c.requires.its is.context is.remains is.settled is.mapped
    (told_asked c.args.self.now c.ask.new.self _ _ c.args.asked.now c.in_ok-answered.answered.run c.in_ok-answered.answered.stopped
    c.in_ok-answered.ensures.asks.did) is.others next last run granted
    (grew_by run granted c.args.heap.now next c.ask.new.self last c.grow_by-granted.ensures.none c.grow_by-granted.ensures.some)

pub returns-clause-says : goal.returns-clause-says
returns-clause-says g c =
    let is = c.ask.ensures in
    let run = c.in_ok-answered.answered.run in
    let next = c.grow_by-granted.new.heap in
    let last = c.grow_by-granted.new.self in
    let granted = c.grow_by-granted.result in
    says_grown c.args.self.now c.ask.new.self (g.H.Hall.state c.args.hall.now) (g.H.Hall.state c.ask.new.hall) c.args.heap.now
    c.args.asked.now c.requires.holds c.requires.its is.context is.remains is.settled is.mapped
    (told_asked c.args.self.now c.ask.new.self _ _ c.args.asked.now c.in_ok-answered.answered.run c.in_ok-answered.answered.stopped
    c.in_ok-answered.ensures.asks.did) is.others next last run granted
    (grew_by run granted c.args.heap.now next c.ask.new.self last c.grow_by-granted.ensures.none c.grow_by-granted.ensures.some)

pub returns-clause-more : goal.returns-clause-more
returns-clause-more g c =
    let is = c.ask.ensures in
    let run = c.in_ok-answered.answered.run in
    let next = c.grow_by-granted.new.heap in
    let last = c.grow_by-granted.new.self in
    let granted = c.grow_by-granted.result in
    calls_by c.args.self.now c.ask.new.self (g.H.Hall.state c.args.hall.now) (g.H.Hall.state c.ask.new.hall) c.args.heap.now
    c.args.asked.now c.requires.holds c.requires.its is.context is.remains is.settled is.mapped
    (told_asked c.args.self.now c.ask.new.self _ _ c.args.asked.now c.in_ok-answered.answered.run c.in_ok-answered.answered.stopped
    c.in_ok-answered.ensures.asks.did) is.others next last run granted
    (grew_by run granted c.args.heap.now next c.ask.new.self last c.grow_by-granted.ensures.none c.grow_by-granted.ensures.some)
