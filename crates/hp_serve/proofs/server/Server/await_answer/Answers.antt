-- It awaits its answer as it did before the wait and before a look that found nothing, and its table is tied along the look.
use Rattle.std.proofs.Common.{◌≡◌, ◌∙◌, ◌≤◌, ◌⊎◌, ℕ, true, refl, sym, subst}
use Rattle.hp_serve.specs.AskSteps.{IsAwaitedOn, IsSettledOn, waits_until}
use Rattle.hp_serve.specs.Asking.{IsAwaiting, Settles}
use Rattle.hp_serve.specs.Waiting.{IsWaitedOut}
use Rattle.hp_serve.proofs.AskingFacts.AskedAlong.{awaits_along, settles_along}
use Rattle.hp_serve.proofs.Rising.{waits_on}
use Rattle.hp_serve.proofs.Waits.{clock_still}
use Rattle.hp_hall.specs.HallState.{Did, HasMapped}
use Rattle.hp_hall.proofs.HallStates.{did_then, may_still}
use Rattle.hp_serve.specs.InHall.{CanServe, RemainsIn}
use Rattle.hp_serve.specs.SegmentSlot.{MayHold, StaysButParts}
use Rattle.hp_serve.proofs.InHalls.{remains_by, remains_then}
use Rattle.hp_serve.proofs.SegmentSlots.{may_hold, remains_parts}
use Rattle.hp_serve.proofs.server.Server.await_answer.Goals as goal

pub wait_out-waited-requires : goal.wait_out-waited-requires
wait_out-waited-requires g c = record { may_ask = c.requires.may_ask; can = c.requires.can }

pub look-requires : goal.look-requires
look-requires g c =
    let me = c.args.self.now.me in
    let ask = c.args.ask.now in
    let old = g.H.Hall.state c.args.hall.now in
    let mid = g.H.Hall.state c.wait_out-waited.new.hall in
    let waits = c.wait_out-waited.ensures.stays.waits in
    record {
      may = subst (λ (who : ℕ). MayHold who mid) (sym c.requires.own) (may_hold (may_still waits.slots waits.later c.requires.can.may));
      few = c.requires.few;
      awaits = subst (λ who. IsAwaiting ask (mid.part who)) (sym c.requires.own)
          (awaits_along ask (old.part me) (mid.part me) waits.parts.part c.requires.awaits);
    }

-- ITS ASK IS SETTLED

pub returns-in-Settled-clause-settles : goal.returns-in-Settled-clause-settles
returns-in-Settled-clause-settles g c =
    let me = c.args.self.now.me in
    let ask = c.args.ask.now in
    let old = g.H.Hall.state c.args.hall.now in
    let mid = g.H.Hall.state c.wait_out-waited.new.hall in
    let late = g.H.Hall.state c.look.new.hall in
    settles_along (late.seen me) (late.heard me) ask (old.part me) (mid.part me) (late.part me) c.in-Settled.run'
    c.wait_out-waited.ensures.stays.waits.parts.part
    (subst (λ (who : ℕ). Settles (late.seen who) (late.heard who) ask (mid.part who) (late.part who) c.in-Settled.run') c.requires.own
    c.in-Settled.ensures.found)

pub returns-in-Settled-clause-asked : goal.returns-in-Settled-clause-asked
returns-in-Settled-clause-asked g c = c.wait_out-waited.ensures.asks.asked

pub returns-in-Settled-clause-mapped : goal.returns-in-Settled-clause-mapped
returns-in-Settled-clause-mapped g c =
    subst (λ (who : ℕ). HasMapped who (g.H.Hall.state c.look.new.hall)) c.requires.own c.look.ensures.mapped

pub returns-in-Settled-clause-remains : goal.returns-in-Settled-clause-remains
returns-in-Settled-clause-remains g c =
    let me = c.args.self.now.me in
    let mid = g.H.Hall.state c.wait_out-waited.new.hall in
    let late = g.H.Hall.state c.look.new.hall in
    let looked : StaysButParts me mid late =
    subst (λ (who : ℕ). StaysButParts who mid late) c.requires.own c.look.ensures.stays in
    remains_then (remains_by c.wait_out-waited.ensures.stays) (remains_parts me c.wait_out-waited.new.self looked c.wait_out-waited.ensures.stays.tied)

pub returns-in-Settled-clause-goes_on : goal.returns-in-Settled-clause-goes_on
returns-in-Settled-clause-goes_on g c = g.met.H.Hall.goes_on_then _ _ _ c.wait_out-waited.ensures.goes_on c.look.ensures.goes_on

-- IT IS OPEN

pub settle_late-late-requires : goal.settle_late-late-requires
settle_late-late-requires g c =
    let me = c.args.self.now.me in
    let ask = c.args.ask.now in
    let old = g.H.Hall.state c.args.hall.now in
    let mid = g.H.Hall.state c.wait_out-waited.new.hall in
    let late = g.H.Hall.state c.look.new.hall in
    let looked : StaysButParts me mid late =
    subst (λ (who : ℕ). StaysButParts who mid late) c.requires.own c.look.ensures.stays in
    let who = c.wait_out-waited.ensures.stays.same.me in
    let so_far = remains_then (remains_by c.wait_out-waited.ensures.stays) (remains_parts me c.wait_out-waited.new.self looked c.wait_out-waited.ensures.stays.tied) in
    record {
      may_ask = c.requires.may_ask;
      can = subst (λ (who : ℕ). CanServe who c.wait_out-waited.new.self late) (sym who)
          (record { may = may_still so_far.slots so_far.later c.requires.can.may; tied = so_far.tied });
      own = c.requires.own ∙ sym who;
      few = c.requires.few;
      awaits = subst (λ who. IsAwaiting ask (late.part who)) (c.requires.own ∙ sym who)
          (awaits_along ask (mid.part ask.from) (late.part ask.from) c.in-Open.ensures.found
          (subst (λ who. IsAwaiting ask (mid.part who)) (sym c.requires.own)
          (awaits_along ask (old.part me) (mid.part me) c.wait_out-waited.ensures.stays.waits.parts.part c.requires.awaits)));
    }

-- parts that stay along a look that found nothing
pub returns-in-Open-clause-settles : goal.returns-in-Open-clause-settles
returns-in-Open-clause-settles g c =
    let me = c.args.self.now.me in
    let ask = c.args.ask.now in
    let old = g.H.Hall.state c.args.hall.now in
    let mid = g.H.Hall.state c.wait_out-waited.new.hall in
    let late = g.H.Hall.state c.look.new.hall in
    let new = g.H.Hall.state c.settle_late-late.new.hall in
    let still : (heap : ℕ) → late.part me heap ≡ old.part me heap = λ heap.
    subst (λ (who : ℕ). late.part who heap ≡ mid.part who heap) c.requires.own (c.in-Open.ensures.found heap)
    ∙ c.wait_out-waited.ensures.stays.waits.parts.part heap in
    settles_along (new.seen me) (new.heard me) ask (old.part me) (late.part me) (new.part me) c.settle_late-late.result.run still
    (subst (λ (who : ℕ). Settles (new.seen who) (new.heard who) ask (late.part who) (new.part who) c.settle_late-late.result.run)
    c.wait_out-waited.ensures.stays.same.me c.settle_late-late.ensures.settles)

pub returns-in-Open-clause-mapped : goal.returns-in-Open-clause-mapped
returns-in-Open-clause-mapped g c =
    subst (λ (who : ℕ). HasMapped who (g.H.Hall.state c.settle_late-late.new.hall)) c.wait_out-waited.ensures.stays.same.me
    c.settle_late-late.ensures.mapped

pub returns-in-Open-clause-asked : goal.returns-in-Open-clause-asked
returns-in-Open-clause-asked g c = c.settle_late-late.ensures.asked ∙ c.wait_out-waited.ensures.asks.asked

pub returns-in-Open-clause-remains : goal.returns-in-Open-clause-remains
returns-in-Open-clause-remains g c =
    let me = c.args.self.now.me in
    let mid = g.H.Hall.state c.wait_out-waited.new.hall in
    let late = g.H.Hall.state c.look.new.hall in
    let looked : StaysButParts me mid late =
    subst (λ (who : ℕ). StaysButParts who mid late) c.requires.own c.look.ensures.stays in
    remains_then (remains_then (remains_by c.wait_out-waited.ensures.stays) (remains_parts me c.wait_out-waited.new.self looked c.wait_out-waited.ensures.stays.tied))
    (subst (λ (who : ℕ). RemainsIn who c.wait_out-waited.new.self c.settle_late-late.new.self late (g.H.Hall.state c.settle_late-late.new.hall))
    c.wait_out-waited.ensures.stays.same.me c.settle_late-late.ensures.remains)

pub returns-in-Open-clause-goes_on : goal.returns-in-Open-clause-goes_on
returns-in-Open-clause-goes_on g c =
    g.met.H.Hall.goes_on_then _ _ _ c.wait_out-waited.ensures.goes_on
    (g.met.H.Hall.goes_on_then _ _ _ c.look.ensures.goes_on c.settle_late-late.ensures.goes_on)

-- WHAT IT DID

pub returns-in-Settled-clause-did : goal.returns-in-Settled-clause-did
returns-in-Settled-clause-did g c =
    let waited = c.wait_out-waited.ensures.turned in
    let looked = c.in-Settled.ensures.did in (
      _,
      did_then waited.1
          (subst (λ who. Did who looked.0 (g.H.Hall.state c.wait_out-waited.new.hall) (g.H.Hall.state c.look.new.hall)) c.requires.own looked.1),
      IsAwaitedOn.finds c.wait_out-waited.result.reading waited.0 looked.0
          (subst (λ until. IsWaitedOut (g.J.Judge.denies c.args.judge.now)
          (g.H.Hall.state c.args.hall.now).count until true c.args.self.now c.wait_out-waited.new.self waited.0
          c.wait_out-waited.result.reading c.wait_out-waited.result.stopped) c.waits_until-until.ensures waited.2) looked.2 refl,
    )

pub returns-in-Open-clause-did : goal.returns-in-Open-clause-did
returns-in-Open-clause-did g c =
    let ask = c.args.ask.now in
    let old = g.H.Hall.state c.args.hall.now in
    let new = g.H.Hall.state c.settle_late-late.new.hall in
    let waited = c.wait_out-waited.ensures.turned in
    let looked = c.in-Open.ensures.did in
    let late = c.settle_late-late.ensures.did in
    let count = c.look.ensures.stays.others.later.count ∙ (g.met.H.Hall.goes_on_later _ _ c.wait_out-waited.ensures.goes_on).count in (
      _,
      did_then waited.1
          (did_then (subst (λ who. Did who looked.0 (g.H.Hall.state c.wait_out-waited.new.hall) (g.H.Hall.state c.look.new.hall)) c.requires.own
          looked.1)
          (subst (λ who. Did who late.0 (g.H.Hall.state c.look.new.hall) new) c.wait_out-waited.ensures.stays.same.me late.1)),
      IsAwaitedOn.settles c.wait_out-waited.new.self c.wait_out-waited.result.reading waited.0 looked.0 late.0
          c.wait_out-waited.result.stopped c.settle_late-late.result.stopped
          (subst (λ until. IsWaitedOut (g.J.Judge.denies c.args.judge.now) old.count until true c.args.self.now
          c.wait_out-waited.new.self waited.0
          c.wait_out-waited.result.reading c.wait_out-waited.result.stopped) c.waits_until-until.ensures waited.2) looked.2
          (subst (λ count. IsSettledOn (g.J.Judge.denies c.args.judge.now) count c.wait_out-waited.new.self c.settle_late-late.new.self
          ask c.args.since late.0
          c.settle_late-late.result.stopped) count late.2) refl c.either.ensures,
    )

-- BY HOW MUCH IT CARRIES THE CLOCK

pub returns-in-Settled-clause-clock : goal.returns-in-Settled-clause-clock
returns-in-Settled-clause-clock g c =
    let old = (g.H.Hall.state c.args.hall.now).clock in
    let new = (g.H.Hall.state c.look.new.hall).clock in
    subst (λ (until : ℕ). (new ≡ old) ⊎ (new ≤ until)) c.waits_until-until.ensures
    (clock_still c.waits_until-until.result old (g.H.Hall.state c.wait_out-waited.new.hall).clock new c.look.ensures.stays.others.clock c.wait_out-waited.ensures.clock)

pub returns-in-Open-clause-clock : goal.returns-in-Open-clause-clock
returns-in-Open-clause-clock g c =
    let old = (g.H.Hall.state c.args.hall.now).clock in
    let mid = (g.H.Hall.state c.look.new.hall).clock in
    let new = (g.H.Hall.state c.settle_late-late.new.hall).clock in
    let since = c.args.since in
    waits_on (waits_until since c.args.self.now.deadline) old mid new
    (subst (λ (until : ℕ). (mid ≡ old) ⊎ (mid ≤ until)) c.waits_until-until.ensures
    (clock_still c.waits_until-until.result old (g.H.Hall.state c.wait_out-waited.new.hall).clock mid c.look.ensures.stays.others.clock c.wait_out-waited.ensures.clock))
    (subst (λ (deadline : ℕ). (new ≡ mid) ⊎ (new ≤ waits_until since deadline)) c.wait_out-waited.ensures.stays.same.deadline c.settle_late-late.ensures.clock)
