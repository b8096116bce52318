-- It awaits its answer as it did before the wait, its table is tied along the settling, and the steps follow one another.
use Rattle.std.proofs.Common.{◌≡◌, ◌≤◌, ◌⊎◌, ℕ, false, [], ◌∷◌, refl, sym, subst}
use Rattle.hp_serve.specs.Asking.{IsAwaiting, Settles, after_settling}
use Rattle.hp_serve.specs.Serving.{gives_segments, takes_segments}
use Rattle.hp_serve.specs.Waiting.{IsWaitedOut}
use Rattle.hp_serve.proofs.AskingFacts.AskedAlong.{awaits_along, settles_along}
use Rattle.hp_serve.proofs.Waits.{clock_still}
use Rattle.hp_hall.specs.HallState.{Did, HasMapped}
use Rattle.hp_hall.proofs.HallStates.{did_then, may_still}
use Rattle.hp_serve.specs.SegmentSlot.{MayHold, StaysButParts}
use Rattle.hp_serve.proofs.InHalls.{remains_by, remains_then}
use Rattle.hp_serve.proofs.SegmentSlots.{may_hold, remains_parts}
use Rattle.hp_serve.proofs.server.Server.settle_late.Goals as goal

pub wait_out-waited-requires : goal.wait_out-waited-requires
wait_out-waited-requires g c = record { may_ask = c.requires.may_ask; can = c.requires.can }

pub settle-run-requires : goal.settle-run-requires
settle-run-requires g c =
    let me = c.args.self.now.me in
    let ask = c.args.ask.now in
    let old = g.H.Hall.state c.args.hall.now in
    let mid = g.H.Hall.state c.wait_out-waited.new.hall in
    let waits = c.wait_out-waited.ensures.stays.waits in
    record {
      may = subst (λ (who : ℕ). MayHold who mid) (sym c.requires.own) (may_hold (may_still waits.slots waits.later c.requires.can.may));
      few = c.requires.few;
      awaits = subst (λ who. IsAwaiting ask (mid.part who)) (sym c.requires.own)
          (awaits_along ask (old.part me) (mid.part me) waits.parts.part c.requires.awaits);
    }

pub returns-clause-settles : goal.returns-clause-settles
returns-clause-settles g c =
    let me = c.args.self.now.me in
    let ask = c.args.ask.now in
    let old = g.H.Hall.state c.args.hall.now in
    let mid = g.H.Hall.state c.wait_out-waited.new.hall in
    let new = g.H.Hall.state c.settle-run.new.hall in
    settles_along (new.seen me) (new.heard me) ask (old.part me) (mid.part me) (new.part me) c.settle-run.result
    c.wait_out-waited.ensures.stays.waits.parts.part
    (subst (λ (who : ℕ). Settles (new.seen who) (new.heard who) ask (mid.part who) (new.part who) c.settle-run.result) c.requires.own
    c.settle-run.ensures.settles)

pub returns-clause-asked : goal.returns-clause-asked
returns-clause-asked g c = c.wait_out-waited.ensures.asks.asked

pub returns-clause-remains : goal.returns-clause-remains
returns-clause-remains g c =
    let stays : StaysButParts c.args.self.now.me (g.H.Hall.state c.wait_out-waited.new.hall) (g.H.Hall.state c.settle-run.new.hall) =
    subst (λ (who : ℕ). StaysButParts who (g.H.Hall.state c.wait_out-waited.new.hall) (g.H.Hall.state c.settle-run.new.hall)) c.requires.own
    c.settle-run.ensures.stays in
    remains_then (remains_by c.wait_out-waited.ensures.stays)
    (remains_parts c.args.self.now.me c.wait_out-waited.new.self stays c.wait_out-waited.ensures.stays.tied)

pub returns-clause-goes_on : goal.returns-clause-goes_on
returns-clause-goes_on g c = g.met.H.Hall.goes_on_then _ _ _ c.wait_out-waited.ensures.goes_on c.settle-run.ensures.goes_on

pub returns-clause-mapped : goal.returns-clause-mapped
returns-clause-mapped g c =
    subst (λ (who : ℕ). HasMapped who (g.H.Hall.state c.settle-run.new.hall)) c.requires.own c.settle-run.ensures.mapped

pub returns-clause-did : goal.returns-clause-did
returns-clause-did g c =
    let ask = c.args.ask.now in
    let waited = c.wait_out-waited.ensures.turned in
    let settled = c.settle-run.ensures.did in (
      _,
      did_then waited.1
          (subst (λ who. Did who (takes_segments settled.0 ∷ gives_segments (after_settling ask c.args.since c.wait_out-waited.result.reading settled.0) ∷ []) (g.H.Hall.state c.wait_out-waited.new.hall) (g.H.Hall.state c.settle-run.new.hall)) c.requires.own
          settled.1),
      record {
        waited = waited.0;
        taken = settled.0;
        now = c.wait_out-waited.result.reading;
        waits = subst (λ until. IsWaitedOut (g.J.Judge.denies c.args.judge.now)
            (g.H.Hall.state c.args.hall.now).count until false c.args.self.now c.wait_out-waited.new.self waited.0
            c.wait_out-waited.result.reading c.wait_out-waited.result.stopped) c.waits_until-until.ensures waited.2;
        are = refl;
      },
    )

pub returns-clause-clock : goal.returns-clause-clock
returns-clause-clock g c =
    let old = (g.H.Hall.state c.args.hall.now).clock in
    let new = (g.H.Hall.state c.settle-run.new.hall).clock in
    subst (λ (until : ℕ). (new ≡ old) ⊎ (new ≤ until)) c.waits_until-until.ensures
    (clock_still c.waits_until-until.result old (g.H.Hall.state c.wait_out-waited.new.hall).clock new c.settle-run.ensures.stays.others.clock c.wait_out-waited.ensures.clock)
