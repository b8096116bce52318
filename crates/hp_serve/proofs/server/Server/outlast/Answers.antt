-- One turn more, or the last reading.
use Rattle.std.proofs.Common.{◌≡◌, ℕ, suc, ◌++◌, [], ◌∷◌, refl, ap, sym, subst, inl, arith}
use Rattle.hp_hall.specs.HallState.{Did}
use Rattle.hp_hall.specs.Mail.{Notes}
use Rattle.hp_hall.specs.declared.note.Note.TheVariants.{Read}
use Rattle.hp_hall.proofs.HallStates.{did_same, did_then}
use Rattle.hp_serve.specs.Party.{Party, due_in}
use Rattle.hp_serve.specs.Waiting.{IsTurnedOn}
use Rattle.hp_serve.proofs.AskingFacts.AskedLemmas.{asked_same, asked_then}
use Rattle.hp_serve.proofs.InHalls.{in_can, in_did, in_may, in_others, in_same, in_then, in_tied}
use Rattle.hp_serve.proofs.Scaled.{own_measure_still}
use Rattle.hp_serve.proofs.Waits.{clock_still, no_turns_on, turned_clock, turns_on_more}
use Rattle.hp_serve.proofs.server.Server.outlast.Goals as goal

pub waiting-init : goal.waiting-init
waiting-init g c = record {
  turned = (
    0,
    [],
    did_same _ (g.H.Hall.state c.args.hall.now),
    no_turns_on (g.J.Judge.denies c.args.judge.now) (g.H.Hall.state c.args.hall.now).count c.args.until c.args.heeds c.args.self.now,
  );
  clock = inl refl;
  asks = asked_same c.args.self.now;
  stays = in_same c.args.self.now.me c.args.self.now (g.H.Hall.state c.args.hall.now) c.requires.can.tied;
  goes_on = g.met.H.Hall.goes_on_same _;
}

pub now-reading-requires : goal.now-reading-requires
now-reading-requires g c = record {
  serves = subst (g.H.Hall.state c.waiting.hall).serves (sym (ap (λ (party : Party). party.me) c.self.view_is))
      (in_may c.waiting.invariant.stays c.requires.can.may).serves;
}

-- ITS WAIT IS OVER

pub returns-then-over : goal.returns-then-over
returns-then-over g c =
    let was = c.waiting.invariant in
    let read = c.now-reading.ensures in
    let old = g.H.Hall.state c.args.hall.now in
    let mid = g.H.Hall.state c.waiting.hall in
    let new = g.H.Hall.state c.now-reading.new.self in
    let here = ap (λ (party : Party). party.me) c.self.view_is in
    let looked = in_others c.waiting.self here read.stays.slots read.stays.mine read.stays.others.later (in_tied was.stays) in
    record {
      turned = (
        was.turned.1 ++ (Notes (Read c.now-reading.result) ∷ []),
        did_then was.turned.2
            (in_did was.stays (subst (λ (who : ℕ). Did who (Notes (Read c.now-reading.result) ∷ []) mid new) here read.did)),
        record {
          turns = was.turned.0;
          first = was.turned.1;
          are_turns = was.turned.3;
          waited = c.ends_wait-over.ensures.ended c.if-over.true;
          are = refl;
        },
      );
      clock = clock_still c.args.until old.clock mid.clock new.clock read.stays.others.clock was.clock;
      asks = was.asks;
      stays = in_then was.stays looked;
      goes_on = g.met.H.Hall.goes_on_then _ _ _ was.goes_on read.goes_on;
    }

-- ONE TURN MORE

pub turn_on-requires : goal.turn_on-requires
turn_on-requires g c =
    let was = c.waiting.invariant in
    let read = c.now-reading.ensures in
    let looked = in_others c.waiting.self (ap (λ (party : Party). party.me) c.self.view_is) read.stays.slots read.stays.mine
    read.stays.others.later (in_tied was.stays) in
    record {
      may_ask = c.requires.may_ask;
      can = in_can looked (in_can was.stays c.requires.can);
      before = read.before c.args.until (c.ends_wait-over.ensures.waits_on c.if-over.false).early;
    }

pub waiting-smaller : goal.waiting-smaller
waiting-smaller g c =
    let lighter = c.now-reading.ensures.measure in
    let falls = c.turn_on.ensures.falls in
    let clock = c.now-reading.ensures.stays.others.clock in
    let until = ap (λ (at : ℕ). g.H.Hall.pending at c.args.until) clock in
    let own =
    own_measure_still g.H.Hall.scale g.H.Hall.pending (g.H.Hall.state c.waiting.hall).clock (g.H.Hall.state c.now-reading.new.self).clock
    c.waiting.self.core clock
    in
    omega (arith, lighter, falls, until, own)

pub waiting-preserved : goal.waiting-preserved
waiting-preserved g c =
    let was = c.waiting.invariant in
    let read = c.now-reading.ensures in
    let is = c.turn_on.ensures in
    let old = g.H.Hall.state c.args.hall.now in
    let mid = g.H.Hall.state c.waiting.hall in
    let late = g.H.Hall.state c.now-reading.new.self in
    let new = g.H.Hall.state c.turn_on.new.hall in
    let here = ap (λ (party : Party). party.me) c.self.view_is in
    let looked = in_others c.waiting.self here read.stays.slots read.stays.mine read.stays.others.later (in_tied was.stays) in
    let so_far = in_then was.stays looked in
    let one = is.turned in
    record {
      turned = (
        suc was.turned.0,
        was.turned.1 ++ (Notes (Read c.now-reading.result) ∷ one.0),
        did_then was.turned.2
            (did_then (in_did was.stays (subst (λ (who : ℕ). Did who (Notes (Read c.now-reading.result) ∷ []) mid late) here read.did))
            (in_did so_far one.1)),
        turns_on_more old.count c.args.until c.args.heeds was.turned.0 c.args.self.now c.waiting.self c.turn_on.new.self was.turned.1 one.0
            c.now-reading.result was.turned.3 (c.ends_wait-over.ensures.waits_on c.if-over.false)
            (subst (λ (n : ℕ). IsTurnedOn (g.J.Judge.denies c.args.judge.now) n c.args.until c.waiting.self c.turn_on.new.self one.0)
            so_far.waits.later.count one.2),
      );
      clock = turned_clock (λ deadline. g.H.Hall.pending late.clock deadline ≡ g.H.Hall.scale) c.args.until (due_in c.turn_on.new.self.core) old.clock
          late.clock new.clock is.paused (clock_still c.args.until old.clock mid.clock late.clock read.stays.others.clock was.clock);
      asks = asked_then c.args.self.now c.waiting.self c.turn_on.new.self was.asks is.asks;
      stays = in_then so_far is.stays;
      goes_on = g.met.H.Hall.goes_on_then _ _ _ was.goes_on (g.met.H.Hall.goes_on_then _ _ _ read.goes_on is.goes_on);
    }
