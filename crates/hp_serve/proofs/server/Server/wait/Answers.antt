-- One turn more, or the last reading.
use Rattle.std.proofs.Common.{◌≡◌, ◌∙◌, ℕ, suc, ◌++◌, [], ◌∷◌, None, Some, refl, ap, sym, subst, inl, arith}
use Rattle.std.specs.Result.{result_ok}
use Rattle.std.proofs.lemmas.Result.{err_from_is_err_and}
use Rattle.hp_hall.specs.HallState.{Did}
use Rattle.hp_hall.specs.Mail.{Notes}
use Rattle.hp_hall.specs.declared.note.Note.TheVariants.{Read}
use Rattle.hp_hall.proofs.HallStates.{did_same, did_then}
use Rattle.hp_serve.specs.Party.{Party, due_in}
use Rattle.hp_serve.specs.Waiting.{IsTurned, IsWaited}
use Rattle.hp_serve.proofs.AskingFacts.AskedLemmas.{asked_then, asked_turns}
use Rattle.hp_serve.proofs.InHalls.{in_can, in_did, in_may, in_others, in_same, in_then, in_tied}
use Rattle.hp_serve.proofs.Scaled.{own_measure_still}
use Rattle.hp_serve.proofs.Waits.{clock_still, if_no_ok, no_turns, past_deadline, turned_clock, turns_more}
use Rattle.hp_serve.proofs.server.Server.wait.Goals as goal

pub waiting-init : goal.waiting-init
waiting-init g c =
    let old = g.H.Hall.state c.args.hall.now in
    record {
      turned = (0, [], did_same _ old, no_turns (g.J.Judge.denies c.args.judge.now) old.count c.args.until c.args.heeds c.args.self.now);
      measure = omega arith;
      clock = inl refl;
      stays = in_same c.args.self.now.me c.args.self.now old c.requires.can.tied;
      goes_on = g.met.H.Hall.goes_on_same _;
    }

pub now-reading-requires : goal.now-reading-requires
now-reading-requires g c = record {
  serves = subst (g.H.Hall.state c.waiting.hall).serves (sym (ap (λ (party : Party). party.me) c.self.view_is))
      (in_may c.waiting.invariant.stays c.requires.can.may).serves;
}

-- ITS WAIT IS OVER

pub returns-then-over : goal.returns-then-over
returns-then-over g c =
    let was = c.waiting.invariant in
    let read = c.now-reading.ensures in
    let old = g.H.Hall.state c.args.hall.now in
    let mid = g.H.Hall.state c.waiting.hall in
    let new = g.H.Hall.state c.now-reading.new.self in
    let here = ap (λ (party : Party). party.me) c.self.view_is in
    let clock = read.stays.others.clock in
    let looked = in_others c.waiting.self here read.stays.slots read.stays.mine read.stays.others.later (in_tied was.stays) in
    let before = was.measure in
    let lighter = read.measure in
    let until = ap (λ (at : ℕ). g.H.Hall.pending at c.args.until) clock in
    let own = own_measure_still g.H.Hall.scale g.H.Hall.pending mid.clock new.clock c.waiting.self.core clock in
    record {
      turned = (
        was.turned.1 ++ (Notes (Read c.now-reading.result) ∷ []),
        did_then was.turned.2
            (in_did was.stays (subst (λ (who : ℕ). Did who (Notes (Read c.now-reading.result) ∷ []) mid new) here read.did)),
        IsWaited.ends was.turned.0 c.now-reading.result was.turned.1 was.turned.3 (c.ends_wait-over.ensures.ended c.if-over.true) refl refl,
      );
      waited = λ unheeding.
          past_deadline c.args.heeds c.waiting.self c.args.until c.now-reading.result unheeding (c.ends_wait-over.ensures.ended c.if-over.true);
      reading = read.before;
      clock = clock_still c.args.until old.clock mid.clock new.clock clock was.clock;
      measure = omega (arith, before, lighter, until, own);
      stays = in_then was.stays looked;
      asks = asked_turns (g.J.Judge.denies c.args.judge.now) old.count c.args.until c.args.heeds was.turned.0 c.args.self.now
          c.waiting.self was.turned.1 was.turned.3;
      goes_on = g.met.H.Hall.goes_on_then _ _ _ was.goes_on read.goes_on;
    }

-- ONE TURN MORE

pub turn-requires : goal.turn-requires
turn-requires g c =
    let was = c.waiting.invariant in
    let read = c.now-reading.ensures in
    let looked = in_others c.waiting.self (ap (λ (party : Party). party.me) c.self.view_is) read.stays.slots read.stays.mine
    read.stays.others.later (in_tied was.stays) in
    record {
      may_ask = c.requires.may_ask;
      can = in_can looked (in_can was.stays c.requires.can);
      before = read.before c.args.until (c.ends_wait-over.ensures.waits_on c.if-over.false).early;
    }

pub waiting-smaller : goal.waiting-smaller
waiting-smaller g c =
    let lighter = c.now-reading.ensures.measure in
    let falls = c.in_ok-turn.ensures.falls in
    let clock = c.now-reading.ensures.stays.others.clock in
    let until = ap (λ (at : ℕ). g.H.Hall.pending at c.args.until) clock in
    let own =
    own_measure_still g.H.Hall.scale g.H.Hall.pending (g.H.Hall.state c.waiting.hall).clock (g.H.Hall.state c.now-reading.new.self).clock
    c.waiting.self.core clock
    in
    omega (arith, lighter, falls, until, own)

pub waiting-preserved : goal.waiting-preserved
waiting-preserved g c =
    let was = c.waiting.invariant in
    let read = c.now-reading.ensures in
    let is = c.turn.ensures in
    let one = c.in_ok-turn.ensures.turned in
    let old = g.H.Hall.state c.args.hall.now in
    let mid = g.H.Hall.state c.waiting.hall in
    let late = g.H.Hall.state c.now-reading.new.self in
    let new = g.H.Hall.state c.turn.new.hall in
    let here = ap (λ (party : Party). party.me) c.self.view_is in
    let clock = read.stays.others.clock in
    let looked = in_others c.waiting.self here read.stays.slots read.stays.mine read.stays.others.later (in_tied was.stays) in
    let so_far = in_then was.stays looked in
    let before = was.measure in
    let lighter = read.measure in
    let falls = c.in_ok-turn.ensures.falls in
    let until = ap (λ (at : ℕ). g.H.Hall.pending at c.args.until) clock in
    let own = own_measure_still g.H.Hall.scale g.H.Hall.pending mid.clock late.clock c.waiting.self.core clock in
    record {
      turned = (
        suc was.turned.0,
        was.turned.1 ++ (Notes (Read c.now-reading.result) ∷ one.0),
        did_then was.turned.2
            (did_then (in_did was.stays (subst (λ (who : ℕ). Did who (Notes (Read c.now-reading.result) ∷ []) mid late) here read.did))
            (in_did so_far one.1)),
        turns_more old.count c.args.until c.args.heeds was.turned.0 c.args.self.now c.waiting.self c.turn.new.self was.turned.1 one.0
            c.now-reading.result c.in_ok-turn.field-0 was.turned.3 (c.ends_wait-over.ensures.waits_on c.if-over.false)
            (subst (λ (n : ℕ). IsTurned (g.J.Judge.denies c.args.judge.now) n c.args.until c.waiting.self c.turn.new.self one.0
            (Some c.in_ok-turn.field-0)) so_far.waits.later.count one.2),
      );
      measure = omega (arith, before, lighter, falls, until, own);
      clock = turned_clock (λ deadline. g.H.Hall.pending late.clock deadline ≡ g.H.Hall.scale) c.args.until (due_in c.turn.new.self.core) old.clock
          late.clock new.clock c.in_ok-turn.ensures.paused (clock_still c.args.until old.clock mid.clock late.clock clock was.clock);
      stays = in_then so_far is.stays;
      goes_on = g.met.H.Hall.goes_on_then _ _ _ was.goes_on (g.met.H.Hall.goes_on_then _ _ _ read.goes_on is.goes_on);
    }

-- SOMEBODY STOPPED

pub returns-in_err-turn : goal.returns-in_err-turn
returns-in_err-turn g c =
    let was = c.waiting.invariant in
    let read = c.now-reading.ensures in
    let is = c.turn.ensures in
    let one = c.in_err-turn.ensures.turned in
    let old = g.H.Hall.state c.args.hall.now in
    let mid = g.H.Hall.state c.waiting.hall in
    let late = g.H.Hall.state c.now-reading.new.self in
    let new = g.H.Hall.state c.turn.new.hall in
    let here = ap (λ (party : Party). party.me) c.self.view_is in
    let clock = read.stays.others.clock in
    let looked = in_others c.waiting.self here read.stays.slots read.stays.mine read.stays.others.later (in_tied was.stays) in
    let so_far = in_then was.stays looked in
    let answer = err_from_is_err_and c.from_residual.result c.from_residual.ensures.1 in
    let before = was.measure in
    let lighter = read.measure in
    let stopped = c.in_err-turn.ensures.err in
    let until = ap (λ (at : ℕ). g.H.Hall.pending at c.args.until) clock in
    let own = own_measure_still g.H.Hall.scale g.H.Hall.pending mid.clock late.clock c.waiting.self.core clock in
    record {
      turned = (
        was.turned.1 ++ (Notes (Read c.now-reading.result) ∷ one.0),
        did_then was.turned.2
            (did_then (in_did was.stays (subst (λ (who : ℕ). Did who (Notes (Read c.now-reading.result) ∷ []) mid late) here read.did))
            (in_did so_far one.1)),
        IsWaited.stops was.turned.0 c.now-reading.result c.waiting.self was.turned.1 one.0 was.turned.3
            (c.ends_wait-over.ensures.waits_on c.if-over.false)
            (subst (λ (n : ℕ). IsTurned (g.J.Judge.denies c.args.judge.now) n c.args.until c.waiting.self c.turn.new.self one.0 None)
            so_far.waits.later.count one.2) refl
            (ap result_ok answer.1),
      );
      waited = λ unheeding. if_no_ok c.from_residual.result _ _ answer.1;
      reading = if_no_ok c.from_residual.result _ _ answer.1;
      clock = clock_still c.args.until old.clock mid.clock new.clock (c.in_err-turn.ensures.stands ∙ clock) was.clock;
      measure = omega (arith, before, lighter, stopped, until, own);
      stays = in_then so_far is.stays;
      asks = asked_then c.args.self.now c.waiting.self c.turn.new.self
          (asked_turns (g.J.Judge.denies c.args.judge.now) old.count c.args.until c.args.heeds was.turned.0 c.args.self.now
          c.waiting.self was.turned.1 was.turned.3) is.asks;
      goes_on = g.met.H.Hall.goes_on_then _ _ _ was.goes_on (g.met.H.Hall.goes_on_then _ _ _ read.goes_on is.goes_on);
    }
