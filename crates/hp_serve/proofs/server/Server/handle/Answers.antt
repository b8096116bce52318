-- What an event brings pays for what its step answers.
use Rattle.std.proofs.Common.{◌∙◌, ◌++◌, ap, sym, subst, arith}
use Rattle.hp_core.specs.Core.{Core}
use Rattle.std.specs.Prelude.{Bool, Some, is_ok}
use Rattle.std.proofs.lemmas.Result.{err_from_is_err_and}
use Rattle.hp_serve.specs.Coordinating.{IsHandled}
use Rattle.hp_serve.specs.Falling.{own_measure}
use Rattle.hp_serve.proofs.Carrying.{handled_on, handled_stop, hands_due, hands_spoken, hands_weigh, on_ok}
use Rattle.hp_serve.proofs.Scaled.{handed_still, own_measure_still}
use Rattle.hp_hall.proofs.HallStates.{did_then}
use Rattle.hp_serve.proofs.InHalls.{alone_then, coordinates_on}
use Rattle.hp_serve.proofs.server.Server.handle.Goals as goal

pub carry-requires-clause-can : goal.carry-requires-clause-can
carry-requires-clause-can g c = coordinates_on c.hand_event.ensures.alone c.requires.can

pub returns-clause-alone : goal.returns-clause-alone
returns-clause-alone g c = alone_then c.hand_event.ensures.alone c.carry.ensures.alone

pub carry-requires-clause-spoken : goal.carry-requires-clause-spoken
carry-requires-clause-spoken g c =
    let hands = c.in_ok-answer.ensures.hands in
    hands_spoken c.args.event hands.0 hands.1 hands.2 c.in_ok-answer.answer hands.6

pub returns-clause-handled : goal.returns-clause-handled
returns-clause-handled g c =
    let hands = c.in_ok-answer.ensures.hands in
    let carried = c.carry.ensures.carried in (
      hands.2 ++ carried.1,
      did_then hands.5 carried.2,
      handled_on (g.H.Hall.state c.args.hall.now).count (g.H.Hall.state c.hand_event.new.hall).count c.args.event c.args.self.now c.hand_event.new.self
          c.carry.new.self hands.0 hands.1 c.in_ok-answer.answer carried.0 hands.2 carried.1 _ c.hand_event.ensures.alone.others.later.count hands.3 hands.4 hands.6 carried.3,
    )

pub returns-clause-measure : goal.returns-clause-measure
returns-clause-measure g c =
    let hands = c.in_ok-answer.ensures.hands in
    let stepped =
    hands_weigh g.H.Hall.scale g.H.Hall.pending g.met.H.Hall.pending_most (g.H.Hall.state c.args.hall.now).clock (g.H.Hall.state c.hand_event.new.hall).clock
    c.hand_event.ensures.alone.others.clock c.args.event hands.0 hands.1 hands.2 c.in_ok-answer.answer hands.6 c.args.self.now.core c.hand_event.new.self.core
    hands.3 (ap (λ party. party.core) hands.4)
    in
    let measure = c.hand_event.ensures.measure in
    let carried = c.carry.ensures.measure in
    omega (arith, stepped, measure, carried)

pub returns-clause-due : goal.returns-clause-due
returns-clause-due g c = λ due.
    let hands = c.in_ok-answer.ensures.hands in
    let stepped =
    hands_due g.H.Hall.scale g.H.Hall.pending g.met.H.Hall.pending_most (g.H.Hall.state c.args.hall.now).clock (g.H.Hall.state c.hand_event.new.hall).clock
    c.hand_event.ensures.alone.others.clock c.args.event hands.0 hands.1 hands.2 c.in_ok-answer.answer hands.6 c.args.self.now.core c.hand_event.new.self.core
    hands.3 (ap (λ party. party.core) hands.4) due
    in
    let measure = c.hand_event.ensures.measure in
    let carried = c.carry.ensures.measure in
    on_ok c.carry.result _ (omega (arith, stepped, measure, carried))

pub returns-in_err-answer-clause-handled : goal.returns-in_err-answer-clause-handled
returns-in_err-answer-clause-handled g c =
    let hands = c.in_err-answer.ensures.hands in
    let stopped = err_from_is_err_and c.from_residual.result c.from_residual.ensures.1 in (
      hands.2,
      hands.5,
      subst (λ (goes : Bool). IsHandled (g.J.Judge.denies c.args.judge.now)
          (g.H.Hall.state c.args.hall.now).count c.args.event c.args.self.now c.hand_event.new.self hands.2 goes)
          (sym (ap is_ok stopped.1))
          (handled_stop (g.H.Hall.state c.args.hall.now).count c.args.event c.args.self.now c.hand_event.new.self hands.0 hands.1 hands.2 hands.3 hands.4 hands.6),
    )

pub returns-in_err-answer-clause-measure : goal.returns-in_err-answer-clause-measure
returns-in_err-answer-clause-measure g c =
    let hands = c.in_err-answer.ensures.hands in
    let same = handed_still c.args.event hands.0 hands.1 hands.6.taken hands.6.more hands.6.is_handed in
    let core = ap (λ party. party.core) hands.4 ∙ ap (λ (core : Core). Some core) same ∙ sym hands.3 in
    let own = ap (own_measure g.H.Hall.scale (g.H.Hall.pending (g.H.Hall.state c.hand_event.new.hall).clock)) core in
    let clock =
    own_measure_still g.H.Hall.scale g.H.Hall.pending (g.H.Hall.state c.args.hall.now).clock (g.H.Hall.state c.hand_event.new.hall).clock c.args.self.now.core
    c.hand_event.ensures.alone.others.clock
    in
    let measure = c.hand_event.ensures.measure in
    omega (arith, own, clock, measure)

pub returns-clause-goes_on : goal.returns-clause-goes_on
returns-clause-goes_on g c = g.met.H.Hall.goes_on_then _ _ _ c.hand_event.ensures.goes_on c.carry.ensures.goes_on
