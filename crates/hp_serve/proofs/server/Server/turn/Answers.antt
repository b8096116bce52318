-- All serve, and the turn ends with a pause.
use Rattle.std.proofs.Common.{◌≡◌, ◌∙◌, ℕ, ◌++◌, refl, ap, sym, arith}
use Rattle.std.specs.Result.{result_ok}
use Rattle.std.proofs.lemmas.Result.{err_from_is_err_and}
use Rattle.hp_hall.proofs.HallStates.{did_then}
use Rattle.hp_serve.specs.Party.{due_in}
use Rattle.hp_serve.specs.Waiting.{IsTurned}
use Rattle.hp_serve.proofs.AskingFacts.AskedLemmas.{asked_have_served}
use Rattle.hp_serve.proofs.Carrying.{stop_differs}
use Rattle.hp_serve.proofs.InHalls.{in_did, in_may, in_then, in_tied, in_waits}
use Rattle.hp_serve.proofs.Waits.{no_ok, on_err, pause_since, turn_pays}
use Rattle.hp_serve.proofs.server.Server.turn.Goals as goal

pub serve_all-requires : goal.serve_all-requires
serve_all-requires g c = record { may_ask = c.requires.may_ask; can = c.requires.can }

pub end_turn-requires : goal.end_turn-requires
end_turn-requires g c = record {
  serves = (in_may c.serve_all.ensures.stays c.requires.can.may).serves;
  before = ap (λ (at : ℕ). g.H.Hall.pending at c.args.until) c.serve_all.ensures.clock ∙ c.requires.before;
}

-- SOMEBODY STOPPED

pub returns-in_err-moved : goal.returns-in_err-moved
returns-in_err-moved g c =
    let stopped = err_from_is_err_and c.from_residual.result c.from_residual.ensures.1 in
    let served = c.in_err-moved.ensures.served in
    let is = c.serve_all.ensures in
    let lighter = is.measure in
    let until = ap (λ (at : ℕ). g.H.Hall.pending at c.args.until) is.clock in
    record {
      turned = (served.0, served.1, IsTurned.stops served.2 (ap result_ok stopped.1));
      falls = no_ok c.from_residual.result _ _ stopped.1;
      err = on_err c.from_residual.result _ (omega (arith, lighter, until));
      paused = no_ok c.from_residual.result _ _ stopped.1;
      stands = on_err c.from_residual.result _ is.clock;
      rests = λ ok. absurd (stop_differs c.from_residual.result (ap result_ok stopped.1) ok);
      stays = is.stays;
      asks = asked_have_served (g.H.Hall.state c.args.hall.now).count c.args.self.now c.serve_all.new.self is.served.0
          (result_ok c.serve_all.result) is.served.2;
      goes_on = is.goes_on;
    }

-- THE TURN CAME TO ITS END

pub returns-clause-turned : goal.returns-clause-turned
returns-clause-turned g c =
    let served = c.in_ok-moved.ensures.served in
    let paused = c.end_turn.ensures.did in (
      served.0 ++ paused.0,
      did_then served.1 (in_did c.serve_all.ensures.stays paused.1),
      IsTurned.ends c.in_ok-moved.moved served.0 paused.0 served.2 paused.2 refl refl,
    )

pub returns-clause-falls : goal.returns-clause-falls
returns-clause-falls g c =
    let served = c.serve_all.ensures.measure in
    let until = ap (λ (at : ℕ). g.H.Hall.pending at c.args.until) c.serve_all.ensures.clock in
    let paused = c.end_turn.ensures.falls in
    let paid = turn_pays g.H.Hall.scale c.serve_all.result c.in_ok-moved.moved c.in_ok-moved.was in
    omega (arith, served, until, paused, paid)

pub returns-clause-paused : goal.returns-clause-paused
returns-clause-paused g c =
    pause_since (λ at deadline. g.H.Hall.pending at deadline ≡ g.H.Hall.scale) c.args.until (due_in c.serve_all.new.self.core)
    (g.H.Hall.state c.args.hall.now).clock (g.H.Hall.state c.serve_all.new.hall).clock (g.H.Hall.state c.end_turn.new.hall).clock
    c.serve_all.ensures.clock c.end_turn.ensures.paused

pub returns-clause-rests : goal.returns-clause-rests
returns-clause-rests g c = λ is deadline due early.
    ap (λ (at : ℕ). g.H.Hall.pending at deadline) (sym c.serve_all.ensures.clock)
    ∙ c.serve_all.ensures.rests (c.in_ok-moved.was ∙ is) deadline due early

pub returns-clause-stays : goal.returns-clause-stays
returns-clause-stays g c =
    let served = c.serve_all.ensures.stays in
    in_then served (in_waits c.serve_all.new.self c.end_turn.ensures.waits c.end_turn.ensures.own (in_tied served))

pub returns-clause-asks : goal.returns-clause-asks
returns-clause-asks g c =
    let served = c.serve_all.ensures.served in
    asked_have_served (g.H.Hall.state c.args.hall.now).count c.args.self.now c.serve_all.new.self served.0 (result_ok c.serve_all.result) served.2

pub returns-clause-goes_on : goal.returns-clause-goes_on
returns-clause-goes_on g c = g.met.H.Hall.goes_on_then _ _ _ c.serve_all.ensures.goes_on c.end_turn.ensures.goes_on
