-- All serve, and the turn ends with a pause.
use Rattle.std.proofs.Common.{◌≡◌, ◌∙◌, ℕ, ◌++◌, refl, ap, arith}
use Rattle.hp_hall.proofs.HallStates.{did_then}
use Rattle.hp_serve.specs.Party.{due_in}
use Rattle.hp_serve.proofs.InHalls.{in_did, in_may, in_then, in_tied, in_waits}
use Rattle.hp_serve.proofs.Waits.{pause_since, paid}
use Rattle.hp_serve.proofs.server.Server.turn_on.Goals as goal

pub serve_on-moved-requires : goal.serve_on-moved-requires
serve_on-moved-requires g c = record { may_ask = c.requires.may_ask; can = c.requires.can }

pub end_turn-requires : goal.end_turn-requires
end_turn-requires g c = record {
  serves = (in_may c.serve_on-moved.ensures.stays c.requires.can.may).serves;
  before = ap (λ (at : ℕ). g.H.Hall.pending at c.args.until) c.serve_on-moved.ensures.clock ∙ c.requires.before;
}

pub returns : goal.returns
returns g c =
    let served = c.serve_on-moved.ensures.measure in
    let until = ap (λ (at : ℕ). g.H.Hall.pending at c.args.until) c.serve_on-moved.ensures.clock in
    let paused = c.end_turn.ensures.falls in
    let uses = paid g.H.Hall.scale c.serve_on-moved.result in
    let so_far = c.serve_on-moved.ensures.stays in
    let one = c.serve_on-moved.ensures.served in
    let pause = c.end_turn.ensures.did in
    record {
      turned = (
        one.0 ++ pause.0,
        did_then one.1 (in_did so_far pause.1),
        record {
          moved = c.serve_on-moved.result;
          served = one.0;
          paused = pause.0;
          all = one.2;
          pause = pause.2;
          are = refl;
        },
      );
      falls = omega (arith, served, until, paused, uses);
      paused = pause_since (λ at deadline. g.H.Hall.pending at deadline ≡ g.H.Hall.scale) c.args.until (due_in c.serve_on-moved.new.self.core)
          (g.H.Hall.state c.args.hall.now).clock (g.H.Hall.state c.serve_on-moved.new.hall).clock (g.H.Hall.state c.end_turn.new.hall).clock
          c.serve_on-moved.ensures.clock c.end_turn.ensures.paused;
      asks = c.serve_on-moved.ensures.asks;
      stays = in_then so_far (in_waits c.serve_on-moved.new.self c.end_turn.ensures.waits c.end_turn.ensures.own (in_tied so_far));
      goes_on = g.met.H.Hall.goes_on_then _ _ _ c.serve_on-moved.ensures.goes_on c.end_turn.ensures.goes_on;
    }
