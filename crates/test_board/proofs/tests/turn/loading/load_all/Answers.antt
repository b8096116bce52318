use Rattle.std.proofs.Common.{refl, ap, ◌∙◌, arith, length-set}
use Rattle.hp_board.specs.Views.{own_of}
use Rattle.hp_board.specs.declared.view.Mine.{Mine}
use Rattle.test_board.proofs.PlayLemmas.{come_none, come_three, loaded_noted, loads_one, nothing_loaded}
use Rattle.test_board.proofs.tests.turn.loading.load_all.Goals as goal

pub loop-participant-init : goal.loop-participant-init
loop-participant-init c = record {
  board = refl;
  comes = come_none c.args.seat.now.mine;
  own = refl;
  places = refl;
  noted = nothing_loaded 16 c.args.seat.now.mine;
}

pub load_ack-requires-clause-declared : goal.load_ack-requires-clause-declared
load_ack-requires-clause-declared c =
    let three = c.requires.three in
    let same = come_three c.args.seat.now.mine c.loop-participant.seat.mine c.loop-participant.invariant.comes in
    let low = c.loop-participant-test.true in
    omega (arith, three, same, low)

pub loop-participant-preserved : goal.loop-participant-preserved
loop-participant-preserved c =
    let is = c.loop-participant.invariant in
    let low = c.loop-participant-test.true in
    let places = is.places in
    record {
      board = c.load_ack.ensures.board ∙ is.board;
      comes = loads_one c.args.seat.now.mine c.loop-participant.seat.mine c.load_ack.new.seat.mine c.loop-participant.participant c.load_ack.result is.comes c.load_ack.ensures.loaded;
      own = ap (λ (m : Mine). own_of m) c.load_ack.ensures.loaded ∙ is.own;
      places = length-set c.loop-participant.acks c.loop-participant.participant c.load_ack.result ∙ places;
      noted = loaded_noted c.loop-participant.seat.mine c.load_ack.new.seat.mine c.loop-participant.acks c.loop-participant.participant c.load_ack.result
          (omega (arith, low, places)) c.load_ack.ensures.own c.load_ack.ensures.loaded is.noted;
    }
