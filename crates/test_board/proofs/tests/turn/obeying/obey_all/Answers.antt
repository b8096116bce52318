use Rattle.std.proofs.Common.{ap, refl, ◌∙◌}
use Rattle.hp_board.specs.Views.{without}
use Rattle.test_board.proofs.tests.turn.obeying.obey_all.Goals as goal

pub loop-init : goal.loop-init
loop-init g c = record { playing = c.requires.playing; who = refl; held = c.requires.free }

pub loop-preserved : goal.loop-preserved
loop-preserved g c =
    let turned = c.obey-looked.ensures.turned in
    record {
      playing = c.obey-looked.ensures.playing;
      who = turned.who ∙ c.loop.invariant.who;
      held = turned.held ∙ ap (without 32) c.loop.invariant.held;
    }

pub returns-then-has_taken_in : goal.returns-then-has_taken_in
returns-then-has_taken_in g c =
    let turned = c.obey-looked.ensures.turned in
    let playing = c.obey-looked.ensures.playing in
    record {
      back = record {
        board_is = playing.board_is;
        three = playing.three;
        who_is = turned.who ∙ c.loop.invariant.who;
        held = turned.held ∙ ap (without 32) c.loop.invariant.held;
      };
    }
