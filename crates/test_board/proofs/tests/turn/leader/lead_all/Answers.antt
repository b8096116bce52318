use Rattle.std.proofs.Common.{ap, ◌∙◌}
use Rattle.hp_board.specs.Views.{without}
use Rattle.test_board.proofs.tests.turn.leader.lead_all.Goals as goal

pub loop-init : goal.loop-init
loop-init g c = record { playing = c.requires.playing; first = c.requires.first; held = c.requires.free }

pub loop-preserved : goal.loop-preserved
loop-preserved g c =
    let turned = c.lead-next.ensures.turned in
    record {
      playing = c.lead-next.ensures.playing;
      first = turned.who ∙ c.loop.invariant.first;
      held = turned.held ∙ ap (without 32) c.loop.invariant.held;
    }

pub returns-then-is_end : goal.returns-then-is_end
returns-then-is_end g c =
    let turned = c.lead-next.ensures.turned in
    let playing = c.lead-next.ensures.playing in
    record {
      back = record {
        board_is = playing.board_is;
        three = playing.three;
        who_is = turned.who ∙ c.loop.invariant.first;
        held = turned.held ∙ ap (without 32) c.loop.invariant.held;
      };
    }
