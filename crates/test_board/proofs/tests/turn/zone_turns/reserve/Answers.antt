use Rattle.test_board.proofs.tests.turn.zone_turns.reserve.Goals as goal

pub loop-init : goal.loop-init
loop-init g c = c.requires.free
