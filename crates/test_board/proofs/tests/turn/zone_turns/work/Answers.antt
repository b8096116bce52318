use Rattle.test_board.proofs.ZoneLemmas.{free_back}
use Rattle.test_board.proofs.tests.turn.zone_turns.work.Goals as goal

pub returns : goal.returns
returns g c = record { back = free_back c.args.board.now.id c.args.who c.loop.made c.loop.seat c.loop.invariant.free }
