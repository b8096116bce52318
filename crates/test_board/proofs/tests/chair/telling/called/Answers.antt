use Rattle.test_board.proofs.Telling.{gone_on}
use Rattle.test_board.proofs.tests.chair.telling.called.Goals as goal

pub returns : goal.returns
returns c = gone_on _ _ c.args.heap.now c.reserve.new.self c.stats-stats.new.self c.reserve.ensures.same c.stats-stats.ensures
