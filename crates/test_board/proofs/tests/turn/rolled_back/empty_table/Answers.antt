use Rattle.std.proofs.Common.{refl, lit≤}
use Rattle.test_board.proofs.ThreeOpened.{table_ok}
use Rattle.test_board.proofs.tests.turn.rolled_back.empty_table.Goals as goal

pub returns : goal.returns
returns c = table_ok c.new-2.result _ c.new-2.ensures (record { rows = refl; number = refl; room = lit≤ tt })
