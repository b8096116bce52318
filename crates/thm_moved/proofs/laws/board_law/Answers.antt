use Rattle.thm_moved.proofs.HomeAtBoard.{end_at_board, home_at_board}
use Rattle.thm_moved.proofs.laws.board_law.Goals as goal

pub returns-clause-home : goal.returns-clause-home
returns-clause-home c = home_at_board

pub returns-clause-end : goal.returns-clause-end
returns-clause-end c = end_at_board
