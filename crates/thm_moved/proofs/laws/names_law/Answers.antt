use Rattle.thm_moved.proofs.NamesAtBoard.{names_changed_at_board, names_handed_at_board}
use Rattle.thm_moved.proofs.NamesLeftAtBoard.{names_left_at_board}
use Rattle.thm_moved.proofs.laws.names_law.Goals as goal

pub returns-clause-handed : goal.returns-clause-handed
returns-clause-handed c = names_handed_at_board

pub returns-clause-changed : goal.returns-clause-changed
returns-clause-changed c = names_changed_at_board

pub returns-clause-left : goal.returns-clause-left
returns-clause-left c = names_left_at_board
