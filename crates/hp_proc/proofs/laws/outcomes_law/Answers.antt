use Rattle.hp_proc.proofs.InTurn.{answers_in_turn}
use Rattle.hp_proc.proofs.laws.outcomes_law.Goals as goal

pub returns : goal.returns
returns c = answers_in_turn
