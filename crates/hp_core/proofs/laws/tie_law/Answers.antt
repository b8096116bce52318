-- The laws are lemmas.
use Rattle.hp_core.proofs.TieLemmas.{moves_tie, none_is_gone}
use Rattle.hp_core.proofs.TieSteps.{steps_tie}
use Rattle.hp_core.proofs.laws.tie_law.Goals as goal

pub returns : goal.returns
returns c = record { steps = steps_tie; moves = moves_tie; none_gone = none_is_gone }
