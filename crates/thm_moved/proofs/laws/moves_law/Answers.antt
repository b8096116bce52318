use Rattle.thm_moved.proofs.HeapsAdded.{adds_by_moves}
use Rattle.thm_moved.proofs.HeldByMoves.{held_by_moves}
use Rattle.thm_moved.proofs.MovesWithin.{calls_within}
use Rattle.thm_moved.proofs.laws.moves_law.Goals as goal

pub returns-clause-held : goal.returns-clause-held
returns-clause-held c = held_by_moves

pub returns-clause-adds : goal.returns-clause-adds
returns-clause-adds c = adds_by_moves

pub returns-clause-within : goal.returns-clause-within
returns-clause-within c = calls_within
