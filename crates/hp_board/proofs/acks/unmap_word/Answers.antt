use Rattle.std.proofs.Common.{arith}
use mathlib.Core.Option.{none}
use Rattle.hp_board.proofs.StepsOfSeats.AckSteps.{unmaps}
use Rattle.hp_board.proofs.acks.unmap_word.Goals as goal

pub load-requires : goal.load-requires
load-requires c = (c.requires.table, omega arith, unmaps _ _ _ _ _ none c.requires.one (omega arith))
