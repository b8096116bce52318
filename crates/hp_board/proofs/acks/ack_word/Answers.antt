use Rattle.std.proofs.Common.{ap, ◌+◌, ℕ, arith}
use mathlib.Core.Option.{none}
use Rattle.hp_board.proofs.StepsOfSeats.AckSteps.{acks}
use Rattle.hp_board.proofs.acks.ack_word.Goals as goal

pub store-requires : goal.store-requires
store-requires c = (
  c.requires.table,
  omega arith,
  acks _ _ _ _ _ _ none c.requires.one (ap (λ (n : ℕ). 34 + n) c.requires.who.0) c.requires.hand c.requires.rises c.requires.seen,
)
