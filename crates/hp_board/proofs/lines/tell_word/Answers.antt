use Rattle.std.proofs.Common.{ap, ◌+◌, ℕ, arith}
use mathlib.Core.Option.{none}
use Rattle.hp_board.proofs.StepsOfSeats.DoneSteps.{tells}
use Rattle.hp_board.proofs.lines.tell_word.Goals as goal

pub store-requires : goal.store-requires
store-requires c = (
  c.requires.table,
  omega arith,
  tells _ _ _ _ _ _ none c.requires.one (ap (λ (n : ℕ). 50 + n) c.requires.who.0) (omega arith)
      (let rises = c.requires.rises in let same = c.from.ensures in omega (arith, rises, same)),
)
