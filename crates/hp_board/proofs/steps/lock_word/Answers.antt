use Rattle.std.proofs.Common.{rules, ap, ◌+◌, ◌∙◌, ℕ}
use mathlib.Core.Option.{none}
use Rattle.hp_board.proofs.StepsOfSeats.TrySteps.{tries}
use Rattle.hp_board.proofs.steps.lock_word.Goals as goal

pub compare_exchange-found-requires : goal.compare_exchange-found-requires
compare_exchange-found-requires c =
    (c.requires.table, search rules, tries _ _ _ _ _ (c.from.result + 1) none c.requires.slots.0 c.requires.one (ap (λ (n : ℕ). n + 1) (c.from.ensures ∙ c.requires.who)))
