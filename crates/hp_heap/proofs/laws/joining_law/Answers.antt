use Rattle.hp_heap.proofs.CutFacts.Stretches.{takes_below, takes_above}
use Rattle.hp_heap.proofs.laws.joining_law.Goals as goal

pub returns : goal.returns
returns c = λ range below above below_apart above_apart. record { below = takes_below range below below_apart; above = takes_above range above above_apart }
