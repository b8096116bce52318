use Rattle.std.proofs.Common.{◌≡◌, length}
use Rattle.hp_elem.specs.Tags.{number_at}
use Rattle.hp_elem.proofs.FindLemmas.{IsFilling}
use Rattle.hp_elem.proofs.tags.Tags.of_chain.Given as goal

abbrev pub invariant-loop-step : goal.invariant-loop-step
invariant-loop-step l = IsFilling l.chain.items (number_at l.tags) l.next l._step × (length l.tags ≡ l.chain.key_end)
