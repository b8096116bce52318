-- No list has a number yet.
use Rattle.hp_segs.proofs.SlotFacts.NumberLemmas.{none_numbered}
use Rattle.hp_segs.proofs.table.lists.Lists.new.Goals as goal

pub invariant_of-result : goal.invariant_of-result
invariant_of-result c = rw (c.new-2.ensures.items, c.in_ok-numbers.ensures.ok) none_numbered
