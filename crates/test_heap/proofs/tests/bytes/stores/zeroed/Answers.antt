-- The heap's pages lie in the store, and still do after an allocation.
use Rattle.std.proofs.Common.{◌∙◌}
use Rattle.hp_bytes.proofs.OpeningLemmas.{grown_lies, zeros_base, zeros_long}
use Rattle.test_heap.proofs.tests.bytes.stores.zeroed.Goals as goal

pub zalloc-first-requires-clause-inside : goal.zalloc-first-requires-clause-inside
zalloc-first-requires-clause-inside c =
    grown_lies _ _ (c.in_ok-reserve.ensures.same.plain ∙ c.in_ok-heap.ensures) (zeros_base _ 0x100000000 0x800000 c.in-Ok.ensures.zeros)
    (zeros_long _ 0x100000000 0x800000 c.in-Ok.ensures.zeros)

pub zalloc-second-requires-clause-inside : goal.zalloc-second-requires-clause-inside
zalloc-second-requires-clause-inside c = c.zalloc-first.ensures.inside
