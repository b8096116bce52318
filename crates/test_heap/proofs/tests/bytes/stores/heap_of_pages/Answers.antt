-- The pages of the session come to an empty heap.
use Rattle.std.proofs.Common.{ap, ◌∙◌}
use Rattle.hp_heap.specs.Growing.{after_grow}
use Rattle.hp_heap.specs.Step.{after}
use Rattle.hp_bytes.specs.PlainSession.{session_run}
use Rattle.test_heap.proofs.tests.bytes.stores.heap_of_pages.Goals as goal

pub returns : goal.returns
unfolding after
returns c = c.add_run.ensures.heap ∙ ap (after_grow session_run) (c.in_ok-reserve.ensures.same.plain ∙ c.socket-heap.ensures.plain)
