-- The heap is in the hand of the first, and goes on by one call.
use Rattle.std.proofs.Common.{subst}
use Rattle.hp_hall.specs.HallCalls.{HasTaken}
use Rattle.hp_hall.specs.declared.kept.Kept.{Kept}
use Rattle.hp_hall.specs.declared.kept.Kept.TheVariants.{Heap}
use Rattle.test_board.proofs.Telling.{is_first, may_publish}
use Rattle.test_board.proofs.tests.chair.telling.heap_told.Goals as goal

pub into_heap-heap-requires : goal.into_heap-heap-requires
into_heap-heap-requires g c = record { heap = is_first c.take.result c.take.ensures.took.fits }

pub publish-requires-clause-may : goal.publish-requires-clause-may
publish-requires-clause-may g c =
    let old = g.H.Hall.state c.args.first.now in
    let mid = g.H.Hall.state c.take.new.self in
    let taken = c.into_heap-heap.result.0 in
    let pen = c.into_heap-heap.result.1 in
    let took : HasTaken 0 0 (Heap taken pen) old mid =
    subst (λ (kept : Kept). HasTaken 0 0 kept old mid) c.into_heap-heap.ensures c.take.ensures.took in
    may_publish 0 old mid taken c.called.new.heap pen took c.in_ok-_stats.ensures
