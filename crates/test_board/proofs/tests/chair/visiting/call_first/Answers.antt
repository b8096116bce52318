-- The heap is in its hand, and goes on by one call.
use Rattle.std.proofs.Common.{refl, subst}
use Rattle.hp_heap.specs.declared.entry.HeapAnswer.TheVariants as gives
use Rattle.hp_hall.specs.HallCalls.{HasTaken}
use Rattle.hp_hall.specs.declared.kept.Kept.{Kept}
use Rattle.hp_hall.specs.declared.kept.Kept.TheVariants.{Heap}
use Rattle.test_board.proofs.Telling.{is_first}
use Rattle.test_board.proofs.Visits.{idle_again, may_give_called}
use Rattle.test_board.proofs.tests.chair.visiting.call_first.Goals as goal

pub into_heap-heap-requires : goal.into_heap-heap-requires
into_heap-heap-requires g c = record { heap = is_first c.take.result c.take.ensures.took.fits }

pub publish_and_give-requires : goal.publish_and_give-requires
publish_and_give-requires g c =
    let old = g.H.Hall.state c.args.hall.now in
    let mid = g.H.Hall.state c.take.new.self in
    let taken = c.into_heap-heap.result.0 in
    let pen = c.into_heap-heap.result.1 in
    let took : HasTaken 0 0 (Heap taken pen) old mid =
    subst (λ (kept : Kept). HasTaken 0 0 kept old mid) c.into_heap-heap.ensures c.take.ensures.took in
    record {
      serves = c.take.ensures.others.later.serves 0 c.requires.idle.serves;
      gives = may_give_called 0 old mid taken c.reserve.new.self c.stats-stats.new.self pen (gives.Statistics c.stats-stats.result) took
          c.requires.untouched c.reserve.ensures.same refl c.stats-stats.ensures;
    }

pub returns-clause-idle : goal.returns-clause-idle
returns-clause-idle g c =
    idle_again 0 0 (g.H.Hall.state c.args.hall.now) (g.H.Hall.state c.take.new.self) (g.H.Hall.state c.publish_and_give.new.hall) c.requires.idle
    c.take.ensures.slots c.take.ensures.others.later c.publish_and_give.ensures.slots c.publish_and_give.ensures.later
    c.publish_and_give.ensures.free
