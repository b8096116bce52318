use Rattle.std.proofs.Common.{subst}
use Rattle.crossbeam_queue.specs.Passes.{view}
use Rattle.hp_ring.specs.PassInside.{take_view}
use Rattle.hp_ring.specs.PassViews.{SendView, TakeView, WasInOrder}
use Rattle.hp_ring.specs.Views.{sender_of}
use Rattle.hp_ring.proofs.PassLemmas.{met}
use Rattle.hp_ring.proofs.ring.Ring.meet.Goals as goal

pub returns-clause-in_order : goal.returns-clause-in_order
returns-clause-in_order c =
    subst (λ (p : TakeView). WasInOrder p c.args.sender.now) c.taker.view_is
    (subst (λ (p : SendView). WasInOrder (take_view c.taker.inside) p) c.sender.view_is
    (met (sender_of (view c.sender.inside.token)) (view c.taker.inside.token) c.taker.invariant.takes c.compare.ensures.shown))
