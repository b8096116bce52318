use Rattle.std.proofs.Common.{◌≡◌, sym, subst}
use Rattle.crossbeam_queue.specs.Fifo.{Pushes}
use Rattle.crossbeam_queue.specs.Passes.{ruled_capacity}
use Rattle.hp_mempool.specs.declared.view.View.{View}
use Rattle.hp_mempool.specs.PoolRule.{HaveEachOnce}
use Rattle.hp_mempool.specs.Views.{after_fill}
use Rattle.hp_mempool.proofs.PoolSteps.{may_fill}
use Rattle.hp_mempool.proofs.filling.fill.Goals as goal

pub try_push_as-requires-clause-rule : goal.try_push_as-requires-clause-rule
try_push_as-requires-clause-rule c =
    let room = ruled_capacity c.args.queue.now in
    let id = c.loop-number.first.id in
    subst (λ (v : View). Pushes HaveEachOnce room id v c.loop-number.number (λ w. w ≡ after_fill v)) (sym c.loop-number.invariant.filled)
    (may_fill id room c.loop-number.number)
