use Rattle.std.proofs.Common.{◌≡◌, subst}
use Rattle.std.specs.Prelude.{IfNone, IfSome}
use Rattle.hp_ring.specs.declared.take_pass.TakePass.TheInside.{Inside}
use Rattle.hp_ring.specs.PassInside.{take_view}
use Rattle.hp_ring.specs.PassViews.{TakeView, WasEmpty, after_take}
use Rattle.hp_ring.proofs.PassLemmas.{took_is, took_none}
use Rattle.hp_ring.proofs.ring.Ring.take.Goals as goal

pub returns-clause-some : goal.returns-clause-some
returns-clause-some g c =
    let old : Inside = c.pass.inside in
    let new : Inside = record { token = c.take.new.token } in
    subst (λ (p : TakeView). IfSome c.take.result (λ bulk. take_view new ≡ after_take bulk p)) c.pass.view_is
    (took_is old new c.take.result c.take.ensures.queue.0 c.take.ensures.some)

pub returns-clause-none : goal.returns-clause-none
returns-clause-none g c =
    let old : Inside = c.pass.inside in
    let new : Inside = record { token = c.take.new.token } in
    subst (λ (p : TakeView). IfNone c.take.result ((take_view new ≡ p) × WasEmpty p)) c.pass.view_is
    (took_none old new c.take.result c.take.ensures.queue.0 c.take.ensures.none)
