use Rattle.std.proofs.Common.{refl, ap, subst, ◌∙◌}
use Rattle.crossbeam_queue.specs.Passes.{view}
use Rattle.hp_mempool.specs.declared.pool_pass.PoolPass.TheInside.{Inside}
use Rattle.hp_mempool.specs.PassInside.{pass_view}
use Rattle.hp_mempool.specs.PassView.{Gets, PassView}
use Rattle.hp_mempool.proofs.PassLemmas.{gets_queued}
use Rattle.hp_mempool.proofs.TakeLemmas.{took_one}
use Rattle.hp_mempool.proofs.pool.Pool.queued.Goals as goal

pub returns-clause-got : goal.returns-clause-got
returns-clause-got g c =
    let old : Inside = c.pass.inside in
    let new : Inside = record { places = old.places; cache = c.refill.new.cache; token = c.refill.new.token } in
    let x = c.in_ok-number.number in
    let got = c.in_ok-number.ensures in
    let empty = ap (λ (p : PassView). p.cached) c.pass.view_is ∙ c.requires.empty in
    let took = took_one (view old.token) (view c.get_number.new.token) (view new.token) x new.cache.items c.pass.invariant.once got.some.0 got.some.1
    c.refill.ensures.refilled.takes in
    subst (λ (p : PassView). Gets p (pass_view new) x) c.pass.view_is
    (gets_queued old new (view c.get_number.new.token) x empty refl (c.refill.ensures.queue.0 ∙ got.queue.0) took c.refill.ensures.refilled)
