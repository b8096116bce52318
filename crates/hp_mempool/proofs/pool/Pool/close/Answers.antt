use Rattle.std.proofs.Common.{◌≡◌, ◌^◌, ℕ, [], sym, ap, subst, ◌∙◌}
use Rattle.crossbeam_queue.specs.Passes.{view}
use Rattle.hp_mempool.specs.declared.view.View.{View}
use Rattle.hp_mempool.specs.PassView.{PassView, PoolView}
use Rattle.hp_mempool.specs.Views.{Refills, once_below}
use Rattle.hp_mempool.proofs.Counts.{as_long}
use Rattle.hp_mempool.proofs.TakeLemmas.{took_all}
use Rattle.hp_mempool.proofs.pool.Pool.close.Goals as goal

pub returns-clause-each : goal.returns-clause-each
returns-clause-each g c = λ number.
    let v : View = view c.pass.inside.token in
    let total : v.total ≡ c.args.self.count = ap (λ (p : PassView). p.total) c.pass.view_is ∙ c.requires.pool.total_is in
    let all = c.capacity-all.ensures ∙ (ap (λ (p : PoolView). p.count) c.self.view_is ∙ sym total) in
    let refills = subst (λ (n : ℕ). Refills n v (view c.refill.new.token) c.refill.new.cache.items) all c.refill.ensures.refilled in
    let none : v.has ≡ [] = ap (λ (p : PassView). p.has) c.pass.view_is ∙ c.requires.none in
    let whole = subst (λ (p : PassView). p.part ≡ 2 ^ p.halvings) (sym c.pass.view_is) c.requires.only in
    took_all v (view c.refill.new.token) c.refill.new.cache.items none c.pass.invariant.some whole refills number
    ∙ ap (λ (n : ℕ). once_below n number) total

pub returns-clause-count : goal.returns-clause-count
returns-clause-count g c = as_long c.args.self.count c.refill.new.cache.items (returns-clause-each g c)
