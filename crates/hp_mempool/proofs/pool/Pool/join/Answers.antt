use Rattle.std.proofs.Common.{◌≡◌, ◌≤◌, ℕ, [], sym, ap, subst, ◌∙◌, arith}
use Rattle.crossbeam_queue.specs.Passes.{view}
use Rattle.hp_mempool.specs.declared.view.View.{View}
use Rattle.hp_mempool.specs.PassView.{PassView}
use Rattle.hp_mempool.specs.Views.{once_below, times}
use Rattle.hp_mempool.proofs.Counts.{times-append}
use Rattle.hp_mempool.proofs.PartSteps.{may_gather}
use Rattle.hp_mempool.proofs.PoolSteps.{no_part}
use Rattle.hp_mempool.proofs.pool.Pool.join.Goals as goal

pub absorb-requires-clause-rule : goal.absorb-requires-clause-rule
absorb-requires-clause-rule c = may_gather _ _ _ _ c.pass.invariant.some

pub invariant_of-pass : goal.invariant_of-pass
invariant_of-pass c =
    let old = c.pass.invariant in
    let v : View = view c.pass.inside.token in
    let w : View = view c.other.inside.token in
    let new = c.absorb.ensures.rule in
    let none : w.has ≡ [] = ap (λ (p : PassView). p.has) c.other.view_is ∙ c.requires.none in
    record {
      some = λ is.
          let sum = ap (λ (u : View). u.part) (sym new) ∙ is in
          old.some (no_part v.part w.halvings (omega (arith, sum)));
      once = subst (λ (u : View). (number : ℕ) → times number u.has ≤ once_below u.total number) (sym new) (λ number.
          let both = times-append number v.has w.has in
          let zero : times number w.has ≡ 0 = ap (times number) none in
          let most = old.once number in
          omega (arith, both, zero, most));
      cached = subst (λ (u : View). (number : ℕ) → times number c.pass.inside.cache.items ≤ times number u.has) (sym new) (λ number.
          let both = times-append number v.has w.has in
          let most = old.cached number in
          omega (arith, both, most));
      few = old.few;
      room = old.room;
      out = c.absorb.ensures.queue.2 ∙ old.out;
    }
