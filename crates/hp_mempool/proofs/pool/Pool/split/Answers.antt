use Rattle.std.proofs.Common.{◌≤◌, ℕ, sym, ap, subst, ◌∙◌}
use Rattle.hp_mempool.specs.declared.view.View.{View}
use Rattle.hp_mempool.specs.Views.{once_below, times}
use Rattle.hp_mempool.proofs.PartSteps.{may_halve}
use Rattle.hp_mempool.proofs.pool.Pool.split.Goals as goal

pub another-token-requires-clause-rule : goal.another-token-requires-clause-rule
another-token-requires-clause-rule c = may_halve _ _ c.pass.invariant.some

pub invariant_of-pass : goal.invariant_of-pass
invariant_of-pass c =
    let old = c.pass.invariant in
    let left = c.another-token.ensures.rule.0 in
    record {
      some = λ none. old.some (ap (λ (w : View). w.part) (sym left) ∙ none);
      once = subst (λ (w : View). (number : ℕ) → times number w.has ≤ once_below w.total number) (sym left) old.once;
      cached = subst (λ (w : View). (number : ℕ) → times number c.pass.inside.cache.items ≤ times number w.has) (sym left) old.cached;
      few = old.few;
      room = old.room;
      out = c.another-token.ensures.queue.0.2 ∙ old.out;
    }
