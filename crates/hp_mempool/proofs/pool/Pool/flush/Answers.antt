use Rattle.std.proofs.Common.{◌≤◌, ℕ, List, [], length, refl, sym, ap, subst, ◌∙◌, arith}
use Rattle.crossbeam_queue.specs.Passes.{ruled_capacity, view}
use Rattle.hp_mempool.specs.declared.pool_pass.PoolPass.TheInside.{Inside}
use Rattle.hp_mempool.specs.declared.view.View.{View}
use Rattle.hp_mempool.specs.PassView.{PassView, PoolView, after_flush}
use Rattle.hp_mempool.specs.Views.{CanPut, after_puts, once_below, times, without_all}
use Rattle.hp_mempool.proofs.PassLemmas.{pass_with}
use Rattle.hp_mempool.proofs.PutLemmas.{after_puts_is, can_put_all, times-without_all_le}
use Rattle.hp_mempool.proofs.pool.Pool.flush.Goals as goal

pub put_numbers-requires-clause-may : goal.put_numbers-requires-clause-may
put_numbers-requires-clause-may g c =
    let old = c.pass.invariant in
    let v : View = view c.pass.inside.token in
    let total = ap (λ (p : PassView). p.total) c.pass.view_is ∙ (c.requires.pool.total_is ∙ sym (ap (λ (p : PoolView). p.count) c.self.view_is)) in
    subst (λ (l : List ℕ). CanPut (ruled_capacity c.self.inside.queue) l v) (sym c.deref.ensures.value)
    (can_put_all v c.pass.inside.cache.items old.once old.cached (ruled_capacity c.self.inside.queue) old.some total)

pub invariant_of-pass : goal.invariant_of-pass
invariant_of-pass g c =
    let old = c.pass.invariant in
    let v : View = view c.pass.inside.token in
    let cached = c.pass.inside.cache.items in
    let is = c.put_numbers.ensures.put ∙ (ap (λ (l : List ℕ). after_puts l v) c.deref.ensures.value ∙ after_puts_is cached v) in
    record {
      some = λ none. old.some (ap (λ (u : View). u.part) (sym is) ∙ none);
      once = subst (λ (u : View). (number : ℕ) → times number u.has ≤ once_below u.total number) (sym is) (λ number.
          let less = times-without_all_le number cached v.has in
          let most = old.once number in
          omega (arith, less, most));
      cached = λ number. let none = ap (times number) c.clear.ensures.items in omega (arith, none);
      few = let none = ap length c.clear.ensures.items in omega (arith, none);
      room = let same = c.clear.ensures.capacity in let room = old.room in omega (arith, same, room);
      out = c.put_numbers.ensures.queue.2 ∙ old.out;
    }

pub returns : goal.returns
returns g c =
    let old : Inside = c.pass.inside in
    let new : Inside = record { places = old.places; cache = c.clear.new.self; token = c.put_numbers.new.token } in
    let v : View = view old.token in
    let is = c.put_numbers.ensures.put ∙ (ap (λ (l : List ℕ). after_puts l v) c.deref.ensures.value ∙ after_puts_is old.cache.items v) in
    pass_with old new [] (without_all old.cache.items v.has) c.put_numbers.ensures.queue.0 refl c.clear.ensures.items is ∙ ap after_flush c.pass.view_is
