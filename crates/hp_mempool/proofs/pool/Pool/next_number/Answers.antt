use Rattle.std.proofs.Common.{refl, ap, subst, length, length-append, arith}
use Rattle.std.specs.Prelude.{IfSome}
use Rattle.std.specs.Option.{option_to_list}
use Rattle.hp_mempool.specs.declared.pool_pass.PoolPass.TheInside.{Inside}
use Rattle.hp_mempool.specs.PassInside.{pass_view}
use Rattle.hp_mempool.specs.PassView.{Gets, PassView}
use Rattle.hp_mempool.specs.Views.{times}
use Rattle.hp_mempool.proofs.Counts.{times-append}
use Rattle.hp_mempool.proofs.PassLemmas.{got_last}
use Rattle.hp_mempool.proofs.pool.Pool.next_number.Goals as goal

pub invariant_of-pass : goal.invariant_of-pass
invariant_of-pass g c =
    let old = c.pass.invariant in
    let rest = c.pop.new.self.items in
    record {
      some = old.some;
      once = old.once;
      cached = λ number.
          let both = times-append number rest (option_to_list c.pop.result) in
          let all = ap (times number) c.pop.ensures.items in
          let most = old.cached number in
          omega (arith, both, all, most);
      few =
          let both = length-append rest (option_to_list c.pop.result) in
          let all = ap length c.pop.ensures.items in
          let most = old.few in
          omega (arith, both, all, most);
      room = let same = c.pop.ensures.capacity in let room = old.room in omega (arith, same, room);
      out = old.out;
    }

pub returns-clause-got : goal.returns-clause-got
returns-clause-got g c =
    let old : Inside = c.pass.inside in
    let new : Inside = record { places = old.places; cache = c.pop.new.self; token = old.token } in
    subst (λ (p : PassView). IfSome c.pop.result (Gets p (pass_view new))) c.pass.view_is
    (got_last old new c.pop.result c.pass.invariant c.pop.ensures.items refl refl)
