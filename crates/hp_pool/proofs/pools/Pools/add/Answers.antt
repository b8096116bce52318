use Rattle.std.proofs.Common.{◌≡◌, None, refl, arith}
use Rattle.hp_pool.specs.declared.pool.Pool.{Pool}
use Rattle.hp_pool.specs.Pools.{pool_of}
use Rattle.hp_pool.proofs.PoolLemmas.{Adds-push, AreSingle-push, IsCounted-push, none_found}
use Rattle.hp_pool.proofs.pools.Pools.add.Goals as goal

pub returns-clause-added : goal.returns-clause-added
returns-clause-added c =
    let items = c.self.inside.pools.items in
    let pool : Pool = record {
      socket = c.args.socket;
      page = c.args.page;
      pages = c.args.pages;
      free = c.args.pages;
    } in
    let none : pool_of items c.args.socket c.args.page ≡ None
    = rw c.as_slice.ensures.value at (none_found c.place_of.result _ c.if-is_some.ensures c.place_of.ensures.none) in
    rw (c.in_ok-push.ensures.items, ← c.self.view_is) (Adds-push items pool none refl)

pub invariant_of-self-2 : goal.invariant_of-self-2
invariant_of-self-2 c =
    let items = c.self.inside.pools.items in
    let none : pool_of items c.args.socket c.args.page ≡ None
    = rw c.as_slice.ensures.value at (none_found c.place_of.result _ c.if-is_some.ensures c.place_of.ensures.none) in
    rw c.in_ok-push.ensures.items
    (IsCounted-push items (record { socket = c.args.socket; page = c.args.page; pages = c.args.pages; free = c.args.pages }) (omega arith) c.self.invariant.0, AreSingle-push items (record { socket = c.args.socket; page = c.args.page; pages = c.args.pages; free = c.args.pages }) none c.self.invariant.1)
