use Rattle.std.proofs.Common.{rules, ◌≡◌, Some, refl, ap, arith}
use Rattle.hp_pool.specs.declared.pool.Pool.{Pool}
use Rattle.hp_pool.specs.Pools.{pool_of}
use Rattle.hp_pool.specs.Place.{IsPlaceOf}
use Rattle.hp_pool.proofs.PoolLemmas.{pool_here, AreSingle-set, IsCounted-set, counted_here, Takes-set}
use Rattle.hp_pool.proofs.pools.Pools.take.Goals as goal

pub returns : goal.returns
returns c =
    let items = c.self.inside.pools.items in
    let pool = c.index_mut-pool.result.now in
    let at : IsPlaceOf items c.args.socket c.args.page c.in-Some.place
    = rw c.as_slice.ensures.value at c.in-Some.ensures.found in
    let had : pool_of items c.args.socket c.args.page ≡ Some pool
    = pool_here items c.args.socket c.args.page c.in-Some.place pool at c.index_mut-pool.ensures.value in
    rw (← c.self.view_is)
    (record {
      taken = Takes-set items c.args.socket c.args.page c.args.n c.in-Some.place pool at c.index_mut-pool.ensures.value c.if-pool-n.false;
      succeeds = rw had (search rules);
      no_pool = rw had (search rules);
      too_few = rw had (search rules);
      err = tt;
    })

pub invariant_of-self-2 : goal.invariant_of-self-2
invariant_of-self-2 c =
    let at : IsPlaceOf c.self.inside.pools.items c.args.socket c.args.page c.in-Some.place
    = rw c.as_slice.ensures.value at c.in-Some.ensures.found in (
      IsCounted-set c.self.inside.pools.items c.in-Some.place _ (omega (arith, counted_here c.self.inside.pools.items c.in-Some.place c.index_mut-pool.result.now at.within c.self.invariant.0, ap (λ (p : Pool). p.free) c.index_mut-pool.ensures.value, ap (λ (p : Pool). p.pages) c.index_mut-pool.ensures.value)) c.self.invariant.0,
      AreSingle-set c.self.inside.pools.items c.in-Some.place c.index_mut-pool.result.now _ at.within c.index_mut-pool.ensures.value refl refl c.self.invariant.1,
    )
