use Rattle.std.proofs.Common.{refl, arith}
use Rattle.hp_pool.specs.Place.{IsPlaceOf}
use Rattle.hp_pool.proofs.PoolLemmas.{AreSingle-set, IsCounted-set, out_here, Gives-set}
use Rattle.hp_pool.proofs.pools.Pools.give.Goals as goal

pub returns : goal.returns
returns c =
    let items = c.self.inside.pools.items in
    let pool = c.index_mut-pool.result.now in
    let at : IsPlaceOf items c.args.socket c.args.page c.in-Some.place
    = rw c.as_slice.ensures.value at c.in-Some.ensures.found in
    rw (← c.self.view_is)
    (Gives-set items c.args.socket c.args.page c.args.n c.in-Some.place pool at c.index_mut-pool.ensures.value)

pub invariant_of-self : goal.invariant_of-self
invariant_of-self c =
    let at : IsPlaceOf c.self.inside.pools.items c.args.socket c.args.page c.in-Some.place
    = rw c.as_slice.ensures.value at c.in-Some.ensures.found in
    let out = out_here c.self.inside.pools.items c.args.socket c.args.page c.args.n c.in-Some.place c.index_mut-pool.result.now at c.index_mut-pool.ensures.value (rw (← c.self.view_is) at c.requires.out) in (
      IsCounted-set c.self.inside.pools.items c.in-Some.place _ (omega (arith, out)) c.self.invariant.0,
      AreSingle-set c.self.inside.pools.items c.in-Some.place c.index_mut-pool.result.now _ at.within c.index_mut-pool.ensures.value refl refl c.self.invariant.1,
    )
