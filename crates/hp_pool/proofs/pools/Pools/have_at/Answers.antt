-- The pool that is read at the place is the one of its socket and page size.
use Rattle.std.proofs.Common.{◌≡◌, ◌∙◌, Some, ap, sym, length, slice_get}
use Rattle.std.specs.Option.{option_map}
use Rattle.std.proofs.lemmas.Bool.{ltb-true}
use Rattle.std.proofs.lemmas.Option.{slice_get-get_or}
use Rattle.hp_pool.proofs.PoolLemmas.{single_here}
use Rattle.hp_pool.proofs.pools.Pools.have_at.Goals as goal

pub returns-in-Some : goal.returns-in-Some
returns-in-Some c =
    let pool = c.in-Some.pool.now in
    let within = ltb-true c.args.place (length c.deref.result.now) (sym c.in-Some.ensures.lookup.0) in
    let here : slice_get c.self.inside.pools.items c.args.place ≡ Some pool =
    ap (λ l. slice_get l c.args.place) (sym c.deref.ensures.value)
    ∙ slice_get-get_or c.deref.result.now c.args.place pool within ∙ ap Some (sym c.in-Some.ensures.lookup.1) in
    let found = single_here c.self.inside.pools.items c.args.place pool c.self.invariant.1 here in
    rw (← c.self.view_is, ← c.if-pool-socket.true, ← c.if-pool-page.true)
    (sym (ap (option_map (λ (p : Rattle.hp_pool.specs.declared.pool.Pool.Pool). p.free)) found))
