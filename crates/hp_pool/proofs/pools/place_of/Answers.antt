use Rattle.std.proofs.Common.{rules, tests, ◌≡◌, position}
use Rattle.std.proofs.lemmas.Iterator.{YieldsList-from_slice}
use Rattle.std.proofs.lemmas.Iterator.Search.{position_from_yields_List}
use Rattle.hp_pool.specs.Pools.{is_of}
use Rattle.hp_pool.proofs.PoolLemmas.{place_found, place_missing}
use Rattle.hp_pool.proofs.pools.place_of.Goals as goal

pub returns : goal.returns
returns c =
    let pools = c.args.pools.now in
    let socket = c.args.socket in
    let page = c.args.page in
    let at : c.position.result ≡ position (is_of socket page) pools
    = position_from_yields_List (is_of socket page) _ _ c.position.result c.position.ensures.ran (YieldsList-from_slice _ c.iter.ensures.rest) (λ x b q k. search (rules, tests)) in
    record {
      found = place_found pools socket page c.position.result at;
      none = place_missing pools socket page c.position.result at;
    }
