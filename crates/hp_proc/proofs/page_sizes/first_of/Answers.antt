use Rattle.std.proofs.Common.{◌≡◌, ℕ, Option, length, position, unwrap_or, ap, ◌∙◌, arith, rules, tests}
use Rattle.std.specs.List.{position_or_len}
use Rattle.std.proofs.lemmas.Iterator.{YieldsList-from_slice}
use Rattle.std.proofs.lemmas.Iterator.Search.{position_from_yields_List}
use Rattle.hp_proc.proofs.PoolsFrom.{first_or_end, first_within, is_of}
use Rattle.hp_proc.proofs.page_sizes.first_of.Goals as goal

pub returns : goal.returns
returns c =
    let at : c.position-place.result ≡ position (is_of c.args.socket) c.args.pools.now
    = position_from_yields_List (is_of c.args.socket) _ _ c.position-place.result c.position-place.ensures.ran (YieldsList-from_slice _ c.iter.ensures.rest) (λ x b q k. search (rules, tests)) in
    let is : c.unwrap_or.result ≡ position_or_len (is_of c.args.socket) c.args.pools.now
    = c.unwrap_or.ensures
    ∙ ap (λ (o : Option ℕ). unwrap_or o (length c.args.pools.now)) at
    ∙ first_or_end c.args.socket c.args.pools.now in
    record { place = is; within = omega (arith, is, first_within c.args.socket c.args.pools.now) }
