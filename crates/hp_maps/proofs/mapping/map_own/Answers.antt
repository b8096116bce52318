-- A row that came out at another place was the last, and is out again.
use Rattle.std.proofs.Common.{◌≡◌, false, rules}
use Rattle.hp_maps.specs.Unmapping.{is_own}
use Rattle.hp_maps.proofs.HeldLemmas.{own_undone}
use Rattle.hp_maps.proofs.mapping.map_own.Goals as goal

pub returns-then-not-is_own-clause-held : goal.returns-then-not-is_own-clause-held
returns-then-not-is_own-clause-held g c =
    let other : is_own c.args.row.now c.map-got.result ≡ false = search rules in
    own_undone _ _ _ _ _ c.requires.apart c.map-got.ensures.held other c.unmap.ensures.held
