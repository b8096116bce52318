-- The first ones stand before those from a place on.
use Rattle.std.proofs.Common.{arith}
use Rattle.hp_maps.proofs.GapLemmas.{moved_behind}
use Rattle.hp_maps.proofs.row_list.move_behind.Goals as goal

pub returns-clause-items : goal.returns-clause-items
returns-clause-items c =
    let rows = c.args.rows.now in
    moved_behind c.args.gap c.args.from c.args.to rows.items _ c.requires.from (omega (arith, c.requires.within, rows.ok.0))
    c.copy_within.ensures.items
