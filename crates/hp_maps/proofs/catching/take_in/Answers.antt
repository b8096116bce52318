-- What comes has room after what stays.
use Rattle.std.proofs.Common.{◌++◌, length, arith, ap, ◌∙◌, length-append}
use Rattle.hp_base.specs.Mapping.{owned}
use Rattle.hp_maps.specs.Catching.{new_rows}
use Rattle.hp_maps.proofs.TakeLemmas.{take_in_can}
use Rattle.hp_maps.proofs.catching.take_in.Goals as goal

pub push_new_rows-requires-clause-room : goal.push_new_rows-requires-clause-room
push_new_rows-requires-clause-room g c =
    omega (arith, c.requires.can.memory_room, c.drop_rows.ensures.memory, ap length c.drop_rows.ensures.rows)

pub map_behind-requires-clause-can : goal.map_behind-requires-clause-can
map_behind-requires-clause-can g c =
    let rows = c.drop_rows.ensures.rows in
    take_in_can c.args.rows.now.items c.push_new_rows.new.rows.items c.args.n c.len-start.result c.args.records.now _ _ _ _ _ c.requires.can
    c.drop_rows.ensures.capacity (omega (arith, c.len-start.ensures.len, ap length rows))
    (c.push_new_rows.ensures.items ∙ ap (λ l. l ++ new_rows c.args.n c.args.records.now) rows)
    (c.drop_rows.ensures.held ∙ ap (λ l. owned l) rows)
    (omega (
      arith,
      c.len-start.ensures.small,
      c.requires.can.memory_room,
      c.drop_rows.ensures.memory,
      ap length rows,
      ap length c.push_new_rows.ensures.items,
      length-append c.drop_rows.new.rows.items (new_rows c.args.n c.args.records.now),
    ))
