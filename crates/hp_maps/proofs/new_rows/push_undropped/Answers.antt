-- One row more, where it isn't dropped.
use Rattle.std.proofs.Common.{◌++◌, ◌∷◌, [], length, arith, ap, ◌∙◌, sym, append_assoc, length-append}
use Rattle.hp_base.specs.declared.row.Row.{Row}
use Rattle.hp_log.specs.Rows.{rows_below}
use Rattle.hp_maps.specs.Catching.{undropped}
use Rattle.hp_maps.proofs.NewRows.{undropped_more, undropped_fits}
use Rattle.hp_maps.proofs.new_rows.push_undropped.Goals as goal

pub push_if_undropped-from-requires : goal.push_if_undropped-from-requires
push_if_undropped-from-requires c = record {
  room =
      let fits = undropped_fits c.args.later.now c.args.run.now c.args.generation c.loop-n.n c.args.run.now.count (omega arith) in
      let here = ap (λ (row : Row). length (undropped c.args.later.now (row ∷ []))) c.row_of.ensures in
      let all = length-append c.args.rows.now.items (undropped c.args.later.now (rows_below c.args.run.now c.args.generation c.loop-n.n)) in
      omega (arith, fits, here, all, ap length c.loop-n.invariant.items, c.loop-n.invariant.capacity, c.requires.room);
}

pub loop-n-preserved : goal.loop-n-preserved
loop-n-preserved c = record {
  items =
      let front = undropped c.args.later.now (rows_below c.args.run.now c.args.generation c.loop-n.n) in
      c.push_if_undropped-from.ensures.items
      ∙ (ap (λ l. l ++ undropped c.args.later.now (c.row_of.result ∷ [])) c.loop-n.invariant.items
      ∙ (append_assoc c.args.rows.now.items front (undropped c.args.later.now (c.row_of.result ∷ []))
      ∙ ap (λ l. c.args.rows.now.items ++ l) (ap (λ (row : Row). front ++ undropped c.args.later.now (row ∷ [])) c.row_of.ensures
      ∙ sym (undropped_more c.args.later.now c.args.run.now c.args.generation c.loop-n.n))));
  capacity = omega (arith, c.loop-n.invariant.capacity, c.push_if_undropped-from.ensures.capacity);
}
