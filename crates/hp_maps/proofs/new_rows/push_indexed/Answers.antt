-- One row more, where it isn't dropped.
use Rattle.std.proofs.Common.{◌++◌, ◌∷◌, [], length, arith, ap, ◌∙◌, sym, drop, append_assoc, length-append}
use Rattle.hp_base.specs.declared.row.Row.{Row}
use Rattle.hp_log.specs.Rows.{rows_below}
use Rattle.hp_maps.specs.Catching.{undropped}
use Rattle.hp_maps.proofs.NewRows.{undropped_more, undropped_fits}
use Rattle.hp_maps.proofs.new_rows.push_indexed.Goals as goal

pub push_by_index-requires-clause-room : goal.push_by_index-requires-clause-room
push_by_index-requires-clause-room c =
    let fits = undropped_fits (drop c.args.at c.args.records.now) c.args.run.now c.args.generation c.loop-n.n c.args.run.now.count (omega arith) in
    let here = ap (λ (row : Row). length (undropped (drop c.args.at c.args.records.now) (row ∷ []))) c.row_of.ensures in
    let all = length-append c.args.rows.now.items (undropped (drop c.args.at c.args.records.now) (rows_below c.args.run.now c.args.generation c.loop-n.n)) in
    omega (arith, fits, here, all, ap length c.loop-n.invariant.items, c.loop-n.invariant.capacity, c.requires.room)

pub loop-n-preserved : goal.loop-n-preserved
loop-n-preserved c = record {
  items =
      let front = undropped (drop c.args.at c.args.records.now) (rows_below c.args.run.now c.args.generation c.loop-n.n) in
      c.push_by_index.ensures.items
      ∙ (ap (λ l. l ++ undropped (drop c.args.at c.args.records.now) (c.row_of.result ∷ [])) c.loop-n.invariant.items
      ∙ (append_assoc c.args.rows.now.items front (undropped (drop c.args.at c.args.records.now) (c.row_of.result ∷ []))
      ∙ ap (λ l. c.args.rows.now.items ++ l) (ap (λ (row : Row). front ++ undropped (drop c.args.at c.args.records.now) (row ∷ [])) c.row_of.ensures
      ∙ sym (undropped_more (drop c.args.at c.args.records.now) c.args.run.now c.args.generation c.loop-n.n))));
  capacity = omega (arith, c.loop-n.invariant.capacity, c.push_by_index.ensures.capacity);
}
