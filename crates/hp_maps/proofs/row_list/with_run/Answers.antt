-- The row of the next slot comes.
use Rattle.std.proofs.Common.{◌∙◌, ◌++◌, ◌∷◌, [], length, arith, ap, append_assoc, length-append, sym}
use Rattle.hp_base.specs.declared.row.Row.{Row}
use Rattle.hp_log.specs.Rows.{rows_below}
use Rattle.hp_log.proofs.RowLemmas.{length_rows_below, rows_below_more}
use Rattle.hp_maps.proofs.row_list.with_run.Goals as goal

pub push_reserved-requires : goal.push_reserved-requires
push_reserved-requires c =
    let run = c.args.of.1 in
    let now = c.loop-n.rows in
    let all = length-append c.args.rows.items (rows_below run c.args.of.0 c.loop-n.n) in
    omega (
      arith,
      c.loop-n-test.true,
      c.requires.room,
      c.loop-n.invariant.memory,
      ap length c.loop-n.invariant.items,
      all,
      length_rows_below run c.args.of.0 c.loop-n.n,
      now.ok.0,
      c.args.rows.ok.0,
    )

pub loop-n-preserved : goal.loop-n-preserved
loop-n-preserved c = record {
  items =
      let front = rows_below c.args.of.1 c.args.of.0 c.loop-n.n in
      c.push_reserved.ensures.items
      ∙ (ap (λ l. l ++ c.row_of.result ∷ []) c.loop-n.invariant.items
      ∙ (append_assoc c.args.rows.items front (c.row_of.result ∷ [])
      ∙ ap (λ l. c.args.rows.items ++ l) (ap (λ (row : Row). front ++ row ∷ []) c.row_of.ensures
      ∙ sym (rows_below_more c.args.of.1 c.args.of.0 c.loop-n.n))));
  memory = c.push_reserved.ensures.capacity ∙ c.loop-n.invariant.memory;
}
