-- All rows of the run come.
use Rattle.std.proofs.Common.{◌∙◌, ◌++◌, length, arith, ap, sym}
use Rattle.hp_log.proofs.RowLemmas.{length_rows_below}
use Rattle.hp_log.specs.Rows.{rows_of}
use Rattle.hp_maps.proofs.CatchLemmas.{none_undropped}
use Rattle.hp_maps.proofs.new_rows.push_all.Goals as goal

pub push_run-requires-clause-room : goal.push_run-requires-clause-room
push_run-requires-clause-room c =
    let run = c.args.run.now in
    let all = ap length (none_undropped (rows_of run c.args.generation)) in
    omega (arith, c.requires.room, all, length_rows_below run c.args.generation run.count)

pub returns-clause-items : goal.returns-clause-items
returns-clause-items c =
    c.push_run.ensures.items ∙ ap (λ l. c.args.rows.now.items ++ l) (sym (none_undropped (rows_of c.args.run.now c.args.generation)))
