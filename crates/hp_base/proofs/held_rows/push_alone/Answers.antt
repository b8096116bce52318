-- One run more, of one row.
use Rattle.std.proofs.Common.{◌≡◌, ◌∷◌, ◌++◌, ◌∙◌, List, [], ap, arith, subst, sym}
use Rattle.std.specs.List.{All}
use Rattle.std.proofs.lemmas.List.Elements.{All-push}
use Rattle.hp_base.specs.HeldRows.{IsRun, rows_in}
use Rattle.hp_base.specs.declared.held_rows.HeldRun.{HeldRun}
use Rattle.hp_base.specs.declared.row.Row.{Row}
use Rattle.hp_base.proofs.HeldRunLemmas.{alone, rows_behind_all}
use Rattle.hp_base.proofs.held_rows.push_alone.Goals as goal

pub returns-clause-rows : goal.returns-clause-rows
returns-clause-rows c =
    let run : HeldRun = record { first = c.args.row; from = 0; to = 1 } in
    let runs = c.args.runs.now.items in
    ap rows_in c.push_reserved.ensures.items
    ∙ (rows_behind_all runs (run ∷ []) ∙ ap (λ (l : List Row). rows_in runs ++ l) (alone c.args.row))

pub returns-clause-runs : goal.returns-clause-runs
returns-clause-runs c =
    let run : HeldRun = record { first = c.args.row; from = 0; to = 1 } in
    subst (All IsRun) (sym c.push_reserved.ensures.items)
    (All-push IsRun c.args.runs.now.items run c.requires.runs (record { order = omega arith; ends = omega (arith, c.requires.within); slots = omega arith }))
