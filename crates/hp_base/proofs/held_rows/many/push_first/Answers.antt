-- The last run is longer by the rows.
use Rattle.std.proofs.Common.{◌∙◌, ◌-◌, ◌++◌, ap, arith, take}
use Rattle.std.proofs.lemmas.List.Elements.{All-set}
use Rattle.hp_base.specs.HeldRows.{IsRun, rows_of}
use Rattle.hp_base.specs.declared.held_rows.HeldRun.{HeldRun}
use Rattle.hp_base.proofs.HeldRunWrites.{its_run, last_longer_by}
use Rattle.hp_base.proofs.held_rows.many.push_first.Goals as goal

pub lengthen-count-requires-clause-run : goal.lengthen-count-requires-clause-run
lengthen-count-requires-clause-run c =
    its_run c.args.runs.now.items (c.len-len.result - 1) c.index.result.now (omega arith) c.index.ensures c.requires.runs

pub returns-clause-rows : goal.returns-clause-rows
returns-clause-rows c =
    last_longer_by c.args.runs.now.items (c.len-len.result - 1) c.index.result.now c.lengthen-count.new.run
    (take c.lengthen-count.result c.args.rows.now) (omega arith)
    (c.lengthen-count.ensures.rows ∙ ap (λ (r : HeldRun). rows_of r ++ take c.lengthen-count.result c.args.rows.now) c.index.ensures)

pub returns-clause-runs : goal.returns-clause-runs
returns-clause-runs c =
    All-set IsRun c.args.runs.now.items (c.len-len.result - 1) c.lengthen-count.new.run c.lengthen-count.ensures.run c.requires.runs
