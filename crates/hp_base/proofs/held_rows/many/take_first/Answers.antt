-- The run at the place is without the rows.
use Rattle.std.proofs.Common.{◌∙◌, arith, take}
use Rattle.std.proofs.lemmas.List.Elements.{All-set}
use Rattle.hp_base.specs.HeldRows.{IsRun, rows_of}
use Rattle.hp_base.proofs.HeldRunWrites.{front_taken, its_run, taken_adjacent}
use Rattle.hp_base.proofs.held_rows.many.take_first.Goals as goal

pub shorten-count-requires : goal.shorten-count-requires
shorten-count-requires c = its_run c.args.runs.now.items c.args.place c.index.result.now (omega arith) c.index.ensures c.requires.runs

pub cut_empty-requires : goal.cut_empty-requires
cut_empty-requires c =
    All-set IsRun c.args.runs.now.items c.args.place c.shorten-count.new.run c.shorten-count.ensures.run c.requires.runs

pub returns-then-not-has_rows-clause-rows : goal.returns-then-not-has_rows-clause-rows
returns-then-not-has_rows-clause-rows c =
    c.cut_empty.ensures.rows
    ∙ front_taken c.args.runs.now.items c.args.place c.index.result.now c.shorten-count.new.run (take c.shorten-count.result c.args.rows.now)
    (omega arith) c.index.ensures c.shorten-count.ensures.rows c.requires.once

pub returns-else-not-has_rows-clause-rows : goal.returns-else-not-has_rows-clause-rows
returns-else-not-has_rows-clause-rows c =
    front_taken c.args.runs.now.items c.args.place c.index.result.now c.shorten-count.new.run (take c.shorten-count.result c.args.rows.now)
    (omega arith) c.index.ensures c.shorten-count.ensures.rows c.requires.once

pub returns-else-not-has_rows-clause-runs : goal.returns-else-not-has_rows-clause-runs
returns-else-not-has_rows-clause-runs c =
    All-set IsRun c.args.runs.now.items c.args.place c.shorten-count.new.run c.shorten-count.ensures.run c.requires.runs

pub returns-then-not-has_rows-clause-adjacent : goal.returns-then-not-has_rows-clause-adjacent
returns-then-not-has_rows-clause-adjacent c =
    taken_adjacent c.index.result.now (take c.shorten-count.result c.args.rows.now) (rows_of c.shorten-count.new.run) c.shorten-count.ensures.rows

pub returns-else-not-has_rows-clause-adjacent : goal.returns-else-not-has_rows-clause-adjacent
returns-else-not-has_rows-clause-adjacent c =
    taken_adjacent c.index.result.now (take c.shorten-count.result c.args.rows.now) (rows_of c.shorten-count.new.run) c.shorten-count.ensures.rows
