-- The run ends before the row, and what was after it is a run of its own.
use Rattle.std.proofs.Common.{arith}
use Rattle.std.specs.Result.{is_ok}
use Rattle.hp_base.proofs.HeldRunWrites.{inserted, last_cut, last_cut_runs, parted, parted_runs}
use Rattle.hp_base.proofs.held_rows.taking.part.Goals as goal

pub returns-then-has_rows-clause-rows : goal.returns-then-has_rows-clause-rows
returns-then-has_rows-clause-rows c = λ d.
    parted c.args.runs.now.items c.insert.new.self.items c.args.at c.args.place c.index.result.now c.index_mut.result.now d (is_ok c.insert.result)
    c.requires.within c.index.ensures c.index_mut.ensures.value
    (inserted _ c.insert.result c.insert.ensures.full (λ full. omega (arith, full, c.requires.room))) c.insert.ensures.items

pub returns-then-has_rows-clause-runs : goal.returns-then-has_rows-clause-runs
returns-then-has_rows-clause-runs c =
    parted_runs c.args.runs.now.items c.insert.new.self.items c.args.at c.args.place c.index.result.now c.index_mut.result.now (is_ok c.insert.result)
    c.requires.within c.index.ensures c.index_mut.ensures.value
    (inserted _ c.insert.result c.insert.ensures.full (λ full. omega (arith, full, c.requires.room))) c.requires.runs c.requires.from c.requires.place
    c.insert.ensures.items

pub returns-else-has_rows-clause-rows : goal.returns-else-has_rows-clause-rows
returns-else-has_rows-clause-rows c = λ d.
    last_cut c.args.runs.now.items c.args.at c.args.place c.index.result.now c.index_mut.result.now d c.requires.within c.index.ensures
    c.index_mut.ensures.value c.if-has_rows.ensures

pub returns-else-has_rows-clause-runs : goal.returns-else-has_rows-clause-runs
returns-else-has_rows-clause-runs c =
    last_cut_runs c.args.runs.now.items c.args.at c.args.place c.index_mut.result.now c.requires.within c.index_mut.ensures.value c.requires.runs
    c.requires.from c.requires.place
