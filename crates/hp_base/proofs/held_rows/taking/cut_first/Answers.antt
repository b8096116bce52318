-- The run begins after the row.
use Rattle.std.proofs.Common.{◌∙◌}
use Rattle.hp_base.proofs.HeldRunWrites.{first_cut}
use Rattle.hp_base.proofs.held_rows.taking.cut_first.Goals as goal

pub returns-then-not-has_rows-clause-rows : goal.returns-then-not-has_rows-clause-rows
returns-then-not-has_rows-clause-rows c = λ d.
    c.cut_empty.ensures.rows
    ∙ first_cut c.args.runs.now.items c.args.at c.args.place c.index_mut.result.now d c.requires.within c.index_mut.ensures.value

pub returns-else-not-has_rows-clause-rows : goal.returns-else-not-has_rows-clause-rows
returns-else-not-has_rows-clause-rows c = λ d.
    first_cut c.args.runs.now.items c.args.at c.args.place c.index_mut.result.now d c.requires.within c.index_mut.ensures.value
