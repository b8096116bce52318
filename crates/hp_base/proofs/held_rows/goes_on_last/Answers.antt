-- The last run is longer by the row.
use Rattle.std.proofs.Common.{◌-◌, arith, refl}
use Rattle.hp_base.proofs.HeldRunWrites.{last_grown, last_grown_runs}
use Rattle.hp_base.proofs.held_rows.goes_on_last.Goals as goal

pub returns-clause-added : goal.returns-clause-added
returns-clause-added c = λ done.
    last_grown c.args.runs.now.items (c.len-len.result - 1) c.index.result.now c.index_mut.result.now c.args.row (omega arith) c.index.ensures
    c.index_mut.ensures.value c.requires.runs (c.if-not-goes_on.ensures.next refl)

pub returns-clause-runs : goal.returns-clause-runs
returns-clause-runs c =
    last_grown_runs c.args.runs.now.items (c.len-len.result - 1) c.index.result.now c.index_mut.result.now c.args.row (omega arith) c.index.ensures
    c.index_mut.ensures.value c.requires.runs (c.if-not-goes_on.ensures.next refl) c.requires.within (omega arith)
