-- The run that has the row stands there.
use Rattle.std.proofs.Common.{sym}
use Rattle.hp_base.proofs.HeldRunLemmas.{some_there}
use Rattle.hp_base.proofs.held_rows.has_row.Goals as goal

pub returns-in-Some : goal.returns-in-Some
returns-in-Some c = sym (some_there c.args.row.now c.args.runs.now c.in-Some.field-0 c.in-Some.ensures.some)
