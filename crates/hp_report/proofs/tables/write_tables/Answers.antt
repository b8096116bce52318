use Rattle.std.proofs.Common.{sym}
use Rattle.hp_report.specs.TableTexts.{table_text}
use Rattle.hp_report.proofs.AddingLemmas.{exits, goes_on}
use Rattle.hp_report.proofs.NumberedLemmas.{numbered-here}
use Rattle.hp_report.proofs.tables.write_tables.Goals as goal

pub loop-participant-preserved : goal.loop-participant-preserved
loop-participant-preserved g c =
    let participant = c.loop-participant.participant in
    let table = c.index-tables-participant.result in
    goes_on _ _ c.loop-participant.invariant c.in_ok-write_table.ensures
    (numbered-here c.args.tables.now participant table_text participant table table c.loop-participant-test.true (sym c.index-tables-participant.is))

pub returns-in_err-write_table : goal.returns-in_err-write_table
returns-in_err-write_table g c =
    let participant = c.loop-participant.participant in
    let table = c.index-tables-participant.result in
    exits _ _ c.from_residual.result _ c.loop-participant.invariant c.in_err-write_table.ensures
    (numbered-here c.args.tables.now participant table_text participant table table c.loop-participant-test.true (sym c.index-tables-participant.is))
    c.from_residual.ensures.1 (λ other same. same)
