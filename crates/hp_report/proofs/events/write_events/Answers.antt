use Rattle.std.proofs.Common.{sym}
use Rattle.hp_report.specs.EventTexts.{watchers_text}
use Rattle.hp_report.proofs.AddingLemmas.{exits, goes_on}
use Rattle.hp_report.proofs.NumberedLemmas.{numbered-here}
use Rattle.hp_report.proofs.events.write_events.Goals as goal

pub loop-participant-preserved : goal.loop-participant-preserved
loop-participant-preserved g c =
    let participant = c.loop-participant.participant in
    let own = c.index-watchers-participant.result in
    goes_on _ _ c.loop-participant.invariant c.in_ok-write_watchers.ensures
    (numbered-here c.args.watchers.now participant watchers_text participant own own c.loop-participant-test.true
    (sym c.index-watchers-participant.is))

pub returns-in_err-write_watchers : goal.returns-in_err-write_watchers
returns-in_err-write_watchers g c =
    let participant = c.loop-participant.participant in
    let own = c.index-watchers-participant.result in
    exits _ _ c.from_residual.result _ c.loop-participant.invariant c.in_err-write_watchers.ensures
    (numbered-here c.args.watchers.now participant watchers_text participant own own c.loop-participant-test.true
    (sym c.index-watchers-participant.is))
    c.from_residual.ensures.1 (λ other same. same)
