use Rattle.hp_report.proofs.ask_lines.put_cause.Goals as goal

pub returns-in-CannotHold : goal.returns-in-CannotHold
returns-in-CannotHold c = rw c.in-CannotHold.is c.word_range.ensures
