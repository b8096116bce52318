-- A line that comes or goes, that awaits, or that only who is attached does.
use Rattle.std.proofs.Common.{inr}
use Rattle.hp_proc.proofs.HandFacts.Holds.{ready_changed}
use Rattle.hp_proc.proofs.LinesInHall.{may_change}
use Rattle.hp_proc.proofs.participant.Participant.do_line.Goals as goal

pub do_attach-requires-clause-may : goal.do_attach-requires-clause-may
do_attach-requires-clause-may g c = may_change c.requires.ready

pub do_detach-requires-clause-may : goal.do_detach-requires-clause-may
do_detach-requires-clause-may g c =
    record { may = may_change c.requires.ready; chunks = c.requires.ready.chunks; ready = inr c.requires.ready }

pub returns-in-Attach-clause-ready : goal.returns-in-Attach-clause-ready
returns-in-Attach-clause-ready g c =
    ready_changed c.do_attach.ensures.changes c.requires.ready (c.do_attach.ensures.ready c.requires.ready.ready)
