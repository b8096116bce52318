use Rattle.std.proofs.Common.{drop}
use Rattle.hp_report.specs.Numbered.{numbered}
use Rattle.hp_report.specs.EventTexts.{events_text, watchers_text}
use Rattle.hp_report.specs.Adding.{way}
use Rattle.hp_report.proofs.AddingLemmas.{IsOnWay}
use Rattle.hp_report.proofs.events.write_events.Given as goal

-- what the watchers so far were told was added
abbrev pub invariant-loop-participant : goal.invariant-loop-participant
invariant-loop-participant g l =
    IsOnWay (way (g.K.Sink.held l.fn.sink) (g.K.Sink.faults l.fn.sink) l.fn.page) (way (g.K.Sink.held l.sink) (g.K.Sink.faults l.sink) l.page)
    (numbered watchers_text l.participant (drop l.participant l.watchers)) (events_text l.watchers)
