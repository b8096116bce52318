use Rattle.std.proofs.Common.{drop}
use Rattle.std.specs.List.{flat_map}
use Rattle.hp_report.specs.EventTexts.{watcher_text, watchers_text}
use Rattle.hp_report.specs.Adding.{way}
use Rattle.hp_report.proofs.AddingLemmas.{IsOnWay}
use Rattle.hp_report.proofs.events.write_watchers.Given as goal

-- what those so far were told was added
abbrev pub invariant-loop-place : goal.invariant-loop-place
invariant-loop-place g l =
    IsOnWay (way (g.K.Sink.held l.fn.sink) (g.K.Sink.faults l.fn.sink) l.fn.page) (way (g.K.Sink.held l.sink) (g.K.Sink.faults l.sink) l.page)
    (flat_map (watcher_text l.participant) (drop l.place l.watchers.listeners)) (watchers_text l.participant l.watchers)
