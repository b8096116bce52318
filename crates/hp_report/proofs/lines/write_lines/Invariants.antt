use Rattle.hp_report.specs.Adding.{way}
use Rattle.hp_report.proofs.AddingLemmas.{IsOnWay}
use Rattle.hp_report.proofs.lines.write_lines.Given as goal

-- the lines so far were added
abbrev pub invariant-lines : goal.invariant-lines
invariant-lines g l =
    IsOnWay (way (g.K.Sink.held l.fn.sink) (g.K.Sink.faults l.fn.sink) l.fn.page) (way (g.K.Sink.held l.sink) (g.K.Sink.faults l.sink) l.page)
    (g.L.Lines.rest l.lines) (g.L.Lines.rest l.fn.lines)

abbrev pub decreases-lines : goal.decreases-lines
decreases-lines g l = g.L.Lines.count l.lines
