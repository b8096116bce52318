use Rattle.std.proofs.Common.{drop}
use Rattle.hp_report.specs.Numbered.{numbered}
use Rattle.hp_report.specs.TableTexts.{table_text, tables_text}
use Rattle.hp_report.specs.Adding.{way}
use Rattle.hp_report.proofs.AddingLemmas.{IsOnWay}
use Rattle.hp_report.proofs.tables.write_tables.Given as goal

-- the tables so far were added
abbrev pub invariant-loop-participant : goal.invariant-loop-participant
invariant-loop-participant g l =
    IsOnWay (way (g.K.Sink.held l.fn.sink) (g.K.Sink.faults l.fn.sink) l.fn.page) (way (g.K.Sink.held l.sink) (g.K.Sink.faults l.sink) l.page)
    (numbered table_text l.participant (drop l.participant l.tables)) (tables_text l.tables)
