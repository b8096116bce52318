use Rattle.std.proofs.Common.{drop}
use Rattle.hp_segs.specs.Lists.{lists_of}
use Rattle.hp_report.specs.Numbered.{numbered}
use Rattle.hp_report.specs.SegmentTexts.{all_used_text, used_text}
use Rattle.hp_report.specs.Adding.{way}
use Rattle.hp_report.proofs.AddingLemmas.{IsOnWay}
use Rattle.hp_report.proofs.segments.write_all_used.Given as goal

-- the segments of the lists so far were added
abbrev pub invariant-loop-list : goal.invariant-loop-list
invariant-loop-list g l =
    IsOnWay (way (g.K.Sink.held l.fn.sink) (g.K.Sink.faults l.fn.sink) l.fn.page) (way (g.K.Sink.held l.sink) (g.K.Sink.faults l.sink) l.page)
    (numbered (used_text l.segs.segments) l.list (drop l.list (lists_of l.segs.pools))) (all_used_text l.segs)
