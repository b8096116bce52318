use Rattle.std.proofs.Common.{drop}
use Rattle.std.specs.List.{flat_map}
use Rattle.hp_report.specs.HeapParts.{part_text}
use Rattle.hp_report.specs.KnownNames.{known}
use Rattle.hp_report.specs.Adding.{way}
use Rattle.hp_report.proofs.AddingLemmas.{IsOnWay}
use Rattle.hp_report.proofs.heaps.write_heaps.Given as goal

-- the heaps so far were added
abbrev pub invariant-loop-heap : goal.invariant-loop-heap
invariant-loop-heap g l =
    IsOnWay (way (g.K.Sink.held l.fn.sink) (g.K.Sink.faults l.fn.sink) l.fn.page) (way (g.K.Sink.held l.sink) (g.K.Sink.faults l.sink) l.page)
    (flat_map (part_text l.part (known l.names)) (drop l.heap-index l.heaps)) (flat_map (part_text l.part (known l.names)) l.heaps)
