use Rattle.std.proofs.Common.{sym}
use Rattle.hp_report.specs.HeapParts.{part_text}
use Rattle.hp_report.specs.KnownNames.{known}
use Rattle.hp_report.proofs.AddingLemmas.{exits, goes_on}
use Rattle.hp_report.proofs.NumberedLemmas.{flat_map-here}
use Rattle.hp_report.proofs.heaps.write_heaps.Goals as goal

pub returns-in_err-write_part : goal.returns-in_err-write_part
returns-in_err-write_part g c =
    let heap = c.heap-item.result in
    exits _ _ c.from_residual.result _ c.loop-heap.invariant c.in_err-write_part.ensures
    (flat_map-here c.args.heaps.now c.loop-heap.heap-index (part_text c.args.part (known c.args.names.now)) heap heap c.loop-heap-test.true (sym c.heap-item.is)) c.from_residual.ensures.1 (λ other same. same)

pub loop-heap-preserved : goal.loop-heap-preserved
loop-heap-preserved g c =
    let heap = c.heap-item.result in
    goes_on _ _ c.loop-heap.invariant c.in_ok-write_part.ensures
    (flat_map-here c.args.heaps.now c.loop-heap.heap-index (part_text c.args.part (known c.args.names.now)) heap heap c.loop-heap-test.true (sym c.heap-item.is))
