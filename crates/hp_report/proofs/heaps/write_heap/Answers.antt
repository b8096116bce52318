use Rattle.std.proofs.Common.{◌≡◌, ◌++◌, [], Option, Some, ap, ◌∙◌, sym}
use Rattle.std.specs.List.{flat_map}
use Rattle.std.specs.Option.{option_map_or}
use Rattle.hp_report.specs.HeapTexts.{element_line, heap_line, heap_text}
use Rattle.hp_report.specs.KnownNames.{known}
use Rattle.hp_report.proofs.AddingLemmas.{added_page, begins, ends_so, goes_on}
use Rattle.hp_report.proofs.heaps.write_heap.Goals as goal

pub returns : goal.returns
returns g c =
    let names = known c.args.names.now in
    let plain = c.args.heap.now.plain in
    let name = c.as_bytes.result.now in
    let elements = flat_map (element_line names) plain.ranges in
    let named : Some name ≡ plain.name = ap Some c.as_bytes.ensures.text ∙ c.in-Some.ensures in
    let text : heap_text names plain ≡ heap_line name plain ++ elements =
    sym (ap (λ shown. option_map_or (λ bytes. heap_line bytes plain ++ elements) shown []) named) in
    ends_so _ c.write_lines.result (goes_on _ elements (begins _ _) (added_page _ _ _ _ (heap_line name plain) c.in_ok-put_heap.ensures) text)
    (rw c.walk.ensures at c.write_lines.ensures)
