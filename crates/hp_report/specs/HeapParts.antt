-- What the report shows of a heap in each part on heaps.
use Rattle.std.specs.Prelude.{ℕ, List}
use Rattle.hp_heap.specs.History.{HeapView}
use Rattle.hp_report.specs.HeapTexts.{heap_text}
use Rattle.hp_report.specs.EntryTexts.{history_text}
use Rattle.hp_report.specs.declared.heap_part.HeapPart.{HeapPart}
use Rattle.hp_report.specs.declared.heap_part.HeapPart.TheVariants.{Elements, Histories}

-- a heap in a part: its line with its elements, or its history
abbrev pub part_text : HeapPart → (ℕ → List ℕ) → HeapView → List ℕ
part_text Elements names heap = heap_text names heap.plain
part_text Histories names heap = history_text names heap
