-- The report of a run.
use Rattle.std.specs.Prelude.{ℕ, List, [], ◌∷◌, codes}
use Rattle.std.specs.List.{concat}
use Rattle.hp_report.specs.Names.{name_at}
use Rattle.hp_report.specs.LineTexts.{lines_text}
use Rattle.hp_report.specs.HeapTexts.{heaps_text}
use Rattle.hp_report.specs.EntryTexts.{histories_text}
use Rattle.hp_report.specs.SegmentTexts.{segments_text}
use Rattle.hp_report.specs.LogTexts.{records_text, asks_text}
use Rattle.hp_report.specs.TableTexts.{tables_text}
use Rattle.hp_report.specs.EventTexts.{events_text}
use Rattle.hp_report.specs.ZoneTexts.{zones_text}
use Rattle.hp_report.specs.declared.ended.Ended.{Ended}

-- the form of the report
abbrev pub first_line : List ℕ
first_line = codes "heapsim report 1\n"

-- the parts of a report in their order, by the names of the lines
abbrev pub parts : (ℕ → List ℕ) → Ended → List (List ℕ)
parts names ended =
    first_line
    ∷ lines_text ended.workload.lines.items ended.answers.items
    ∷ heaps_text names ended.heaps.items
    ∷ histories_text names ended.heaps.items
    ∷ zones_text ended.names.zones.zones
    ∷ segments_text ended.segs
    ∷ records_text ended.segs
    ∷ asks_text ended.segs
    ∷ tables_text ended.tables.items
    ∷ events_text ended.watchers.items
    ∷ codes "end\n"
    ∷ []

-- the report of what a run left
unfoldable pub report : Ended → List ℕ
report ended = concat (parts (name_at ended.workload.lines.items) ended)
