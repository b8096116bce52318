-- The parts of a report, group by group.
use Rattle.std.proofs.Common.{◌≡◌, ℕ, List, [], ◌∷◌, ◌++◌, append_assoc, refl, sym, ap, ◌∙◌}
use Rattle.std.specs.Prelude.{codes}
use Rattle.std.specs.List.{concat}
use Rattle.hp_report.specs.EntryTexts.{histories_text}
use Rattle.hp_report.specs.HeapTexts.{heaps_text}
use Rattle.hp_report.specs.LineTexts.{lines_text}
use Rattle.hp_report.specs.LogTexts.{asks_text, records_text}
use Rattle.hp_report.specs.Report.{first_line, parts}
use Rattle.hp_report.specs.SegmentTexts.{segments_text}
use Rattle.hp_report.specs.TableTexts.{tables_text}
use Rattle.hp_report.specs.EventTexts.{events_text}
use Rattle.hp_report.specs.ZoneTexts.{zones_text}
use Rattle.hp_report.specs.declared.ended.Ended.{Ended}

-- what comes after the tables, after the log, after the heaps, and after the answers
abbrev pub behind_tables : Ended → List ℕ
behind_tables ended = events_text ended.watchers.items ++ (codes "end\n" ++ [])

abbrev pub behind_log : Ended → List ℕ
behind_log ended = tables_text ended.tables.items ++ behind_tables ended

abbrev pub behind_heaps : Ended → List ℕ
behind_heaps ended = segments_text ended.segs ++ (records_text ended.segs ++ (asks_text ended.segs ++ behind_log ended))

abbrev pub behind_answers : (ℕ → List ℕ) → Ended → List ℕ
behind_answers names ended =
    heaps_text names ended.heaps.items ++ (histories_text names ended.heaps.items ++ (zones_text ended.names.zones.zones ++ behind_heaps ended))

pub from_answers : (names : ℕ → List ℕ) (ended : Ended)
    → concat (parts names ended) ≡ (first_line ++ lines_text ended.workload.lines.items ended.answers.items) ++ behind_answers names ended
from_answers names ended = sym (append_assoc first_line (lines_text ended.workload.lines.items ended.answers.items) (behind_answers names ended))

pub from_heaps : (names : ℕ → List ℕ) (ended : Ended)
    → behind_answers names ended
    ≡ (heaps_text names ended.heaps.items ++ (histories_text names ended.heaps.items ++ zones_text ended.names.zones.zones)) ++ behind_heaps ended
from_heaps names ended =
    let heaps = heaps_text names ended.heaps.items in
    let histories = histories_text names ended.heaps.items in
    let zones = zones_text ended.names.zones.zones in
    sym (append_assoc heaps (histories ++ zones) (behind_heaps ended) ∙ ap (λ t. heaps ++ t) (append_assoc histories zones (behind_heaps ended)))

pub from_log : (ended : Ended) → behind_heaps ended ≡ (segments_text ended.segs ++ (records_text ended.segs ++ asks_text ended.segs)) ++ behind_log ended
from_log ended =
    sym (append_assoc (segments_text ended.segs) (records_text ended.segs ++ asks_text ended.segs) (behind_log ended)
    ∙ ap (λ t. segments_text ended.segs ++ t) (append_assoc (records_text ended.segs) (asks_text ended.segs) (behind_log ended)))
