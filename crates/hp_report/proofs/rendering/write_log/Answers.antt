use Rattle.std.proofs.Common.{◌++◌, refl}
use Rattle.hp_report.specs.LogTexts.{asks_text, records_text}
use Rattle.hp_report.specs.SegmentTexts.{segments_text}
use Rattle.hp_report.proofs.AddingLemmas.{begins, ends_so, exits, goes_on}
use Rattle.hp_report.proofs.rendering.write_log.Goals as goal

pub returns-in_err-write_segments : goal.returns-in_err-write_segments
returns-in_err-write_segments g c =
    let segs = c.args.segs.now in
    exits (segments_text segs) (records_text segs ++ asks_text segs) c.from_residual.result _ (begins _ _) c.in_err-write_segments.ensures refl
    c.from_residual.ensures.1 (λ other same. same)

pub returns-in_err-write_lines : goal.returns-in_err-write_lines
returns-in_err-write_lines g c =
    let segs = c.args.segs.now in
    exits (records_text segs) (asks_text segs) c.from_residual-in_err-write_lines.result _ (goes_on (segments_text segs) _ (begins _ _) c.in_ok-write_segments.ensures refl)
    (rw c.records-records.ensures.records at c.in_err-write_lines.ensures) refl c.from_residual-in_err-write_lines.ensures.1 (λ other same. same)

pub returns : goal.returns
returns g c =
    let segs = c.args.segs.now in
    ends_so _ c.write_lines-2.result
    (goes_on (records_text segs) _ (goes_on (segments_text segs) _ (begins _ _) c.in_ok-write_segments.ensures refl) (rw c.records-records.ensures.records at c.in_ok-write_lines.ensures) refl)
    (rw c.asks.ensures at c.write_lines-2.ensures)
