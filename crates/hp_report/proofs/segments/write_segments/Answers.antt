use Rattle.std.proofs.Common.{◌++◌, append_assoc, refl}
use Rattle.hp_report.specs.SegmentTexts.{all_used_text, lists_text, pools_text}
use Rattle.hp_report.proofs.AddingLemmas.{begins, ends_so, exits, goes_on}
use Rattle.hp_report.proofs.segments.write_segments.Goals as goal

pub returns-in_err-write_lines : goal.returns-in_err-write_lines
returns-in_err-write_lines g c =
    let segs = c.args.segs.now in
    exits (pools_text segs) (lists_text segs ++ all_used_text segs) c.from_residual.result _ (begins _ _) c.in_err-write_lines.ensures
    (append_assoc (pools_text segs) (lists_text segs) (all_used_text segs)) c.from_residual.ensures.1 (λ other same. same)

pub returns-in_err-write_lines-2 : goal.returns-in_err-write_lines-2
returns-in_err-write_lines-2 g c =
    let segs = c.args.segs.now in
    exits (lists_text segs) (all_used_text segs) c.from_residual-in_err-write_lines-2.result _
    (goes_on (pools_text segs) _ (begins _ _) c.in_ok-write_lines.ensures (append_assoc (pools_text segs) (lists_text segs) (all_used_text segs)))
    (rw c.lists.ensures at c.in_err-write_lines-2.ensures) refl c.from_residual-in_err-write_lines-2.ensures.1 (λ other same. same)

pub returns : goal.returns
returns g c =
    let segs = c.args.segs.now in
    ends_so _ c.write_all_used.result
    (goes_on (lists_text segs) _ (goes_on (pools_text segs) _ (begins _ _) c.in_ok-write_lines.ensures (append_assoc (pools_text segs) (lists_text segs) (all_used_text segs)))
    (rw c.lists.ensures at c.in_ok-write_lines-2.ensures) refl)
    c.write_all_used.ensures
