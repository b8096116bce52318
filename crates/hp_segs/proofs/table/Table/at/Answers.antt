-- Where the slot has no row, nothing is found.
use Rattle.std.proofs.Common.{◌≡◌, ◌∙◌, sym, false}
use Rattle.hp_log.specs.Rows.{at_slot}
use Rattle.hp_segs.specs.SegsView.{rows_in}
use Rattle.hp_segs.specs.declared.row_state.Segment.{Segment}
use Rattle.hp_segs.proofs.SlotFacts.ListFacts.{all_unmap, any_off}
use Rattle.hp_segs.proofs.SlotFacts.SlotRows.{find_none}
use Rattle.hp_segs.proofs.table.Table.at.Goals as goal

pub returns-else-has_row : goal.returns-else-has_row
returns-else-has_row c =
    let segments = c.args.self.now.segments in
    sym
    (find_none (λ (segment : Segment). at_slot c.args.list c.args.slot segment.row) segments
    (all_unmap (λ row. at_slot c.args.list c.args.slot row ≡ false) (λ (segment : Segment). segment.row) segments
    (any_off (at_slot c.args.list c.args.slot) (rows_in segments) (sym c.has_row.ensures ∙ c.if-has_row.false))))
