-- The segment at the slot has its row.
use Rattle.std.proofs.Common.{refl}
use Rattle.hp_log.specs.Rows.{at_slot}
use Rattle.hp_segs.proofs.Finds.{find_mapped}
use Rattle.hp_segs.proofs.segs.ranges.row_at.Goals as goal

pub returns-in-Some : goal.returns-in-Some
returns-in-Some c =
    rw (find_mapped (at_slot c.args.list c.args.slot) (λ segment. segment.row) c.args.table.now.segments, ← c.at.ensures, c.in-Some.is) refl

pub returns-in-None : goal.returns-in-None
returns-in-None c =
    rw (find_mapped (at_slot c.args.list c.args.slot) (λ segment. segment.row) c.args.table.now.segments, ← c.at.ensures, c.in-None.is) c.unlogged_row.ensures
