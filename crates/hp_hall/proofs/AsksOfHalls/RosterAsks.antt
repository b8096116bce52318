-- Gives by the roster and by external memory leave asks, rows and the open growth, and with that settled asks and pending runs.
use Rattle.std.proofs.Common.{ap}
use Rattle.hp_segs.specs.Moved.{IsMovedBy, is_range_call, is_roster_call}
use Rattle.hp_segs.specs.SegsView.{SegsView}
use Rattle.hp_segs.proofs.FormCalls.{range_form_leaves, roster_form_leaves}
use Rattle.hp_hall.specs.AskLaws.{RangeCallsSettle, RangeGivesLeave, RosterCallsSettle, RosterGivesLeave}
use Rattle.hp_hall.proofs.AsksOfHalls.StillAsks.{LeavesAsksAndRows, pending_still, settled_still}

roster_leaves : (taken given : SegsView) → IsMovedBy is_roster_call 0 taken given → LeavesAsksAndRows taken given
roster_leaves taken given moved =
    let left = roster_form_leaves 0 taken given moved in
    record {
      asks = ap (λ (s : SegsView). s.asks) left;
      segments = ap (λ (s : SegsView). s.segments) left;
      growth = ap (λ (s : SegsView). s.growth) left;
      armed = ap (λ (s : SegsView). s.armed) left;
    }

pub range_leaves : (taken given : SegsView) → IsMovedBy is_range_call 0 taken given → LeavesAsksAndRows taken given
range_leaves taken given moved =
    let left = range_form_leaves 0 taken given moved in
    record {
      asks = ap (λ (s : SegsView). s.asks) left;
      segments = ap (λ (s : SegsView). s.segments) left;
      growth = ap (λ (s : SegsView). s.growth) left;
      armed = ap (λ (s : SegsView). s.armed) left;
    }

-- the laws
pub roster_calls_settle : RosterCallsSettle
roster_calls_settle old new moved = settled_still old new (roster_leaves old new moved)

pub roster_gives_leave : RosterGivesLeave
roster_gives_leave old new moved = pending_still old new (roster_leaves old new moved)

pub range_calls_settle : RangeCallsSettle
range_calls_settle old new moved = settled_still old new (range_leaves old new moved)

pub range_gives_leave : RangeGivesLeave
range_gives_leave old new moved = pending_still old new (range_leaves old new moved)
