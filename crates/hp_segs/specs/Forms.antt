-- What each form of a give leaves of a segment value: calls that log, calls on the roster, calls by which heaps take and give up rows, and
-- calls on external memory. The rule "Giving" of docs/HALLS.md stands on it.
use Rattle.std.specs.Prelude.{◌≡◌, ℕ, Bool, true, false, List, filter}
use Rattle.hp_segs.specs.Moved.{IsMovedBy, is_log_call, is_owner_call, is_range_call, is_roster_call}
use Rattle.hp_segs.specs.SegsView.{SegsView}
use Rattle.hp_segs.specs.Sound.{IsSound}
use Rattle.hp_segs.specs.declared.row_state.RowState.{RowState}
use Rattle.hp_segs.specs.declared.row_state.RowState.TheVariants.{Opened, Agreed, Owned, Retiring}
use Rattle.hp_segs.specs.declared.row_state.Segment.{Segment}

-- a heap has the row
abbrev pub is_owned : RowState → Bool
is_owned Opened = false
is_owned (Agreed heap) = false
is_owned (Owned heap) = true
is_owned Retiring = false

-- the segments that heaps have
abbrev pub owned_in : SegsView → List Segment
owned_in segs = filter (λ segment. is_owned segment.state) segs.segments

-- the roster, the segments that heaps have, what they gave up, and external memory are as they were
pub record LeavesOwned (old new : SegsView) : Type 0 where
  pub roster : new.roster ≡ old.roster
  pub owned : owned_in new ≡ owned_in old
  pub retired : new.retired ≡ old.retired
  pub ranges : new.ranges ≡ old.ranges

-- calls that log leave the roster, the segments that heaps have, what they gave up, and external memory
abbrev pub LogFormLeaves : Type 0
LogFormLeaves = (steps : ℕ) (old new : SegsView) → IsSound old → IsMovedBy is_log_call steps old new → LeavesOwned old new

-- beside spare, calls on the roster change the roster alone
abbrev pub RosterFormLeaves : Type 0
RosterFormLeaves = (steps : ℕ) (old new : SegsView) → IsMovedBy is_roster_call steps old new
    → new ≡ record old { roster = new.roster; spare = new.spare }

-- calls by which heaps take and give up rows change the rows' states and what was given up: log, outcomes, roster, armed asks and external
-- memory are as they were
abbrev pub OwnerFormLeaves : Type 0
OwnerFormLeaves = (steps : ℕ) (old new : SegsView) → IsMovedBy is_owner_call steps old new
    → new ≡ record old { segments = new.segments; retiring = new.retiring; retired = new.retired; spare = new.spare }

-- calls on external memory change that alone
abbrev pub RangeFormLeaves : Type 0
RangeFormLeaves = (steps : ℕ) (old new : SegsView) → IsMovedBy is_range_call steps old new
    → new ≡ record old { ranges = new.ranges; spare = new.spare }
