-- Laws on settled asks, and on runs that no heap has claimed yet: what gives of each form leave of them. The rule "Asks" of docs/HALLS.md.
use Rattle.std.specs.Prelude.{◌≡◌, ◌⊎◌, ℕ, Bool, true, List, ◌++◌, Some}
use Rattle.hp_segs.specs.LaterSteps.{armed_ask}
use Rattle.hp_segs.specs.Moved.{IsMovedBy, is_log_call, is_owner_call, is_range_call, is_roster_call}
use Rattle.hp_segs.specs.PendingRuns.{ArePending, PendingIsAlone, PendingIsArmed, PendingIsLast}
use Rattle.hp_segs.specs.SegsView.{SegsView}
use Rattle.hp_segs.specs.SettledAsks.{IsSettled}
use Rattle.hp_segs.specs.Sound.{IsSound}
use Rattle.hp_segs.specs.Standing.{IsArmed, KeepsArmed, standing_of}
use Rattle.hp_segs.specs.declared.ask.Ask.{Ask}
use Rattle.hp_segs.specs.declared.outcome.AskLog.{AskLog}
use Rattle.hp_hall.specs.Asks.{Arms, ClaimsGrants, IsKnownSettled}

-- asks that are settled stay so
abbrev pub LeavesSettled : SegsView → SegsView → Type 0
LeavesSettled old new = (from number : ℕ) → IsSettled from number old → IsSettled from number new

-- calls that log leave settled asks so, where the open growth is of an armed ask
abbrev pub LogCallsSettle : Type 0
LogCallsSettle = (old new : SegsView) → IsSound old → IsSound new → IsArmed old → IsMovedBy is_log_call 1 old new → LeavesSettled old new

-- calls on the roster leave settled asks settled
abbrev pub RosterCallsSettle : Type 0
RosterCallsSettle = (old new : SegsView) → IsMovedBy is_roster_call 0 old new → LeavesSettled old new

-- calls by which heaps take and give up rows leave settled asks settled
abbrev pub OwnerCallsSettle : Type 0
OwnerCallsSettle = (old new : SegsView) → IsMovedBy is_owner_call 0 old new → LeavesSettled old new

-- calls on external memory leave settled asks settled
abbrev pub RangeCallsSettle : Type 0
RangeCallsSettle = (old new : SegsView) → IsMovedBy is_range_call 0 old new → LeavesSettled old new

-- what a participant knows to be settled is, in each value that goes on from the outcomes that it has heard and has for the ask's heap what
-- it knows
abbrev pub KnownIsSettled : Type 0
KnownIsSettled = (segs : SegsView) (heard more : List AskLog) (ask : Ask) → IsSound segs → segs.asks ≡ heard ++ more
    → IsKnownSettled heard (Some (standing_of ask.heap segs)) ask → IsSettled ask.from ask.number segs

-- what was granted to an ask that is settled, and with which its participant is armed, its heap has claimed
abbrev pub SettledIsClaimed : Type 0
SettledIsClaimed = (segs : SegsView) (ask : Ask) → IsSound segs → KeepsArmed segs → armed_ask segs ask.from ≡ Some ask
    → IsSettled ask.from ask.number segs → ClaimsGrants segs.asks (Some (standing_of ask.heap segs)) ask

-- a give by the log leaves runs that no heap has claimed to armed asks, and the last of their heaps, where the giver's ask of before is
-- settled once it is armed anew
pub record LeavesPending (new : SegsView) : Type 0 where
  pub of_armed : PendingIsArmed new
  pub last : PendingIsLast new

abbrev pub LogGivesLeave : Type 0
LogGivesLeave = (who : ℕ) (holds : ℕ → Bool) (old new : SegsView) → IsSound old → IsSound new → IsArmed old
    → IsMovedBy is_log_call 1 old new → Arms who (λ heap. holds heap ≡ true) old new → ArePending old → LeavesPending new

-- gives of the other forms leave them as they were
abbrev pub RosterGivesLeave : Type 0
RosterGivesLeave = (old new : SegsView) → IsMovedBy is_roster_call 0 old new → ArePending old → ArePending new

abbrev pub OwnerGivesLeave : Type 0
OwnerGivesLeave = (old new : SegsView) → IsMovedBy is_owner_call 0 old new → ArePending old → ArePending new

abbrev pub RangeGivesLeave : Type 0
RangeGivesLeave = (old new : SegsView) → IsMovedBy is_range_call 0 old new → ArePending old → ArePending new

-- a run that no heap has claimed is alone for its heap where each armed ask is settled, or its participant has the heap of it in hand, and
-- no two have one heap
abbrev pub HeldIsAlone : Type 0
HeldIsAlone = (segs : SegsView) (holds : ℕ → ℕ → Bool) → IsSound segs → IsArmed segs → PendingIsArmed segs
    → ((who : ℕ) (ask : Ask) → armed_ask segs who ≡ Some ask → IsSettled ask.from ask.number segs ⊎ (holds who ask.heap ≡ true))
    → ((who other heap : ℕ) → holds who heap ≡ true → holds other heap ≡ true → who ≡ other) → PendingIsAlone segs
