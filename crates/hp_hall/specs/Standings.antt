-- Laws on what a segment value has for a heap, and on the asks with which participants are armed: what the calls of each kind leave
-- of it.
use Rattle.std.specs.Prelude.{◌≡◌, ◌≢◌, ℕ, ◌<◌, true, not, [], ◌∷◌, ◌++◌, filter, Contains, Some, IsSome}
use Rattle.hp_base.specs.declared.map_answer.MapAnswer.{MapAnswer}
use Rattle.hp_base.specs.declared.row.Row.{Row}
use Rattle.hp_base.specs.declared.row.Run.{Run}
use Rattle.hp_heap.specs.Cut.{after_cut}
use Rattle.hp_heap.specs.Growing.{CanGrow, after_grow}
use Rattle.hp_heap.specs.Laws.{IsRunCut}
use Rattle.hp_heap.specs.PlainHeap.{PlainHeap}
use Rattle.hp_log.specs.Rows.{in_run}
use Rattle.hp_segs.specs.Calls.{IsUnclaimedGrant, MayArm, MayWithdraw, OwnsRun}
use Rattle.hp_segs.specs.LaterSteps.{after_arm, after_note, after_withdraw, armed_ask}
use Rattle.hp_segs.specs.Moved.{IsMovedBy, is_log_call, is_owner_call, is_range_call, is_roster_call}
use Rattle.hp_segs.specs.SegsView.{SegsView, closed_number, grant_of, is_unclaimed}
use Rattle.hp_segs.specs.Sound.{IsSound}
use Rattle.hp_segs.specs.Steps.{after_claim, after_retire, claimed_run}
use Rattle.hp_segs.specs.declared.ask.Ask.{Ask}
use Rattle.hp_segs.specs.declared.outcome.AskLog.{AskLog}
use Rattle.hp_segs.specs.declared.outcome.Outcome.TheVariants.{Granted}
use Rattle.hp_hall.specs.Holding.{HasPages}
use Rattle.hp_segs.specs.PendingRuns.{PendingIsLast}
use Rattle.hp_segs.specs.Standing.{Holding, IsArmed, given_up_by, owned_by, standing_of}

-- what the value has for each heap is as it was, and the ask of each participant that is armed stays
pub record LeavesStanding (old new : SegsView) : Type 0 where
  pub standing : (heap : ℕ) → standing_of heap new ≡ standing_of heap old
  pub armed : (who : ℕ) → armed_ask new who ≡ armed_ask old who
  pub sound : IsArmed old → IsArmed new

-- the outcomes, the open growth and the asks of the armed are as they were
pub record LeavesAsks (old new : SegsView) : Type 0 where
  pub asks : new.asks ≡ old.asks
  pub growth : new.growth ≡ old.growth
  pub armed : new.armed ≡ old.armed
  pub sound : IsArmed old → IsArmed new

-- calls that log leave what the value has for each heap: what they grant is not claimed, and what they drop is no heap's any more
abbrev pub LogCallsLeave : Type 0
LogCallsLeave = (steps : ℕ) (old new : SegsView) → IsSound old → IsMovedBy is_log_call steps old new
    → (heap : ℕ) → standing_of heap new ≡ standing_of heap old

-- calls on the roster leave what the value has for each heap, and arm nobody; calls on external memory do the same
abbrev pub RosterCallsLeave : Type 0
RosterCallsLeave = (steps : ℕ) (old new : SegsView) → IsMovedBy is_roster_call steps old new → LeavesStanding old new

abbrev pub RangeCallsLeave : Type 0
RangeCallsLeave = (steps : ℕ) (old new : SegsView) → IsMovedBy is_range_call steps old new → LeavesStanding old new

-- a failed mapping that is noted leaves all that too
abbrev pub NotesLeave : Type 0
NotesLeave = (participant call : ℕ) (row : Row) (got : MapAnswer) (segs : SegsView)
    → LeavesStanding segs (after_note participant call row got segs)

-- calls by which a heap takes and gives up rows answer no ask and arm nobody
abbrev pub OwnerCallsLeave : Type 0
OwnerCallsLeave = (steps : ℕ) (old new : SegsView) → IsMovedBy is_owner_call steps old new → LeavesAsks old new

-- an ask above the closed number may be armed, and an armed ask be withdrawn: the open growth and the kept asks are still of the armed
abbrev pub ArmKeeps : Type 0
ArmKeeps = (segs : SegsView) (ask : Ask) → IsSound segs → IsArmed segs → MayArm ask segs → closed_number segs.asks ask.from < ask.number
    → IsArmed (after_arm ask segs)

abbrev pub WithdrawKeeps : Type 0
WithdrawKeeps = (segs : SegsView) (from number since now : ℕ) → IsSound segs → IsArmed segs → MayWithdraw from number segs
    → IsArmed (after_withdraw from number since now segs)

-- the outcome granted the heap the rows of that generation, for the ask that it keeps
pub record IsGrantFor (heap generation : ℕ) (entry : AskLog) : Type 0 where
  pub ask : Ask
  pub kept : entry.ask ≡ Some ask
  pub its_heap : ask.heap ≡ heap
  pub granted : entry.outcome ≡ Granted generation

-- the grant of the outcome's ask can be claimed
pub record CanBeClaimed (generation : ℕ) (entry : AskLog) (segs : SegsView) : Type 0 where
  pub grant : grant_of segs.asks entry.from entry.number ≡ Some generation
  pub rows : is_unclaimed segs.segments generation ≡ true
  pub may : IsUnclaimedGrant entry.from entry.number segs

-- what was granted a heap and is not among what it claimed can be claimed
abbrev pub RestCanBeClaimed : Type 0
RestCanBeClaimed = (segs : SegsView) (heap generation : ℕ) (entry : AskLog) → IsSound segs → Contains segs.asks entry
    → IsGrantFor heap generation entry → ¬ (Contains (standing_of heap segs).claimed entry) → CanBeClaimed generation entry segs

-- a claim leaves what the value has for the other heaps
abbrev pub ClaimLeavesOthers : Type 0
ClaimLeavesOthers = (segs : SegsView) (heap from number generation : ℕ) (entry : AskLog) → IsSound segs
    → grant_of segs.asks from number ≡ Some generation → Contains segs.asks entry → IsGrantFor heap generation entry
    → (other : ℕ) → other ≢ heap → standing_of other (after_claim from number segs) ≡ standing_of other segs

-- a claim puts the outcome of its grant, and the run, after those that the heap had claimed, and leaves what the heap gave up
pub record PutsClaim (entry : AskLog) (run : Run) (old new : Holding) : Type 0 where
  pub claimed : new.claimed ≡ old.claimed ++ entry ∷ []
  pub came : new.came ≡ old.came ++ run ∷ []
  pub retired : new.retired ≡ old.retired

-- where each run that no heap has claimed yet is the last one of its heap, a claim puts its grant and its run last
abbrev pub ClaimPuts : Type 0
ClaimPuts = (segs : SegsView) (heap from number generation : ℕ) (entry : AskLog) (run : Run) → IsSound segs → PendingIsLast segs
    → grant_of segs.asks from number ≡ Some generation → Contains segs.asks entry → IsGrantFor heap generation entry
    → IsUnclaimedGrant from number segs → claimed_run from number segs ≡ Some run
    → PutsClaim entry run (standing_of heap segs) (standing_of heap (after_claim from number segs))

-- where a heap has the pages of its segments and takes the run that it claims, it has those of its segments after the claim
abbrev pub ClaimBrings : Type 0
ClaimBrings = (segs : SegsView) (from number generation : ℕ) (entry : AskLog) (run : Run) (heap : PlainHeap) → IsSound segs
    → grant_of segs.asks from number ≡ Some generation → Contains segs.asks entry → IsGrantFor heap.index generation entry
    → IsUnclaimedGrant from number segs → claimed_run from number segs ≡ Some run → HasPages heap.pages (owned_by heap.index segs)
    → HasPages (after_grow run heap).pages (owned_by heap.index (after_claim from number segs))

-- where the heap of a socket has the pages of its segments, and no external memory, it may take in a run that can be claimed
abbrev pub ClaimedCanGrow : Type 0
ClaimedCanGrow = (segs : SegsView) (from number : ℕ) (run : Run) (heap : PlainHeap) → IsSound segs → IsUnclaimedGrant from number segs
    → claimed_run from number segs ≡ Some run → IsSome heap.serves → heap.chunks ≡ [] → HasPages heap.pages (owned_by heap.index segs)
    → CanGrow run heap

-- a run that a heap gives up leaves what the value has for the other heaps
abbrev pub RetireLeavesOthers : Type 0
RetireLeavesOthers = (segs : SegsView) (heap : ℕ) (run : Run) → IsSound segs → OwnsRun heap run segs
    → (other : ℕ) → other ≢ heap → standing_of other (after_retire heap run segs) ≡ standing_of other segs

-- a giving up takes the run's rows, and no grant, from what the value has for that heap, and puts the run after those that the heap gave up
-- before
abbrev pub RetireTakesRows : Type 0
RetireTakesRows = (segs : SegsView) (heap : ℕ) (run : Run) → IsSound segs → OwnsRun heap run segs
    → standing_of heap (after_retire heap run segs) ≡ record (standing_of heap segs) {
      owned = filter (λ segment. not (in_run run segment.row)) (owned_by heap segs);
      retired = given_up_by heap segs.retired ++ run ∷ [];
    }

-- where a heap has the pages of its segments, a run that it cuts is its own, and it has those of its segments after that is given up
pub record IsGivenUpWith (address : ℕ) (heap : PlainHeap) (run : Run) (segs : SegsView) : Type 0 where
  pub own : OwnsRun heap.index run segs
  pub pages : HasPages (after_cut address heap).pages (owned_by heap.index (after_retire heap.index run segs))

abbrev pub RetireTakesPages : Type 0
RetireTakesPages = (segs : SegsView) (address : ℕ) (heap : PlainHeap) (run : Run) → IsSound segs → IsRunCut address heap run
    → HasPages heap.pages (owned_by heap.index segs) → IsGivenUpWith address heap run segs
