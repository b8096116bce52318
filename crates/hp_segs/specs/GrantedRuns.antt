-- The runs that were granted for a heap, by the log and by the outcomes, and those of them that it has claimed.
use Rattle.std.specs.Prelude.{◌≡◌, ℕ, ◌+◌, Bool, not, ◌&&◌, ◌==◌, List, [], ◌∷◌, ◌++◌, if◌then◌else◌}
use Rattle.hp_base.specs.declared.row.Run.{Run}
use Rattle.hp_log.specs.declared.log_record.LogRecord.{LogRecord}
use Rattle.hp_log.specs.declared.log_record.LogRecord.TheVariants.{Add, Drop}
use Rattle.hp_segs.specs.SegsView.{SegsView, is_unclaimed}
use Rattle.hp_segs.specs.Sound.{IsSound}
use Rattle.hp_segs.specs.SoundAsks.{is_granted}
use Rattle.hp_segs.specs.Standing.{claimed_by, runs_granted}
use Rattle.hp_segs.specs.declared.outcome.AskLog.{AskLog}

-- the run that a record adds for a heap, where it counts
abbrev pub added_for : ℕ → Bool → LogRecord → List Run
added_for heap counts (Add run for) = if counts && (for == heap) then run ∷ [] else []
added_for heap counts (Drop run) = []

-- the runs that records add for a heap, of those whose generations pass a test; the records are numbered from a generation on
abbrev pub runs_added : ℕ → (ℕ → Bool) → ℕ → List LogRecord → List Run
runs_added heap passes generation [] = []
runs_added heap passes generation (entry ∷ log) =
    added_for heap (passes generation) entry ++ runs_added heap passes (generation + 1) log

-- the runs that were granted for a heap, of records numbered from a generation on
abbrev pub granted_runs : ℕ → List AskLog → ℕ → List LogRecord → List Run
granted_runs heap asks generation log = runs_added heap (is_granted asks) generation log

-- the runs that a heap has claimed, by the log: those that were granted for it, and none of whose rows is Agreed any more
abbrev pub claimed_runs : ℕ → SegsView → List Run
claimed_runs heap segs = runs_added heap (λ generation. is_granted segs.asks generation && not (is_unclaimed segs.segments generation)) 1 segs.log

-- in the order of the log a heap's claimed runs are those of its claimed outcomes, in theirs
abbrev pub ClaimedInOrder : Type 0
ClaimedInOrder = (segs : SegsView) (heap : ℕ) → IsSound segs → claimed_runs heap segs ≡ runs_granted segs.log (claimed_by heap segs)
