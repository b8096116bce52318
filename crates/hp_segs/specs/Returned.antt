-- Which runs went back by the log, and that the runs that were given up are these and the Retiring ones.
use Rattle.std.specs.Prelude.{ℕ, ◌+◌, Bool, true, false, not, List, [], ◌∷◌, ◌++◌, map}
use Rattle.std.specs.List.Sorted.{IsPermutation}
use Rattle.hp_base.specs.declared.row.Run.{Run}
use Rattle.hp_log.specs.declared.log_record.LogRecord.{LogRecord}
use Rattle.hp_log.specs.declared.log_record.LogRecord.TheVariants.{Add, Drop}
use Rattle.hp_segs.specs.SegsView.{SegsView}
use Rattle.hp_segs.specs.SoundAsks.{is_granted}
use Rattle.hp_segs.specs.declared.outcome.AskLog.{AskLog}

-- the runs that went back, of records numbered from a generation on: those of all Drops but the one after an Add that failed
abbrev pub returned_runs : List AskLog → Bool → ℕ → List LogRecord → List Run
returned_runs asks failed generation [] = []
returned_runs asks failed generation (Add run heap ∷ log) =
    returned_runs asks (not (is_granted asks generation)) (generation + 1) log
returned_runs asks true generation (Drop run ∷ log) = returned_runs asks false (generation + 1) log
returned_runs asks false generation (Drop run ∷ log) = run ∷ returned_runs asks false (generation + 1) log

-- the runs that went back by the log, and then those that are Retiring
abbrev pub gone_in : SegsView → List Run
gone_in segs = returned_runs segs.asks false 1 segs.log ++ segs.retiring

-- each run that was given up has one Drop of its own or is Retiring, and every other Drop is that of a growth that failed
abbrev pub AreReturned : List LogRecord → List AskLog → List Run → List (ℕ × Run) → Type 0
AreReturned log asks retiring retired = IsPermutation (map (λ given. given.1) retired) (returned_runs asks false 1 log ++ retiring)
