-- Which mappings fail: those of the open growth's pages. The rule "Reasons" of docs/RUNS.md.
use Rattle.std.specs.Prelude.{◌≡◌, ℕ, ◌≤◌, true, false, List, Contains, Option, Some, is_some}
use Rattle.std.specs.Option.{option_map}
use Rattle.hp_base.specs.declared.caught.Caught.{Caught}
use Rattle.hp_core.specs.Following.{after_catching, failure_of}
use Rattle.hp_base.specs.declared.row.Row.{Row}
use Rattle.hp_maps.specs.MapsView.{MapsView}
use Rattle.hp_segs.specs.LaterSteps.{has_failed_from, is_growth_row, noted_failure}
use Rattle.hp_segs.specs.SegsView.{SegsView, granted_by}
use Rattle.hp_segs.specs.Sound.{IsSound}
use Rattle.hp_segs.specs.declared.growth.Growth.{Growth}
use Rattle.hp_segs.specs.declared.outcome.AskLog.{AskLog}
use Rattle.hp_serve.specs.Serving.{CatchesUp}

-- each record that was granted is among so many
abbrev pub AreGrantsWithin : ℕ → List AskLog → Type 0
AreGrantsWithin number asks = (entry : AskLog) (generation : ℕ) → Contains asks entry → granted_by entry.outcome ≡ Some generation
    → generation ≤ number

-- the row of the mapping that failed, where one did, and its call
abbrev pub failing_row : Caught → Option Row
failing_row caught = option_map (λ failure. failure.row) (failure_of caught)

abbrev pub failing_call : Caught → Option ℕ
failing_call caught = option_map (λ failure. failure.call) (failure_of caught)

-- a row is one of the open growth's
pub record IsOfTheGrowth (segs : SegsView) (row : Row) : Type 0 where
  pub growth : Growth
  pub is_open : segs.growth ≡ Some growth
  pub its_row : is_growth_row growth row ≡ true

-- what fails for one who has taken in each granted record is a row of the open growth
abbrev pub FailsAtTheGrowth : Type 0
FailsAtTheGrowth = (segs : SegsView) (maps new : MapsView) (caught : Caught) (row : Row) → IsSound segs
    → AreGrantsWithin maps.number segs.asks → CatchesUp segs.log maps new caught → failing_row caught ≡ Some row → IsOfTheGrowth segs row

-- after a catch-up a failed mapping is noted for the open growth, where none of that participant by this call or a later one is logged
abbrev pub NotesAFailure : Type 0
NotesAFailure = (segs : SegsView) (maps new : MapsView) (caught : Caught) (who call : ℕ) → IsSound segs
    → AreGrantsWithin maps.number segs.asks → CatchesUp segs.log maps new caught → failing_call caught ≡ Some call
    → has_failed_from segs.asks who call ≡ false → is_some (noted_failure (after_catching who caught segs)) ≡ true
