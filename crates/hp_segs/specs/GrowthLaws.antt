-- Laws of growths: what was granted has a place for what was asked, and the open growth is of the ask with which its participant is armed.
use Rattle.std.specs.Prelude.{◌≡◌, ℕ, ◌<◌, List, Option, Some, None, IfSome, slice_index_or, ⊤}
use Rattle.std.specs.List.{All}
use Rattle.hp_base.specs.declared.row.Run.{Run}
use Rattle.hp_log.specs.declared.log_record.LogRecord.{LogRecord}
use Rattle.hp_segs.specs.Calls.{HasNoGrowth}
use Rattle.hp_segs.specs.LaterSteps.{armed_ask}
use Rattle.hp_segs.specs.Moved.{SegsCall, OpenRun, LogFreed, May, after}
use Rattle.hp_segs.specs.Plan.{HasPlace}
use Rattle.hp_segs.specs.SegsView.{SegsView, closed_number, run_of}
use Rattle.hp_segs.specs.Sound.{IsSound}
use Rattle.hp_segs.specs.declared.ask.Ask.{Ask}
use Rattle.hp_segs.specs.declared.growth.Growth.{Growth}
use Rattle.hp_segs.specs.declared.outcome.AskLog.{AskLog}
use Rattle.hp_segs.specs.declared.outcome.Outcome.TheVariants.{Granted}

-- the run of the open growth has a place for the request of its ask
abbrev pub OpenHasPlace : Type 0
OpenHasPlace = (segs : SegsView) → IsSound segs → IfSome segs.growth (λ growth. HasPlace growth.ask growth.run)

-- where an outcome is a grant, its run has a place for the request of the kept ask
abbrev pub IsPlacedGrant : List LogRecord → AskLog → Type 0
IsPlacedGrant log entry = (ask : Ask) (generation : ℕ) (run : Run) → entry.ask ≡ Some ask → entry.outcome ≡ Granted generation
    → run_of log generation ≡ Some run → HasPlace ask run

-- the run of each grant that is logged has a place for its request
abbrev pub GrantsHavePlace : Type 0
GrantsHavePlace = (segs : SegsView) → IsSound segs → All (IsPlacedGrant segs.log) segs.asks

-- the growth is of the ask with which its participant is armed, and which is above the closed number
pub record IsOfArmed (asks : List AskLog) (armed : List (Option Ask)) (growth : Growth) : Type 0 where
  pub its_ask : slice_index_or armed growth.ask.from None ≡ Some growth.ask
  pub above : closed_number asks growth.ask.from < growth.ask.number

-- the open growth, where there is one, is such a growth
abbrev pub HasArmedGrowth : SegsView → Type 0
HasArmedGrowth segs = IfSome segs.growth (IsOfArmed segs.asks segs.armed)

-- the call opens no growth but of an ask with which its participant is armed, and answers no notice of a participant whose growth is open
abbrev pub LeavesArmed : SegsCall → SegsView → Type 0
LeavesArmed (OpenRun ask run) segs = armed_ask segs ask.from ≡ Some ask
LeavesArmed (LogFreed from number) segs = HasNoGrowth from segs.growth
LeavesArmed _ segs = ⊤

-- after such calls alone the open growth is one of an armed ask
abbrev pub CallsLeaveArmed : Type 0
CallsLeaveArmed = (call : SegsCall) (segs : SegsView) → IsSound segs → HasArmedGrowth segs → May call segs → LeavesArmed call segs
    → HasArmedGrowth (after call segs)
