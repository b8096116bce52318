-- The calls that leave the plain machine as it was.
use Rattle.std.proofs.Common.{◌≡◌, ℕ, Bool, true, false, Option, Some, None, refl, if◌then◌else◌}
use Rattle.hp_segs.specs.Laws.{OthersLeave}
use Rattle.hp_segs.specs.LaterSteps.{noting, is_noted, grows_for, armed_ask, withdrawn_growth, withdrawn_unless}
use Rattle.hp_segs.specs.Machine.{machine_of}
use Rattle.hp_segs.specs.Moved.{Reserve, OpenRun, CloseAsk, LogStale, NoteFailed, Agree, Cancel, Claim, Arm, Withdraw, Retire, DropRetiring, LogFreed, JoinRoster, LeaveRoster, ClaimRange, ReleaseRange}
use Rattle.hp_segs.specs.SegsView.{SegsView, grant_or_refusal_of}
use Rattle.hp_segs.specs.Sound.{IsSound}
use Rattle.hp_segs.specs.Steps.{cancelled_growth, after_failure, with_outcome}
use Rattle.hp_segs.specs.declared.growth.Growth.{Growth}
use Rattle.hp_segs.specs.declared.outcome.Cause.{Cause}
use Rattle.hp_segs.specs.declared.outcome.Outcome.{Outcome}
use Rattle.hp_segs.specs.declared.outcome.Outcome.TheVariants.{Refused}
use Rattle.hp_segs.specs.declared.outcome.Cause.TheVariants.{MapFailed, Withdrawn}
use Rattle.hp_segs.proofs.MachineLemmas.{open_leaves, failure_leaves}

noted_by : (b : Bool) (noted segs : SegsView) → machine_of noted ≡ machine_of segs → machine_of (if b then noted else segs) ≡ machine_of segs
noted_by true noted segs same = same
noted_by false noted segs same = refl

cancel_leaves : (cause : Cause) (segs : SegsView) (growth : Option Growth) → IsSound segs → segs.growth ≡ growth
    → machine_of (cancelled_growth cause segs growth) ≡ machine_of segs
cancel_leaves cause segs None sound open_now = refl
cancel_leaves cause segs (Some growth) sound open_now = failure_leaves segs growth cause (Some growth.ask) 2 sound open_now

withdrawn_leaves : (from number : ℕ) (cause : Cause) (segs : SegsView) (growth : Option Growth) → IsSound segs → segs.growth ≡ growth
    → machine_of (withdrawn_growth from number cause segs growth) ≡ machine_of segs
withdrawn_leaves from number cause segs None sound open_now = refl
withdrawn_leaves from number cause segs (Some growth) sound open_now =
    noted_by (grows_for from number growth) (after_failure growth cause (armed_ask segs from) 0 segs)
    (record segs { asks = with_outcome segs from number (Refused cause) (armed_ask segs from) })
    (failure_leaves segs growth cause (armed_ask segs from) 0 sound open_now)

withdraw_leaves : (from number : ℕ) (cause : Cause) (segs : SegsView) (standing : Option Outcome) → IsSound segs
    → machine_of (withdrawn_unless from number cause segs standing) ≡ machine_of segs
withdraw_leaves from number cause segs None sound = withdrawn_leaves from number cause segs segs.growth sound refl
withdraw_leaves from number cause segs (Some outcome) sound = refl

pub others_leave : OthersLeave
others_leave (Reserve n) segs sound other = refl
others_leave (OpenRun ask run) segs sound other = open_leaves segs ask run
others_leave (CloseAsk ask cause) segs sound other = refl
others_leave (LogStale from number) segs sound other = refl
others_leave (NoteFailed participant call row got) segs sound other =
    noted_by (is_noted segs participant call row segs.growth) (record segs { growth = noting (MapFailed participant call row.addr got) segs.growth }) segs refl
others_leave (Agree acks) segs sound other = cc
others_leave (Cancel cause) segs sound other = cancel_leaves cause segs segs.growth sound refl
others_leave (Claim from number) segs sound other = cc
others_leave (Arm ask) segs sound other = refl
others_leave (Withdraw from number since now) segs sound other =
    withdraw_leaves from number (Withdrawn since now) segs (grant_or_refusal_of segs.asks from number) sound
others_leave (Retire heap run) segs sound other = cc
others_leave DropRetiring segs sound other = cc
others_leave (LogFreed from number) segs sound other = refl
others_leave (JoinRoster participant acked) segs sound other = refl
others_leave (LeaveRoster participant) segs sound other = refl
others_leave (ClaimRange list addr len page socket) segs sound other = refl
others_leave (ReleaseRange list) segs sound other = refl
