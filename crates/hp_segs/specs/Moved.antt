-- Which values come from a value by calls: every call with its condition and what it leaves, and how many growth steps lists of
-- calls may have.
use Rattle.std.specs.Prelude.{◌≡◌, ℕ, ◌≤◌, List, [], ◌∷◌, ◌++◌, length, Ok, Bool, true, false, IsTrue, count_by}
use Rattle.std.specs.List.{All}
use Rattle.hp_base.specs.declared.row.Row.{Row}
use Rattle.hp_base.specs.declared.row.Run.{Run}
use Rattle.hp_base.specs.declared.map_answer.MapAnswer.{MapAnswer}
use Rattle.hp_segs.specs.SegsView.{SegsView}
use Rattle.hp_segs.specs.Steps.{after_open, after_close, after_agree, after_cancel, after_claim, after_retire, after_drop, after_freed, after_reserve}
use Rattle.hp_segs.specs.LaterSteps.{after_stale, after_note, after_arm, after_withdraw, after_join, after_leave}
use Rattle.hp_segs.specs.Ranges.{range_plan, after_claim_range, after_release_range, is_claimed}
use Rattle.hp_segs.specs.Calls.{MayOpen, MayClose, MayLogStale, MayLogFreed, MayNote, MayAgree, MayCancel, MayDrop, MayArm, MayWithdraw, MayJoin, MayLeave, OwnsRun, IsUnclaimedGrant}
use Rattle.hp_segs.specs.declared.ask.Ask.{Ask}
use Rattle.hp_log.specs.declared.log_record.LogRecord.{LogRecord}
use Rattle.hp_segs.specs.declared.outcome.AskLog.{AskLog}
use Rattle.hp_segs.specs.declared.outcome.Cause.{Cause}

-- a call that changes a segment value
pub data SegsCall : Type 0 where
  Reserve : ℕ → SegsCall
  OpenRun : Ask → Run → SegsCall
  CloseAsk : Ask → Cause → SegsCall
  LogStale : ℕ → ℕ → SegsCall
  NoteFailed : ℕ → ℕ → Row → MapAnswer → SegsCall
  Agree : List ℕ → SegsCall
  Cancel : Cause → SegsCall
  Claim : ℕ → ℕ → SegsCall
  Arm : Ask → SegsCall
  Withdraw : ℕ → ℕ → ℕ → ℕ → SegsCall
  Retire : ℕ → Run → SegsCall
  DropRetiring : SegsCall
  LogFreed : ℕ → ℕ → SegsCall
  JoinRoster : ℕ → ℕ → SegsCall
  LeaveRoster : ℕ → SegsCall
  ClaimRange : ℕ → ℕ → ℕ → ℕ → ℕ → SegsCall
  ReleaseRange : ℕ → SegsCall

-- what a call leaves
abbrev pub after : SegsCall → SegsView → SegsView
after (Reserve n) segs = after_reserve n segs
after (OpenRun ask run) segs = after_open ask run segs
after (CloseAsk ask cause) segs = after_close ask cause segs
after (LogStale from number) segs = after_stale from number segs
after (NoteFailed participant call row got) segs = after_note participant call row got segs
after (Agree acks) segs = after_agree acks segs
after (Cancel cause) segs = after_cancel cause segs
after (Claim from number) segs = after_claim from number segs
after (Arm ask) segs = after_arm ask segs
after (Withdraw from number since now) segs = after_withdraw from number since now segs
after (Retire heap run) segs = after_retire heap run segs
after DropRetiring segs = after_drop segs
after (LogFreed from number) segs = after_freed from number segs
after (JoinRoster participant acked) segs = after_join participant segs
after (LeaveRoster participant) segs = after_leave participant segs
after (ClaimRange list addr len page socket) segs = after_claim_range list addr len page socket segs
after (ReleaseRange list) segs = after_release_range list segs

-- the condition of a call
abbrev pub May : SegsCall → SegsView → Type 0
May (Reserve n) segs = Unit {0}
May (OpenRun ask run) segs = MayOpen ask run segs
May (CloseAsk ask cause) segs = MayClose ask cause segs
May (LogStale from number) segs = MayLogStale from number segs
May (NoteFailed participant call row got) segs = MayNote participant row got segs
May (Agree acks) segs = MayAgree segs × (length acks ≡ 16)
May (Cancel cause) segs = MayCancel cause segs
May (Claim from number) segs = IsUnclaimedGrant from number segs
May (Arm ask) segs = MayArm ask segs
May (Withdraw from number since now) segs = MayWithdraw from number segs
May (Retire heap run) segs = OwnsRun heap run segs
May DropRetiring segs = MayDrop segs
May (LogFreed from number) segs = MayLogFreed from number segs
May (JoinRoster participant acked) segs = MayJoin participant acked segs
May (LeaveRoster participant) segs = MayLeave participant segs
May (ClaimRange list addr len page socket) segs = range_plan addr len page segs ≡ Ok list
May (ReleaseRange list) segs = IsTrue (is_claimed segs list)

-- the calls lead from one value to another, each under its condition
abbrev pub Leads : List SegsCall → SegsView → SegsView → Type 0
Leads [] old new = new ≡ old
Leads (call ∷ calls) old new = May call old × Leads calls (after call old) new

-- a call that opens or grants a growth
abbrev pub is_growth_step : SegsCall → Bool
is_growth_step (OpenRun ask run) = true
is_growth_step (Agree acks) = true
is_growth_step _ = false

-- the calls that one form of a give allows, each beside calls that only take memory: those that log, those on the roster, those by
-- which a heap takes and gives up rows, and those on external memory
abbrev pub is_log_call : SegsCall → Bool
is_log_call (Reserve n) = true
is_log_call (OpenRun ask run) = true
is_log_call (CloseAsk ask cause) = true
is_log_call (LogStale from number) = true
is_log_call (NoteFailed participant call row got) = true
is_log_call (Agree acks) = true
is_log_call (Cancel cause) = true
is_log_call (Arm ask) = true
is_log_call (Withdraw from number since now) = true
is_log_call DropRetiring = true
is_log_call (LogFreed from number) = true
is_log_call _ = false

abbrev pub is_roster_call : SegsCall → Bool
is_roster_call (Reserve n) = true
is_roster_call (JoinRoster participant acked) = true
is_roster_call (LeaveRoster participant) = true
is_roster_call _ = false

abbrev pub is_owner_call : SegsCall → Bool
is_owner_call (Reserve n) = true
is_owner_call (Claim from number) = true
is_owner_call (Retire heap run) = true
is_owner_call _ = false

abbrev pub is_range_call : SegsCall → Bool
is_range_call (Reserve n) = true
is_range_call (ClaimRange list addr len page socket) = true
is_range_call (ReleaseRange list) = true
is_range_call _ = false

-- the pools stay, and records and outcomes come after the others alone
pub record Appends (old new : SegsView) : Type 0 where
  pub pools : new.pools ≡ old.pools
  pub records : List LogRecord
  pub log : new.log ≡ old.log ++ records
  pub outcomes : List AskLog
  pub asks : new.asks ≡ old.asks ++ outcomes

-- one value comes from another by calls under their conditions, each of which is allowed, and so many of which open or grant a growth
-- at most
pub record IsMovedBy (allowed : SegsCall → Bool) (steps : ℕ) (old new : SegsView) : Type 0 where
  pub calls : List SegsCall
  pub leads : Leads calls old new
  pub only : All (λ call. IsTrue (allowed call)) calls
  pub few : count_by is_growth_step calls ≤ steps

-- one value comes from another by any calls under their conditions, at most one of which opens or grants a growth
abbrev pub IsMoved : SegsView → SegsView → Type 0
IsMoved old new = IsMovedBy (λ call. true) 1 old new
