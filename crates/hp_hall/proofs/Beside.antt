-- What calls of one kind leave of a segment value: those that log leave the roster and external memory, those on the roster external memory
-- and all that is logged, and those by which rows change hands the roster, external memory and the outcomes.
use Rattle.std.proofs.Common.{◌≡◌, ◌∙◌, ℕ, Bool, true, false, List, [], ◌∷◌, Option, Some, None, IsTrue, refl, ap, if◌then◌else◌}
use Rattle.std.specs.List.{All}
use Rattle.std.proofs.lemmas.Bool.{false≢true}
use Rattle.std.proofs.lemmas.List.Elements.{All-head, All-tail}
use Rattle.hp_log.specs.declared.log_record.LogRecord.{LogRecord}
use Rattle.hp_segs.specs.LaterSteps.{armed_ask, grows_for, is_noted, noting, withdrawn_growth, withdrawn_unless}
use Rattle.hp_segs.specs.Moved.{SegsCall, Reserve, OpenRun, CloseAsk, LogStale, NoteFailed, Agree, Cancel, Claim, Arm, Withdraw, Retire, DropRetiring, LogFreed, JoinRoster, LeaveRoster, IsMovedBy, Leads, after, is_log_call, is_owner_call, is_roster_call}
use Rattle.hp_segs.specs.SegsView.{SegsView, grant_of, grant_or_refusal_of}
use Rattle.hp_segs.specs.Steps.{after_failure, agreed_growth, cancelled_growth, claimed_grant, granted_unless, lowest_member_below}
use Rattle.hp_segs.specs.declared.external_range.ExternalRange.{ExternalRange}
use Rattle.hp_segs.specs.declared.fault.NotAll.{NotAll}
use Rattle.hp_segs.specs.declared.growth.Growth.{Growth}
use Rattle.hp_segs.specs.declared.outcome.AskLog.{AskLog}
use Rattle.hp_segs.specs.declared.outcome.Cause.{Cause}
use Rattle.hp_segs.specs.declared.outcome.Cause.TheVariants.{MapFailed, Withdrawn}
use Rattle.hp_segs.specs.declared.outcome.Outcome.{Outcome}

-- what each call of a kind leaves, such calls leave
module _ {X : Type 0} (read : SegsView → X) (allowed : SegsCall → Bool)
    (each : (call : SegsCall) (segs : SegsView) → IsTrue (allowed call) → read (after call segs) ≡ read segs) where
  read_on : (calls : List SegsCall) (old new : SegsView) → Leads calls old new → All (λ call. IsTrue (allowed call)) calls → read new ≡ read old
  read_on [] old new leads only = ap read leads
  read_on (call ∷ calls) old new leads only =
      read_on calls (after call old) new leads.1 (All-tail (λ call. IsTrue (allowed call)) call calls only)
      ∙ each call old (All-head (λ call. IsTrue (allowed call)) call calls only)

  pub read_moved : (steps : ℕ) (old new : SegsView) → IsMovedBy allowed steps old new → read new ≡ read old
  read_moved steps old new moved = read_on moved.calls old new moved.leads moved.only

-- the roster and external memory
pub record Beside : Type 0 where
  pub roster : List Bool
  pub ranges : List ExternalRange

abbrev pub beside : SegsView → Beside
beside segs = record { roster = segs.roster; ranges = segs.ranges }

noted : (segs : SegsView) (growth : Option Growth) (taken : Bool)
    → beside (if taken then record segs { growth = growth } else segs) ≡ beside segs
noted segs growth true = refl
noted segs growth false = refl

granted : (segs : SegsView) (growth : Growth) (member : Option NotAll) → beside (granted_unless growth segs member) ≡ beside segs
granted segs growth None = refl
granted segs growth (Some member) = refl

agreed : (acks : List ℕ) (segs : SegsView) (growth : Option Growth) → beside (agreed_growth acks segs growth) ≡ beside segs
agreed acks segs None = refl
agreed acks segs (Some growth) = granted segs growth (lowest_member_below segs.roster acks growth.generation)

cancelled : (cause : Cause) (segs : SegsView) (growth : Option Growth) → beside (cancelled_growth cause segs growth) ≡ beside segs
cancelled cause segs None = refl
cancelled cause segs (Some growth) = refl

module _ (from number : ℕ) (cause : Cause) (segs : SegsView) where
  withdrawn_by : (growth : Growth) (own : Bool)
      → beside (if own then after_failure growth cause (armed_ask segs from) 0 segs else withdrawn_growth from number cause segs None) ≡ beside segs
  withdrawn_by growth true = refl
  withdrawn_by growth false = refl

  withdrawn : (growth : Option Growth) → beside (withdrawn_growth from number cause segs growth) ≡ beside segs
  withdrawn None = refl
  withdrawn (Some growth) = withdrawn_by growth (grows_for from number growth)

  withdrawn_where : (standing : Option Outcome) → beside (withdrawn_unless from number cause segs standing) ≡ beside segs
  withdrawn_where (Some outcome) = refl
  withdrawn_where None = withdrawn segs.growth

log_call_beside : (call : SegsCall) (segs : SegsView) → IsTrue (is_log_call call) → beside (after call segs) ≡ beside segs
log_call_beside (Reserve n) segs is = refl
log_call_beside (OpenRun ask run) segs is = refl
log_call_beside (CloseAsk ask cause) segs is = refl
log_call_beside (LogStale from number) segs is = refl
log_call_beside (NoteFailed participant call row got) segs is =
    noted segs (noting (MapFailed participant call row.addr got) segs.growth) (is_noted segs participant call row segs.growth)
log_call_beside (Agree acks) segs is = agreed acks segs segs.growth
log_call_beside (Cancel cause) segs is = cancelled cause segs segs.growth
log_call_beside (Arm ask) segs is = refl
log_call_beside (Withdraw from number since now) segs is =
    withdrawn_where from number (Withdrawn since now) segs (grant_or_refusal_of segs.asks from number)
log_call_beside DropRetiring segs is = refl
log_call_beside (LogFreed from number) segs is = refl
log_call_beside call segs is = absurd (false≢true is)

pub log_calls_beside : (steps : ℕ) (old new : SegsView) → IsMovedBy is_log_call steps old new → beside new ≡ beside old
log_calls_beside = read_moved beside is_log_call log_call_beside

-- what is logged, and external memory
pub record Logged : Type 0 where
  pub log : List LogRecord
  pub asks : List AskLog
  pub ranges : List ExternalRange

abbrev pub logged : SegsView → Logged
logged segs = record { log = segs.log; asks = segs.asks; ranges = segs.ranges }

roster_call_logged : (call : SegsCall) (segs : SegsView) → IsTrue (is_roster_call call) → logged (after call segs) ≡ logged segs
roster_call_logged (Reserve n) segs is = refl
roster_call_logged (JoinRoster participant acked) segs is = refl
roster_call_logged (LeaveRoster participant) segs is = refl
roster_call_logged call segs is = absurd (false≢true is)

pub roster_calls_logged : (steps : ℕ) (old new : SegsView) → IsMovedBy is_roster_call steps old new → logged new ≡ logged old
roster_calls_logged = read_moved logged is_roster_call roster_call_logged

-- all but the rows and memory
pub record Shared : Type 0 where
  pub roster : List Bool
  pub asks : List AskLog
  pub ranges : List ExternalRange

abbrev pub shared : SegsView → Shared
shared segs = record { roster = segs.roster; asks = segs.asks; ranges = segs.ranges }

claimed : (segs : SegsView) (generation : Option ℕ) → shared (claimed_grant segs generation) ≡ shared segs
claimed segs None = refl
claimed segs (Some generation) = refl

owner_call_shared : (call : SegsCall) (segs : SegsView) → IsTrue (is_owner_call call) → shared (after call segs) ≡ shared segs
owner_call_shared (Reserve n) segs is = refl
owner_call_shared (Claim from number) segs is = claimed segs (grant_of segs.asks from number)
owner_call_shared (Retire heap run) segs is = refl
owner_call_shared call segs is = absurd (false≢true is)

pub owner_calls_shared : (steps : ℕ) (old new : SegsView) → IsMovedBy is_owner_call steps old new → shared new ≡ shared old
owner_calls_shared = read_moved shared is_owner_call owner_call_shared

-- a value moved by calls that log, or by which rows change hands, has the roster of before
pub roster_logged : (steps : ℕ) (old new : SegsView) → IsMovedBy is_log_call steps old new → new.roster ≡ old.roster
roster_logged steps old new moved = ap (λ (b : Beside). b.roster) (log_calls_beside steps old new moved)

pub roster_owned : (steps : ℕ) (old new : SegsView) → IsMovedBy is_owner_call steps old new → new.roster ≡ old.roster
roster_owned steps old new moved = ap (λ (s : Shared). s.roster) (owner_calls_shared steps old new moved)
