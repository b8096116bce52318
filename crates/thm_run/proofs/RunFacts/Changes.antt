-- Changes: what participants make of the segment value, one small change after another; what stays, what comes to be logged, and why it
-- is logged. There are so many participants, they wait so long, at these calls their mappers may fail, and their judges deny so.
use Rattle.std.proofs.Common.{◌≡◌, ◌≢◌, ◌∙◌, ℕ, ◌+◌, ◌*◌, ◌<◌, ◌≤◌, Bool, true, false, List, [], ◌∷◌, ◌++◌, length, map, Option, Some, None, IfSome, refl}
use Rattle.std.specs.Prelude.{slice_set}
use Rattle.hp_base.specs.Mapping.{FailingCall, FailsSo}
use Rattle.hp_base.specs.declared.map_answer.MapAnswer.{MapAnswer}
use Rattle.hp_base.specs.declared.row.Row.{Row}
use Rattle.hp_base.specs.declared.row.Run.{Run}
use Rattle.hp_core.specs.Starting.{cause_of}
use Rattle.hp_log.specs.Log.{table_of}
use Rattle.hp_log.specs.declared.log_record.LogRecord.TheVariants.{Add, Drop}
use Rattle.hp_segs.specs.LaterSteps.{is_growth_row, noted_failure, noting}
use Rattle.hp_segs.specs.Refusals.{bytes_on}
use Rattle.hp_segs.specs.SegsView.{SegsView, granted_by, is_member}
use Rattle.hp_segs.specs.Sound.{IsSound}
use Rattle.hp_segs.specs.declared.ask.Ask.{Ask}
use Rattle.hp_segs.specs.declared.growth.Growth.{Growth}
use Rattle.hp_segs.specs.declared.outcome.AskLog.{AskLog}
use Rattle.hp_segs.specs.declared.outcome.Cause.{Cause}
use Rattle.hp_segs.specs.declared.outcome.Cause.TheVariants.{Denied, Late, MapFailed, Withdrawn}
use Rattle.hp_segs.specs.declared.outcome.Outcome.{Outcome}
use Rattle.hp_segs.specs.declared.outcome.Outcome.TheVariants.{Freed, Granted, Refused, Stale}
use Rattle.hp_segs.specs.declared.plan_refusal.PlanRefusal.{PlanRefusal}
use Rattle.hp_serve.specs.Denials.{Denials}

-- why an outcome is logged, which keeps that ask: where it is a refusal, there was no plan, or a judge that denies so denied the run,
-- or the open growth failed, or a member of the roster was late, or the ask was taken back after three deadlines
pub data IsOwed (deadline : ℕ) (denies : Denials) (segs : SegsView) (kept : Option Ask) : Outcome → Type 0 where
  by_grant : (generation : ℕ) → IsOwed deadline denies segs kept (Granted generation)
  by_number : (done : ℕ) → IsOwed deadline denies segs kept (Stale done)
  by_notice : (generation : ℕ) → IsOwed deadline denies segs kept (Freed generation)
  by_plan : (refusal : PlanRefusal) → IsOwed deadline denies segs kept (Refused (cause_of refusal))
  by_judge : (ask : Ask) (denial : List ℕ × ℕ) (total : ℕ) → kept ≡ Some ask → denies ask.socket total (Some denial)
      → IsOwed deadline denies segs kept (Refused (Denied denial.0 denial.1 total))
  by_failure : (cause : Cause) → noted_failure segs ≡ Some cause → IsOwed deadline denies segs kept (Refused cause)
  by_lateness : (participant from to : ℕ) → is_member segs.roster participant ≡ true → from + deadline ≤ to
      → IsOwed deadline denies segs kept (Refused (Late participant from to))
  by_withdrawal : (since now : ℕ) → since + 3 * deadline ≤ now → IsOwed deadline denies segs kept (Refused (Withdrawn since now))

-- the outcome is a failed mapping
abbrev pub fails_mapping : Outcome → Bool
fails_mapping (Refused (MapFailed participant call addr got)) = true
fails_mapping _ = false

-- an outcome of the ask of a growth, logged beside the number of records
abbrev pub outcome_for : Growth → Outcome → Option Ask → SegsView → AskLog
outcome_for growth outcome kept segs = record {
  from = growth.ask.from;
  number = growth.ask.number;
  outcome = outcome;
  at = length segs.log;
  ask = kept;
}

-- a growth ends: its outcome keeps its ask, and grants its own records if it grants; and all that comes to the log are drops
pub record Ends (deadline : ℕ) (denies : Denials) (old new : SegsView) (growth : Growth) (entry : AskLog) : Type 0 where
  pub sound : IsSound old
  pub was_open : old.growth ≡ Some growth
  pub gone : new.growth ≡ None
  pub runs : List Run
  pub log : new.log ≡ old.log ++ map (λ run. Drop run) runs
  pub asks : new.asks ≡ old.asks ++ entry ∷ []
  pub at : entry.at ≡ length old.log
  pub kept : entry.ask ≡ Some growth.ask
  pub grants : (generation : ℕ) → granted_by entry.outcome ≡ Some generation → generation ≡ growth.generation
  pub owed : IsOwed deadline denies old entry.ask entry.outcome

-- who is in the roster stays, or a participant joins, or one other than the first leaves
pub data MovesRoster (count : ℕ) (old new : List Bool) : Type 0 where
  same : new ≡ old → MovesRoster count old new
  joins : (who : ℕ) → who < count → new ≡ slice_set old who true → MovesRoster count old new
  leaves : (who : ℕ) → who ≢ 0 → new ≡ slice_set old who false → MovesRoster count old new

-- what one change does to the records, the outcomes and the open growth
pub data Logs (count deadline : ℕ) (may_fail : ℕ → Option (List FailingCall)) (denies : Denials) (old new : SegsView) : Type 0 where
  nothing : new.log ≡ old.log → new.asks ≡ old.asks → new.growth ≡ old.growth → Logs count deadline may_fail denies old new
  -- a failed mapping of a participant is noted, of a row of the open growth, at a call at which its mapper may answer the row so
  failures : (participant call : ℕ) (row : Row) (got : MapAnswer) → participant < count → FailsSo (may_fail participant) call row got
      → IfSome old.growth (λ growth. is_growth_row growth row ≡ true) → new.log ≡ old.log → new.asks ≡ old.asks
      → new.growth ≡ noting (MapFailed participant call row.addr got) old.growth → Logs count deadline may_fail denies old new
  drops : (runs : List Run) → new.log ≡ old.log ++ map (λ run. Drop run) runs → new.asks ≡ old.asks → new.growth ≡ old.growth
      → Logs count deadline may_fail denies old new
  -- an outcome beside the open growth, which is no failed mapping and grants nothing
  outcomes : (entry : AskLog) → new.log ≡ old.log → new.asks ≡ old.asks ++ entry ∷ [] → new.growth ≡ old.growth
      → fails_mapping entry.outcome ≡ false → granted_by entry.outcome ≡ None → IsOwed deadline denies old entry.ask entry.outcome
      → Logs count deadline may_fail denies old new
  -- a growth opens, whose bytes with all others of its socket no judge that denies so denied
  opens : (ask : Ask) (run : Run) (growth : Growth) → old.growth ≡ None → new.log ≡ old.log ++ Add run ask.heap ∷ [] → new.asks ≡ old.asks
      → new.growth ≡ Some growth → growth.generation ≡ length old.log + 1 → growth.noted ≡ None → growth.ask ≡ ask
      → denies ask.socket (bytes_on (table_of new.log) ask.socket) None → Logs count deadline may_fail denies old new
  ends : (growth : Growth) (entry : AskLog) → Ends deadline denies old new growth entry → Logs count deadline may_fail denies old new

-- one change
pub record Alters (count deadline : ℕ) (may_fail : ℕ → Option (List FailingCall)) (denies : Denials) (old new : SegsView) : Type 0 where
  pub pools : new.pools ≡ old.pools
  pub roster : MovesRoster count old.roster new.roster
  pub logs : Logs count deadline may_fail denies old new

-- changes, one after another
pub data Changes (count deadline : ℕ) (may_fail : ℕ → Option (List FailingCall)) (denies : Denials) : SegsView → SegsView → Type 0 where
  stays : (segs : SegsView) → Changes count deadline may_fail denies segs segs
  alters : (old new : SegsView) → Alters count deadline may_fail denies old new → Changes count deadline may_fail denies old new
  goes_on : (first mid last : SegsView) → Changes count deadline may_fail denies first mid → Changes count deadline may_fail denies mid last
      → Changes count deadline may_fail denies first last

-- what no participant changes
pub record Stays (old new : SegsView) : Type 0 where
  pub pools : new.pools ≡ old.pools

-- the pools stay through all changes
pub changes_stay : (count deadline : ℕ) (may_fail : ℕ → Option (List FailingCall)) (denies : Denials) (old new : SegsView)
    → Changes count deadline may_fail denies old new
    → Stays old new
changes_stay count deadline may_fail denies _ _ (stays segs) = record { pools = refl }
changes_stay count deadline may_fail denies _ _ (alters old new one) = record { pools = one.pools }
changes_stay count deadline may_fail denies _ _ (goes_on old mid new here there) =
    let before = changes_stay count deadline may_fail denies old mid here in
    let behind = changes_stay count deadline may_fail denies mid new there in
    record { pools = behind.pools ∙ before.pools }
