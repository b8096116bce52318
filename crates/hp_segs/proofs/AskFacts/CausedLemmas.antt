-- Grants and causes stay where records come after, and where outcomes come after.
use Rattle.std.proofs.Common.{◌≡◌, ◌∙◌, ℕ, ◌-◌, ◌≤◌, false, ◌||◌, List, [], ◌∷◌, ◌++◌, length, Option, Some, None, IfSome, refl, ap, sym, subst, arith, append_assoc, append-nil, length-append}
use Rattle.std.specs.List.{All, slice_get}
use Rattle.std.specs.Option.{option_and_then}
use Rattle.std.specs.List.Sorted.{IsNonDecreasingBy}
use Rattle.std.proofs.lemmas.List.Elements.{All-cons, All-nil, All-weaker}
use Rattle.std.proofs.lemmas.List.Sorted.{IsNonDecreasingBy-push}
use Rattle.hp_segs.specs.SegsView.{added_run, run_of}
use Rattle.hp_segs.specs.SoundAsks.{IsGranted}
use Rattle.std.proofs.lemmas.Bool.{or_from}
use Rattle.std.proofs.lemmas.List.{take-append-le}
use Rattle.std.proofs.lemmas.List.Folds.{list_any-append}
use Rattle.hp_base.specs.declared.row.Run.{Run}
use Rattle.hp_base.specs.declared.pool_line.PoolLine.{PoolLine}
use Rattle.hp_base.specs.declared.map_answer.MapAnswer.{MapAnswer}
use Rattle.hp_segs.specs.Causes.{HasCause, IsCaused, AllCaused}
use Rattle.hp_segs.specs.LaterSteps.{outcome_fails_from, has_failed_from}
use Rattle.hp_segs.specs.Lists.{pages_beside}
use Rattle.hp_log.specs.Log.{table_of, table_at}
use Rattle.hp_segs.specs.Plan.{IsFirstFor}
use Rattle.hp_segs.specs.Refusals.{IsAddOf, IsShort, IsFull, IsUnfit, IsDenied, IsFailedGrowth, IsFailedMapping, HasRefusalCause, IsNotedCause, IsNoted}
use Rattle.hp_segs.specs.declared.ask.Ask.{Ask}
use Rattle.hp_segs.specs.declared.growth.Growth.{Growth}
use Rattle.hp_log.specs.declared.log_record.LogRecord.{LogRecord}
use Rattle.hp_segs.specs.declared.outcome.AskLog.{AskLog}
use Rattle.hp_segs.specs.declared.outcome.Cause.{Cause}
use Rattle.hp_segs.specs.declared.outcome.Cause.TheVariants.{NoList, TooFew, ListFull, CannotHold, Denied, MapFailed, Late, Withdrawn}
use Rattle.hp_segs.specs.declared.outcome.Outcome.{Outcome}
use Rattle.hp_segs.specs.declared.outcome.Outcome.TheVariants.{Granted, Refused, Stale, Freed}
use Rattle.hp_segs.proofs.SlotFacts.ListFacts.{get_stays}

stays_by : (log more : List LogRecord) (i : ℕ) (run : Run) (entry : Option LogRecord) → slice_get log i ≡ entry → option_and_then added_run entry ≡ Some run
    → option_and_then added_run (slice_get (log ++ more) i) ≡ Some run
stays_by log more i run None here added = cc
stays_by log more i run (Some entry) here added =
    ap (option_and_then added_run) (get_stays log more i entry here) ∙ added

pub run_of_stays : (log more : List LogRecord) (generation : ℕ) (run : Run) → run_of log generation ≡ Some run
    → run_of (log ++ more) generation ≡ Some run
run_of_stays log more generation run added = stays_by log more (generation - 1) run (slice_get log (generation - 1)) refl added

granted_stays : (log more : List LogRecord) (outcome : Outcome) → IsGranted log outcome → IsGranted (log ++ more) outcome
granted_stays log more (Granted generation) granted =
    (granted.0, (granted.1.0, run_of_stays log more generation granted.1.0 granted.1.1))
granted_stays log more (Refused cause) granted = tt
granted_stays log more (Stale done) granted = tt
granted_stays log more (Freed generation) granted = tt

-- grants stay where records come after
pub grants_stay : (log more : List LogRecord) (asks : List AskLog) → All (λ entry. IsGranted log entry.outcome) asks
    → All (λ entry. IsGranted (log ++ more) entry.outcome) asks
grants_stay log more asks granted =
    All-weaker
    (λ entry. IsGranted log entry.outcome)
    (λ entry. IsGranted (log ++ more) entry.outcome)
    (λ entry granted. granted_stays log more entry.outcome granted)
    asks
    granted

-- the table at a number of records stays
pub table_at_stays : (log more : List LogRecord) (at : ℕ) → at ≤ length log → table_at log at ≡ table_at (log ++ more) at
table_at_stays log more at within = sym (ap table_of (take-append-le at log more within))

module _ (pools : List PoolLine) (log more : List LogRecord) where
  pub grown_stays : (at : ℕ) (ask : Ask) (run : Run) → at ≤ length log → IsAddOf pools log at ask run → IsAddOf pools (log ++ more) at ask run
  grown_stays at ask run within grown =
      let table = table_at_stays log more (at - 1) (omega (arith, within)) in
      record {
        some = grown.some;
        added = get_stays log more (at - 1) _ grown.added;
        first = subst (λ table. IsFirstFor pools table ask run) table grown.first;
        enough = subst (λ table. run.count ≤ pages_beside pools table run.list) table grown.enough;
        place = grown.place;
      }

  failed_stays : (at : ℕ) (ask : Ask) (run : Run) → at ≤ length log → IsFailedGrowth pools log at ask run
      → IsFailedGrowth pools (log ++ more) at ask run
  failed_stays at ask run within failed = record {
    grown = grown_stays at ask run within failed.grown;
    dropped = get_stays log more at _ failed.dropped;
  }

  mapping_stays : (at : ℕ) (ask : Ask) (addr : ℕ) (got : MapAnswer) → at ≤ length log → IsFailedMapping pools log at ask addr got
      → IsFailedMapping pools (log ++ more) at ask addr got
  mapping_stays at ask addr got within mapping = record {
    run = mapping.run;
    failed = failed_stays at ask mapping.run within mapping.failed;
    row = mapping.row;
  }

  refusal_stays : (before : List AskLog) (at : ℕ) (ask : Ask) (cause : Cause) → at ≤ length log
      → HasRefusalCause pools log before at ask cause → HasRefusalCause pools (log ++ more) before at ask cause
  refusal_stays before at ask NoList within has = has
  refusal_stays before at ask (TooFew have need) within has =
      subst (λ table. IsShort pools table ask have need) (table_at_stays log more at within) has
  refusal_stays before at ask (ListFull longest need) within has =
      subst (λ table. IsFull pools table ask longest need) (table_at_stays log more at within) has
  refusal_stays before at ask (CannotHold addr len) within has =
      subst (λ table. IsUnfit pools table ask addr len) (table_at_stays log more at within) has
  refusal_stays before at ask (Denied validator limit total) within has =
      subst (λ table. IsDenied pools table ask limit total) (table_at_stays log more at within) has
  refusal_stays before at ask (MapFailed participant call addr got) within has = (mapping_stays at ask addr got within has.0, has.1)
  refusal_stays before at ask (Late participant from to) within has = (has.0, failed_stays at ask has.0 within has.1)
  refusal_stays before at ask (Withdrawn from to) within has = has

  cause_stays : (before : List AskLog) (entry : AskLog) (outcome : Outcome) → entry.at ≤ length log
      → HasCause pools log before entry outcome → HasCause pools (log ++ more) before entry outcome
  cause_stays before entry (Granted generation) within has = (has.0, has.1, has.2, has.3, grown_stays entry.at has.0 has.1 within has.4)
  cause_stays before entry (Refused cause) within has = (has.0, has.1, refusal_stays before entry.at has.0 cause within has.2)
  cause_stays before entry (Stale done) within has = has
  cause_stays before entry (Freed generation) within has = has

  -- all causes stay where records come after
  pub caused_stays : (before asks : List AskLog) → AllCaused pools log before asks → AllCaused pools (log ++ more) before asks
  caused_stays before [] caused = tt
  caused_stays before (entry ∷ asks) caused = (
    record {
      within = omega (arith, caused.0.within, length-append log more);
      cause = cause_stays before entry entry.outcome caused.0.within caused.0.cause;
    },
    caused_stays (before ++ entry ∷ []) asks caused.1,
  )

-- one outcome more has its cause
pub caused_push : (pools : List PoolLine) (log : List LogRecord) (before asks : List AskLog) (entry : AskLog)
    → AllCaused pools log before asks → IsCaused pools log (before ++ asks) entry → AllCaused pools log before (asks ++ entry ∷ [])
caused_push pools log before [] entry caused one =
    (subst (λ before. IsCaused pools log before entry) (append-nil before) one, tt)
caused_push pools log before (first ∷ asks) entry caused one = (
  caused.0,
  caused_push pools log (before ++ first ∷ []) asks entry caused.1
      (subst (λ before. IsCaused pools log before entry) (sym (append_assoc before (first ∷ []) asks)) one),
)

-- an outcome that is no failed mapping leaves those that are logged
pub failures_stay : (asks : List AskLog) (entry : AskLog) (participant call : ℕ) → outcome_fails_from participant call entry.outcome ≡ false
    → has_failed_from asks participant call ≡ false → has_failed_from (asks ++ entry ∷ []) participant call ≡ false
failures_stay asks entry participant call other none =
    list_any-append (λ entry. outcome_fails_from participant call entry.outcome) asks (entry ∷ [])
    ∙ or_from _ _ none (ap (λ b. b || false) other)

noted_cause_stays : (asks : List AskLog) (entry : AskLog) (growth : Growth) (cause : Cause)
    → ((participant call : ℕ) → outcome_fails_from participant call entry.outcome ≡ false) → IsNotedCause asks growth cause
    → IsNotedCause (asks ++ entry ∷ []) growth cause
noted_cause_stays asks entry growth NoList other noted = noted
noted_cause_stays asks entry growth (TooFew have need) other noted = noted
noted_cause_stays asks entry growth (ListFull longest need) other noted = noted
noted_cause_stays asks entry growth (CannotHold addr len) other noted = noted
noted_cause_stays asks entry growth (Denied validator limit total) other noted = noted
noted_cause_stays asks entry growth (MapFailed participant call addr got) other noted =
    (noted.0, failures_stay asks entry participant call (other participant call) noted.1)
noted_cause_stays asks entry growth (Late participant from to) other noted = noted
noted_cause_stays asks entry growth (Withdrawn from to) other noted = noted

noted_by : (asks : List AskLog) (entry : AskLog) (growth : Growth) (noted : Option Cause)
    → ((participant call : ℕ) → outcome_fails_from participant call entry.outcome ≡ false)
    → IfSome noted (IsNotedCause asks growth) → IfSome noted (IsNotedCause (asks ++ entry ∷ []) growth)
noted_by asks entry growth None other old = tt
noted_by asks entry growth (Some cause) other old = noted_cause_stays asks entry growth cause other old

-- what is noted stays where an outcome is logged that is no failed mapping
pub noted_stays : (asks : List AskLog) (entry : AskLog) (growth : Option Growth)
    → ((participant call : ℕ) → outcome_fails_from participant call entry.outcome ≡ false) → IsNoted asks growth
    → IsNoted (asks ++ entry ∷ []) growth
noted_stays asks entry None other old = tt
noted_stays asks entry (Some growth) other old = noted_by asks entry growth growth.noted other old

within_from : (pools : List PoolLine) (log : List LogRecord) (before asks : List AskLog) → AllCaused pools log before asks
    → All (λ entry. entry.at ≤ length log) asks
within_from pools log before [] caused = All-nil (λ (entry : AskLog). entry.at ≤ length log)
within_from pools log before (entry ∷ asks) caused =
    All-cons (λ (entry : AskLog). entry.at ≤ length log) entry asks caused.0.within (within_from pools log (before ++ entry ∷ []) asks caused.1)

-- the numbers that the outcomes keep do not fall where one is logged beside all records
pub in_time_push : (pools : List PoolLine) (log : List LogRecord) (asks : List AskLog) (entry : AskLog) → AllCaused pools log [] asks
    → length log ≤ entry.at → IsNonDecreasingBy (λ (entry : AskLog). entry.at) asks
    → IsNonDecreasingBy (λ (entry : AskLog). entry.at) (asks ++ entry ∷ [])
in_time_push pools log asks entry caused at rising =
    IsNonDecreasingBy-push (λ (entry : AskLog). entry.at) asks entry rising
    (λ d some.
    let last = within_from pools log [] asks caused (length asks - 1) d (omega (arith, some)) in
    omega (arith, last, at))
