-- What the coordinator's step logs, whatever its event is: over that walk, with the ask that was taken.
use Rattle.std.proofs.Common.{◌≡◌, ℕ, ◌<◌, List, [], ◌∷◌, ◌++◌, length, map, replicate, Option, Some, None, refl, ap, ◌∙◌, subst}
use Rattle.std.specs.Prelude.{slice_index_or}
use Rattle.hp_base.specs.declared.caught.Caught.{Caught}
use Rattle.hp_core.specs.Core.{Core}
use Rattle.hp_core.specs.Following.{after_catching, failure_of}
use Rattle.hp_core.specs.Stepping.{caught_in, stepped}
use Rattle.hp_core.specs.declared.asked.Asked.{Asked}
use Rattle.hp_core.specs.declared.asked.Asked.TheVariants as want
use Rattle.hp_core.specs.declared.event.CoreEvent.{CoreEvent}
use Rattle.hp_core.specs.declared.event.CoreEvent.TheVariants.{Grow, Shrink, SelfMapped, Poll}
use Rattle.hp_core.specs.declared.phase.Phase.{Phase}
use Rattle.hp_core.specs.declared.phase.Phase.TheVariants.{Idle, Mapping, Waiting}
use Rattle.hp_core.proofs.ArmedSteps.{noted_armed}
use Rattle.hp_core.proofs.StepWalk.{HoldsAlone, HoldsInRound, caught_holds}
use Rattle.hp_log.specs.declared.log_record.LogRecord.TheVariants.{Drop}
use Rattle.hp_segs.specs.GrowthLaws.{HasArmedGrowth}
use Rattle.hp_segs.specs.SegsView.{SegsView, closed_number}
use Rattle.hp_segs.specs.Steps.{after_agree, after_cancel}
use Rattle.hp_segs.specs.declared.outcome.AskLog.{AskLog}
use Rattle.hp_segs.specs.declared.outcome.Outcome.TheVariants.{Freed}
use Rattle.thm_run.proofs.SeatFacts.CoreLogs.{HasLogged, IsLogged, IsLoggedBy, LogMoves, adds, agree_logs, answered, cancel_logs, drops, freed, keeps, same_logs, stale, start_logs, stays, with_drops}
use Rattle.thm_run.proofs.SeatFacts.CoreWalk.{AreHeld, polls_hold, polls_keep, takes_holds, takes_keeps}
use Rattle.thm_run.proofs.RunFacts.CallCases.{catching_holds}

-- a noted failure leaves the outcomes, the armed asks, the records and the Retiring runs
record IsBeside (old mid : SegsView) : Type 0 where
  pub asks : mid.asks ≡ old.asks
  pub armed : mid.armed ≡ old.armed
  pub log : mid.log ≡ old.log
  pub retiring : mid.retiring ≡ old.retiring

catch_beside : (segs : SegsView) (ended : Caught) → IsBeside segs (after_catching 0 ended segs)
catch_beside segs ended =
    catching_holds (IsBeside segs) segs (record { asks = refl; armed = refl; log = refl; retiring = refl })
    (λ call addr got. record { asks = refl; armed = refl; log = refl; retiring = refl }) ended

-- what is logged after such a value is logged after the other
module _ (Q : Asked → Type 0) (old mid : SegsView) (beside : IsBeside old mid) where
  same_drops : with_drops mid ≡ with_drops old
  same_drops =
      ap (λ log. log ++ map (λ run. Drop run) mid.retiring) beside.log
      ∙ ap (λ retiring. old.log ++ map (λ run. Drop run) retiring) beside.retiring

  logged_behind : (new : SegsView) (entry : AskLog) → IsLogged Q mid new entry → IsLogged Q old new entry
  logged_behind new entry (stale one its from number is) = stale one its from number is
  logged_behind new entry (answered ask armed fresh from number kept is) =
      answered ask (subst (λ armed. slice_index_or armed ask.from None ≡ Some ask) beside.armed armed)
      (subst (λ asks. closed_number asks ask.from < ask.number) beside.asks fresh)
      from number kept is
  logged_behind new entry (freed from number more its fresh who which is log) =
      freed from number more its (subst (λ asks. closed_number asks from < number) beside.asks fresh) who which
      (is ∙ ap (λ log. Freed (length log)) same_drops)
      (log ∙ ap (λ log. log ++ more) same_drops)

  asks_behind : (new : SegsView) → HasLogged Q mid new → HasLogged Q old new
  asks_behind new (stays is) = stays (is ∙ beside.asks)
  asks_behind new (adds entry is its) = adds entry (is ∙ ap (λ asks. asks ++ entry ∷ []) beside.asks) (logged_behind new entry its)

  log_behind : (new : SegsView) → LogMoves mid new → LogMoves old new
  log_behind new (keeps more log retiring) = keeps more (log ∙ ap (λ log. log ++ more) beside.log) (retiring ∙ beside.retiring)
  log_behind new (drops more log retiring) = drops more (log ∙ ap (λ log. log ++ more) same_drops) retiring

  logs_behind : (new : SegsView) → IsLoggedBy Q mid new → IsLoggedBy Q old new
  logs_behind new logs =
      record { armed = logs.armed ∙ beside.armed; log = log_behind new logs.log; asks = asks_behind new logs.asks }

round_logs : (Q : Asked → Type 0) (acks : List ℕ) (segs : SegsView) → HasArmedGrowth segs → HoldsInRound (IsLoggedBy Q segs) acks segs
round_logs Q acks segs old =
    record { cancelled = λ cause its. cancel_logs Q segs cause old; agreed = agree_logs Q segs acks old }

alone_logs : (Q : Asked → Type 0) (ended : Caught) (segs mid : SegsView) → IsBeside segs mid → HasArmedGrowth mid
    → HoldsAlone (IsLoggedBy Q segs) ended mid
alone_logs Q ended segs mid beside old = record {
  cancelled = λ cause its. logs_behind Q segs mid beside (after_cancel cause mid) (cancel_logs Q mid cause old);
  agreed = λ generation alone mapped.
      logs_behind Q segs mid beside (after_agree (replicate 16 generation) mid) (agree_logs Q mid (replicate 16 generation) old);
}

-- the ask that an event brings, where it brings one
abbrev pub Brings : (Asked → Type 0) → CoreEvent → Type 0
Brings Q (Grow ask) = Q (want.Grow ask)
Brings Q (Shrink from number) = Q (want.Shrink from number)
Brings Q (SelfMapped ended now) = Unit {0}
Brings Q (Poll now acks) = Unit {0}

-- what a step logs, where the open growth is of an armed ask
pub step_logs : (Q : Asked → Type 0) (denial : ℕ → ℕ → Option (List ℕ × ℕ)) (event : CoreEvent) (core : Core) (segs : SegsView)
    → Brings Q event → AreHeld Q core.held → HasArmedGrowth segs → IsLoggedBy Q segs (stepped denial event core segs).segs
step_logs Q denial (Grow ask) core segs brings held old =
    takes_holds (IsLoggedBy Q segs) denial segs (same_logs Q segs) (want.Grow ask) core (start_logs Q segs (want.Grow ask) brings)
step_logs Q denial (Shrink from number) core segs brings held old =
    takes_holds (IsLoggedBy Q segs) denial segs (same_logs Q segs) (want.Shrink from number) core
    (start_logs Q segs (want.Shrink from number) brings)
step_logs Q denial (SelfMapped ended now) core segs brings held old =
    let mid = after_catching 0 ended segs in
    let beside : IsBeside segs mid = catch_beside segs ended in
    caught_holds (IsLoggedBy Q segs) core segs ended now core.phase (same_logs Q segs) (logs_behind Q segs mid beside mid (same_logs Q mid))
    (alone_logs Q ended segs mid beside (noted_armed segs (failure_of ended) old))
step_logs Q denial (Poll now acks) core segs brings held old =
    polls_hold (IsLoggedBy Q segs) denial Q core segs now acks core.phase held (same_logs Q segs) (start_logs Q segs)
    (round_logs Q acks segs old)

caught_keeps : (Q : Asked → Type 0) (core : Core) (segs : SegsView) (ended : Caught) (now : ℕ) (phase : Phase) → AreHeld Q core.held
    → AreHeld Q (caught_in core segs ended now phase).core.held
caught_keeps Q core segs ended now Idle held = held
caught_keeps Q core segs ended now (Mapping round) held = held
caught_keeps Q core segs ended now (Waiting round since) held = held

-- what is held after a step was held before it, or came
pub step_keeps : (Q : Asked → Type 0) (denial : ℕ → ℕ → Option (List ℕ × ℕ)) (event : CoreEvent) (core : Core) (segs : SegsView)
    → Brings Q event → AreHeld Q core.held → AreHeld Q (stepped denial event core segs).core.held
step_keeps Q denial (Grow ask) core segs brings held = takes_keeps Q denial segs (want.Grow ask) core brings held
step_keeps Q denial (Shrink from number) core segs brings held = takes_keeps Q denial segs (want.Shrink from number) core brings held
step_keeps Q denial (SelfMapped ended now) core segs brings held = caught_keeps Q core segs ended now core.phase held
step_keeps Q denial (Poll now acks) core segs brings held = polls_keep Q denial segs core now acks core.phase held
