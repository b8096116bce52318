-- Laws of the coordinator: its moves are moves of the segment value and of the plain machine, and where an Add comes.
use Rattle.std.specs.Prelude.{◌≡◌, ◌↔◌, ℕ, ◌<◌, false, true, List, [], ◌∷◌, ◌++◌, length, drop, Option, Some, None, Ok, IfSome, IsSomeAnd}
use Rattle.std.specs.List.{Contains}
use Rattle.hp_base.specs.declared.row.Run.{Run}
use Rattle.hp_log.specs.declared.log_record.LogRecord.TheVariants.{Add}
use Rattle.hp_segs.specs.Machine.{Drops, Grows, machine_of}
use Rattle.hp_segs.specs.Moved.{IsMovedBy, is_log_call}
use Rattle.hp_segs.specs.Plan.{plan_of}
use Rattle.hp_segs.specs.SegsView.{SegsView}
use Rattle.hp_segs.specs.Sound.{IsSound}
use Rattle.hp_segs.specs.Steps.{after_drop}
use Rattle.hp_segs.specs.declared.ask.Ask.{Ask}
use Rattle.hp_segs.specs.declared.growth.Growth.{Growth}
use Rattle.hp_segs.specs.declared.outcome.AskLog.{AskLog}
use Rattle.hp_segs.specs.declared.outcome.Cause.TheVariants.{Denied, Late}
use Rattle.hp_segs.specs.declared.outcome.Outcome.TheVariants.{Refused}
use Rattle.hp_core.specs.Asks.{is_armed, is_closed}
use Rattle.hp_core.specs.Core.{Core, is_foreign, is_idle}
use Rattle.hp_core.specs.Judging.{judged_at}
use Rattle.hp_core.specs.Moves.{IsCoreMove, IsLate, IsTimely}
use Rattle.hp_core.specs.Outs.{IsTaken}
use Rattle.hp_core.specs.Starting.{started, total_with}
use Rattle.hp_core.specs.declared.asked.Asked.TheVariants.{Grow}
use Rattle.hp_core.specs.declared.event.CoreEvent.{CoreEvent}
use Rattle.hp_core.specs.declared.times.Times.{Times}

-- a move of the plain machine: none, the drops, or the growth of the open growth's ask
pub data IsMachineMove (old new : SegsView) : Type 0 where
  same : machine_of new ≡ machine_of old → IsMachineMove old new
  drops : Drops old.pools (machine_of old) (machine_of new) → IsMachineMove old new
  grows : (ask : Ask) (generation : ℕ) → IsSomeAnd old.growth (λ growth. (growth.ask ≡ ask) × (growth.generation ≡ generation))
      → Grows old.pools ask generation (machine_of old) (machine_of new) → IsMachineMove old new

-- each move of the coordinator takes the plain machine to itself, through the drops, or through one growth
abbrev pub MovesAreSteps : Type 0
MovesAreSteps = (times : Times) (acks : List ℕ) (old new : SegsView) → IsSound old → IsCoreMove times acks old new → IsMachineMove old new

-- each move is by calls of the segment value that log, under their conditions, and at most one of them opens or grants a growth
abbrev pub MovesAreMoved : Type 0
MovesAreMoved = (times : Times) (acks : List ℕ) (old new : SegsView) → IsCoreMove times acks old new → IsMovedBy is_log_call 1 old new

-- a sound value's growth is cancelled as Late for a late member alone: nothing is noted, it is the lowest one below the growth's
-- generation, and the deadline has passed
abbrev pub LatesAreLate : Type 0
LatesAreLate = (times : Times) (acks : List ℕ) (segs : SegsView) (participant from to : ℕ) → IsSound segs
    → IsTimely times acks segs (Late participant from to) → IsLate times acks segs participant from to

-- a started ask for memory with which its participant is armed
pub record IsStarted (ask : Ask) (segs : SegsView) : Type 0 where
  pub fresh : is_closed (Grow ask) segs ≡ false
  pub armed : is_armed ask segs ≡ true

-- the plan after the drops is that run, and no validator denies it
pub record IsPlanned (denial : ℕ → ℕ → Option (List ℕ × ℕ)) (ask : Ask) (segs : SegsView) (run : Run) : Type 0 where
  pub plan : plan_of ask segs ≡ Ok run
  pub allowed : denial ask.socket (total_with ask run segs) ≡ None

-- after the drops an Add of a run comes exactly where that run is planned and no validator denies it
abbrev pub AddsExactly : Type 0
AddsExactly = (denial : ℕ → ℕ → Option (List ℕ × ℕ)) (ask : Ask) (segs : SegsView) (run : Run) → IsStarted ask segs
    → ((started denial (Grow ask) segs).segs.log ≡ (after_drop segs).log ++ Add run ask.heap ∷ []) ↔ IsPlanned denial ask (after_drop segs) run

-- an ask is refused as Denied only where the judge denies the socket's bytes with the planned run's: the validator and its limit are
-- those that it names
pub record IsJudged (denial : ℕ → ℕ → Option (List ℕ × ℕ)) (ask : Ask) (segs : SegsView) (validator : List ℕ) (limit total : ℕ) : Type 0 where
  pub run : Run
  pub plan : plan_of ask segs ≡ Ok run
  pub sum : total ≡ total_with ask run segs
  pub denied : denial ask.socket total ≡ Some (validator, limit)

abbrev pub DenialsAreJudged : Type 0
DenialsAreJudged = (denial : ℕ → ℕ → Option (List ℕ × ℕ)) (ask : Ask) (segs : SegsView) (entry : AskLog) (validator : List ℕ) (limit total : ℕ)
    → IsStarted ask segs → (started denial (Grow ask) segs).segs.asks ≡ (after_drop segs).asks ++ entry ∷ []
    → entry.outcome ≡ Refused (Denied validator limit total) → IsJudged denial ask (after_drop segs) validator limit total

-- the judge is asked of a run: the one that is planned after the drops for the ask that the step starts, whose socket and bytes those are
pub record IsJudgedAt (event : CoreEvent) (core : Core) (segs : SegsView) (judged : ℕ × ℕ) : Type 0 where
  pub ask : Ask
  pub run : Run
  pub taken : IsTaken event core (Grow ask)
  pub idle : is_idle core.phase ≡ true
  pub alone : is_foreign core.phase segs.growth ≡ false
  pub started : IsStarted ask segs
  pub plan : plan_of ask (after_drop segs) ≡ Ok run
  pub judged_is : judged ≡ (ask.socket, total_with ask run (after_drop segs))

-- the judge is asked of nothing but the planned run of an ask that the step starts
abbrev pub JudgedOfPlans : Type 0
JudgedOfPlans = (event : CoreEvent) (core : Core) (segs : SegsView) → IfSome (judged_at event core segs) (IsJudgedAt event core segs)

-- the judge is asked of each run that is planned for an ask that a step starts: of one that comes, and of a held one that a poll starts
abbrev pub PlansAreJudged : Type 0
PlansAreJudged = (event : CoreEvent) (core : Core) (segs : SegsView) (ask : Ask) (run : Run) → IsTaken event core (Grow ask)
    → is_idle core.phase ≡ true → is_foreign core.phase segs.growth ≡ false → IsStarted ask segs → plan_of ask (after_drop segs) ≡ Ok run
    → judged_at event core segs ≡ Some (ask.socket, total_with ask run (after_drop segs))

-- at a step the judge is asked of a run for that ask, at that total, and may give that answer
pub record IsJudgedSo (denies : ℕ → ℕ → Option (List ℕ × ℕ) → Type 0) (event : CoreEvent) (core : Core) (segs : SegsView) (ask : Ask) (run : Run)
    (total : ℕ) (answer : Option (List ℕ × ℕ)) : Type 0 where
  pub judged : IsJudgedAt event core segs (ask.socket, total)
  pub its_ask : judged.ask ≡ ask
  pub its_run : judged.run ≡ run
  pub given : denies ask.socket total answer

-- an ask is denied by the judge: that names the validator and its limit, which is below the total
pub record IsDenied (denies : ℕ → ℕ → Option (List ℕ × ℕ) → Type 0) (event : CoreEvent) (core : Core) (segs : SegsView) (entry : AskLog)
    (validator : List ℕ) (limit total : ℕ) : Type 0 where
  pub ask : Ask
  pub run : Run
  pub kept : entry.ask ≡ Some ask
  pub judged : IsJudgedSo denies event core segs ask run total (Some (validator, limit))
  pub below : limit < total

-- a growth is allowed by the judge: that names no validator
pub record IsAllowed (denies : ℕ → ℕ → Option (List ℕ × ℕ) → Type 0) (event : CoreEvent) (core : Core) (segs : SegsView) (growth : Growth)
    : Type 0 where
  pub total : ℕ
  pub judged : IsJudgedSo denies event core segs growth.ask growth.run total None

-- what a step logs as Denied, and what it opens, is the judge's: each ask that it refuses so is denied by the judge, and the growth that it
-- opens is allowed
pub record IsByJudge (denies : ℕ → ℕ → Option (List ℕ × ℕ) → Type 0) (event : CoreEvent) (core : Core) (old new : SegsView) : Type 0 where
  pub denied : (entry : AskLog) (validator : List ℕ) (limit total : ℕ) → Contains (drop (length old.asks) new.asks) entry
      → entry.outcome ≡ Refused (Denied validator limit total) → IsDenied denies event core old entry validator limit total
  pub opened : (growth : Growth) → old.growth ≡ None → new.growth ≡ Some growth → IsAllowed denies event core old growth
