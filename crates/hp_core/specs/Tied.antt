-- What ties a coordinator to its segment value: the ask of a round under way is that of the open growth, or has an outcome.
use Rattle.std.specs.Prelude.{◌≡◌, ℕ, Bool, true, false, List, Option, Some, None}
use Rattle.hp_segs.specs.Moved.{IsMovedBy, SegsCall}
use Rattle.hp_segs.specs.SegsView.{SegsView, outcome_of}
use Rattle.hp_segs.specs.declared.growth.Growth.{Growth}
use Rattle.hp_segs.specs.declared.outcome.AskLog.{AskLog}
use Rattle.hp_segs.specs.declared.outcome.Outcome.{Outcome}
use Rattle.hp_core.specs.Core.{Core, is_open_for}
use Rattle.hp_core.specs.Stepping.{stepped}
use Rattle.hp_core.specs.declared.event.CoreEvent.{CoreEvent}
use Rattle.hp_core.specs.declared.phase.Phase.{Phase}
use Rattle.hp_core.specs.declared.phase.Phase.TheVariants.{Idle, Mapping, Waiting}
use Rattle.hp_core.specs.declared.phase.Round.{Round}

-- the ask of a round is that of the open growth, or has an outcome
pub data IsAccounted (round : Round) (growth : Option Growth) (asks : List AskLog) : Type 0 where
  is_open : is_open_for round growth ≡ true → IsAccounted round growth asks
  has_ended : (outcome : Outcome) → outcome_of asks round.from round.number ≡ Some outcome → IsAccounted round growth asks

abbrev pub IsTiedIn : Phase → Option Growth → List AskLog → Type 0
IsTiedIn Idle growth asks = Unit {0}
IsTiedIn (Mapping round) growth asks = IsAccounted round growth asks
IsTiedIn (Waiting round since) growth asks = IsAccounted round growth asks

-- the coordinator and the value are tied
abbrev pub IsTied : Core → SegsView → Type 0
IsTied core segs = IsTiedIn core.phase segs.growth segs.asks

-- each step leaves them tied
abbrev pub StepsTie : Type 0
StepsTie = (denial : ℕ → ℕ → Option (List ℕ × ℕ)) (event : CoreEvent) (core : Core) (segs : SegsView) → IsTied core segs
    → IsTied (stepped denial event core segs).core (stepped denial event core segs).segs

-- whatever others do to the value by its calls leaves them tied
abbrev pub MovesTie : Type 0
MovesTie = (allowed : SegsCall → Bool) (steps : ℕ) (core : Core) (old new : SegsView) → IsMovedBy allowed steps old new
    → IsTied core old → IsTied core new

-- while they are tied no round ends without an answer
abbrev pub NoneIsGone : Type 0
NoneIsGone = (core : Core) (segs : SegsView) (round : Round) (since : ℕ) → IsTied core segs → core.phase ≡ Waiting round since
    → is_open_for round segs.growth ≡ false → outcome_of segs.asks round.from round.number ≡ None → ⊥
