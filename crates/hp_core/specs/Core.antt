-- What contracts see of the coordinator, and what a step leaves and answers.
use Rattle.std.specs.Prelude.{◌≡◌, ℕ, ◌+◌, Bool, true, false, not, ◌&&◌, ◌==◌, List, Option, Some, None, is_some, min, ◌^◌, ◌-◌}
use Rattle.std.specs.List.{list_any}
use Rattle.hp_segs.specs.SegsView.{SegsView}
use Rattle.hp_segs.specs.declared.growth.Growth.{Growth}
use Rattle.hp_core.specs.declared.asked.Asked.{Asked}
use Rattle.hp_core.specs.declared.out.Out.{Out}
use Rattle.hp_core.specs.declared.out.Out.TheVariants.{Nothing}
use Rattle.hp_core.specs.declared.phase.Next.{Next}
use Rattle.hp_core.specs.declared.phase.Phase.{Phase}
use Rattle.hp_core.specs.declared.phase.Phase.TheVariants.{Idle, Mapping, Waiting}
use Rattle.hp_core.specs.declared.phase.Round.{Round}
use Rattle.hp_core.specs.declared.phase.RoundKind.{RoundKind}
use Rattle.hp_core.specs.declared.phase.RoundKind.TheVariants as kind

-- the coordinator
pub record Core : Type 0 where
  -- how long a round waits for its members, in milliseconds
  pub deadline : ℕ
  -- what is under way
  pub phase : Phase
  -- the ask that is held for each of the participants 0 to 15
  pub held : List (Option Asked)

-- what is done with an ask or in a round: what becomes of the segment value, and how the coordinator goes on
pub record Done : Type 0 where
  pub segs : SegsView
  pub next : Next

pub record IsDone (segs : SegsView) (next : Next) (done : Done) : Type 0 where
  pub segs_is : segs ≡ done.segs
  pub next_is : next ≡ done.next

-- what a step leaves and answers
pub record Stepped : Type 0 where
  pub core : Core
  pub segs : SegsView
  pub out : Out

pub record IsStepped (core : Core) (segs : SegsView) (out : Out) (stepped : Stepped) : Type 0 where
  pub core_is : core ≡ stepped.core
  pub segs_is : segs ≡ stepped.segs
  pub out_is : out ≡ stepped.out

-- nothing is under way afterwards, and that is answered
abbrev pub idle : SegsView → Out → Done
idle segs out = record { segs = segs; next = record { phase = Idle; out = out } }

-- nothing changes, and nothing is answered
abbrev pub unchanged : Core → SegsView → Stepped
unchanged core segs = record { core = core; segs = segs; out = Nothing }

-- the coordinator goes on with a phase, and answers
abbrev pub going_on : Core → Done → Stepped
going_on core done = record { core = record core { phase = done.next.phase }; segs = done.segs; out = done.next.out }

-- nothing is under way
abbrev pub is_idle : Phase → Bool
is_idle Idle = true
is_idle (Mapping round) = false
is_idle (Waiting round since) = false

abbrev pub is_growth : RoundKind → Bool
is_growth kind.Growth = true
is_growth kind.Rollback = false
is_growth kind.Drop = false

-- the open growth is the one of the round
abbrev pub is_open_for : Round → Option Growth → Bool
is_open_for round None = false
is_open_for round (Some growth) =
    is_growth round.kind && ((growth.generation == round.generation) && ((growth.ask.from == round.from) && (growth.ask.number == round.number)))

-- the open growth is one that the coordinator did not open
abbrev pub is_foreign : Phase → Option Growth → Bool
is_foreign phase None = false
is_foreign Idle (Some growth) = true
is_foreign (Mapping round) (Some growth) = not (is_open_for round (Some growth))
is_foreign (Waiting round since) (Some growth) = not (is_open_for round (Some growth))

-- the reading at which the deadline of the round under way passes
abbrev pub due_of : ℕ → Phase → Option ℕ
due_of deadline Idle = None
due_of deadline (Mapping round) = None
due_of deadline (Waiting round since) = Some (min (since + deadline) (2 ^ 64 - 1))

-- nothing is under way, and an ask is held
abbrev pub holds_ask : Core → Bool
holds_ask core = is_idle core.phase && list_any is_some core.held
