-- How often a plan loses messages, or doubles them. The rule "Reasons" of docs/RUNS.md.
use Rattle.std.specs.Prelude.{◌≡◌, ℕ, zero, suc, ◌+◌, ◌≤◌, Bool, true, false, not, ◌&&◌, ◌==◌, List, count_by, if◌then◌else◌}
use Rattle.hp_base.specs.Plans.{action_of, kind_place}
use Rattle.hp_base.specs.declared.plan.Action.{Action}
use Rattle.hp_base.specs.declared.plan.Action.TheVariants.{Deliver, Lose, Repeat}
use Rattle.hp_base.specs.declared.plan_entry.MsgKind.{MsgKind}
use Rattle.hp_base.specs.declared.plan_entry.MsgKind.TheVariants as kinds
use Rattle.hp_base.specs.declared.plan_entry.PlanEntry.{PlanEntry}
use Rattle.hp_base.specs.declared.plan_entry.PlanEntry.TheVariants.{Message, Mapping}

-- a message is lost, or comes twice
abbrev pub is_lost : Action → Bool
is_lost (Lose line) = true
is_lost (Repeat line) = false
is_lost Deliver = false

abbrev pub is_doubled : Action → Bool
is_doubled (Lose line) = false
is_doubled (Repeat line) = true
is_doubled Deliver = false

-- there are messages of that kind that concern the participant: participant 0 is sent no SYNC, and sends no reply
abbrev pub is_sent : MsgKind → ℕ → Bool
is_sent kinds.Alloc party = true
is_sent kinds.Free party = true
is_sent kinds.Sync party = not (party == 0)
is_sent kinds.Reply party = not (party == 0)
is_sent kinds.Answer party = true

-- an entry of a plan loses a message of that kind that concerns the participant, or doubles one; where there are none of that kind it loses none.
-- It counts also where the message of its number is never sent
abbrev pub entry_loses : MsgKind → ℕ → PlanEntry → Bool
entry_loses kind party (Message its_kind its_party k twice line) =
    is_sent kind party
    && ((kind_place kind == kind_place its_kind) && ((party == its_party) && (if twice then false else true)))
entry_loses kind party (Mapping its_party call elsewhere line) = false

abbrev pub entry_repeats : MsgKind → ℕ → PlanEntry → Bool
entry_repeats kind party (Message its_kind its_party k twice line) =
    (kind_place kind == kind_place its_kind) && ((party == its_party) && twice)
entry_repeats kind party (Mapping its_party call elsewhere line) = false

-- the lines of a plan that lose a message of that kind that concerns the participant, where there are any of that kind, and those that double one
abbrev pub planned_losses : List PlanEntry → MsgKind → ℕ → ℕ
planned_losses plan kind party = count_by (entry_loses kind party) plan

abbrev pub planned_repeats : List PlanEntry → MsgKind → ℕ → ℕ
planned_repeats plan kind party = count_by (entry_repeats kind party) plan

-- a plan loses no message: none of its lines loses one of a kind that there is, also none whose message is never sent; lines that name a
-- SYNC or a reply of participant 0 lose none
abbrev pub LosesNothing : List PlanEntry → Type 0
LosesNothing plan = (kind : MsgKind) (party : ℕ) → planned_losses plan kind party ≡ 0

-- how many of the first messages of that kind that concern the participant, so many, are lost, and how many of them come twice
unfoldable pub lost_among : List PlanEntry → MsgKind → ℕ → ℕ → ℕ
lost_among plan kind party zero = 0
lost_among plan kind party (suc n) =
    lost_among plan kind party n + (if is_sent kind party && is_lost (action_of plan kind party (suc n)) then 1 else 0)

unfoldable pub doubled_among : List PlanEntry → MsgKind → ℕ → ℕ → ℕ
doubled_among plan kind party zero = 0
doubled_among plan kind party (suc n) =
    doubled_among plan kind party n + (if is_doubled (action_of plan kind party (suc n)) then 1 else 0)

-- a plan loses at most as many messages as it has lines that do so, and doubles at most as many
abbrev pub LosesAsPlanned : Type 0
LosesAsPlanned = (plan : List PlanEntry) (kind : MsgKind) (party count : ℕ)
    → lost_among plan kind party count ≤ planned_losses plan kind party

abbrev pub RepeatsAsPlanned : Type 0
RepeatsAsPlanned = (plan : List PlanEntry) (kind : MsgKind) (party count : ℕ)
    → doubled_among plan kind party count ≤ planned_repeats plan kind party
