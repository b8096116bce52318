-- What a plan says of a message and of a mapping call: the rule "Plans" of docs/OUTSIDE.md.
use Rattle.std.specs.Prelude.{◌≡◌, ℕ, ◌≤◌, ◌<◌, Bool, true, false, ◌&&◌, ◌==◌, List, [], ◌∷◌, find, if◌then◌else◌, All, AllPairs, Contains}
use Rattle.std.specs.List.{list_any}
use Rattle.std.specs.Option.{option_map_or}
use Rattle.hp_base.specs.Mapping.{FailingCall, Failure, Misplaces, Refuses}
use Rattle.hp_base.specs.declared.limits.TheConstants.{MAX_COUNT}
use Rattle.hp_base.specs.declared.plan.Action.{Action}
use Rattle.hp_base.specs.declared.plan.Action.TheVariants.{Deliver, Lose, Repeat}
use Rattle.hp_base.specs.declared.plan.MapAction.{MapAction}
use Rattle.hp_base.specs.declared.plan.MapAction.TheVariants.{Ask, Refuse, Elsewhere}
use Rattle.hp_base.specs.declared.plan_entry.MsgKind.{MsgKind}
use Rattle.hp_base.specs.declared.plan_entry.MsgKind.TheVariants as message
use Rattle.hp_base.specs.declared.plan_entry.PlanEntry.{PlanEntry}
use Rattle.hp_base.specs.declared.plan_entry.PlanEntry.TheVariants.{Message, Mapping}

-- the place of a kind among the kinds of message
abbrev pub kind_place : MsgKind → ℕ
kind_place message.Alloc = 0
kind_place message.Free = 1
kind_place message.Sync = 2
kind_place message.Reply = 3
kind_place message.Answer = 4

-- the entry names the k-th message of that kind that concerns that participant ("Plans")
abbrev pub names_message : MsgKind → ℕ → ℕ → PlanEntry → Bool
names_message kind party k (Message its_kind its_party its_k twice line) =
    (kind_place kind == kind_place its_kind) && ((party == its_party) && (k == its_k))
names_message kind party k (Mapping its_party its_call elsewhere line) = false

-- the entry names that mapping call of that participant ("Plans")
abbrev pub names_mapping : ℕ → ℕ → PlanEntry → Bool
names_mapping party call (Message its_kind its_party its_k twice line) = false
names_mapping party call (Mapping its_party its_call elsewhere line) = (party == its_party) && (call == its_call)

-- two entries name the same message or mapping call ("Plans")
abbrev pub names_same : PlanEntry → PlanEntry → Bool
names_same (Message kind party k twice line) other = names_message kind party k other
names_same (Mapping party call elsewhere line) other = names_mapping party call other

-- an entry of the plan names what another one does ("Plans")
abbrev pub has_named : List PlanEntry → PlanEntry → Bool
has_named plan entry = list_any (λ other. names_same other entry) plan

-- an entry of the plan names that mapping call of that participant ("Plans")
abbrev pub plans_mapping : List PlanEntry → ℕ → ℕ → Bool
plans_mapping plan party call = list_any (names_mapping party call) plan

-- how a mapping call fails that an entry names ("Plans")
abbrev pub failure_of : Bool → Failure
failure_of false = Refuses
failure_of true = Misplaces

-- the mapping calls of a participant that the plan names, and how they fail, in the order of its entries ("Plans")
abbrev pub planned_calls : List PlanEntry → ℕ → List FailingCall
planned_calls [] party = []
planned_calls (Message kind its_party k twice line ∷ plan) party = planned_calls plan party
planned_calls (Mapping its_party call elsewhere line ∷ plan) party =
    if party == its_party then record { call = call; how = failure_of elsewhere } ∷ planned_calls plan party else planned_calls plan party

-- two entries name different things ("Plans")
abbrev pub IsOtherEntry : PlanEntry → PlanEntry → Type 0
IsOtherEntry entry other = names_same entry other ≡ false

-- what an entry does to the message that it names
abbrev pub entry_action : PlanEntry → Action
entry_action (Message kind party k false line) = Lose line
entry_action (Message kind party k true line) = Repeat line
entry_action (Mapping party call elsewhere line) = Deliver

-- what an entry does to the mapping call that it names
abbrev pub entry_map_action : PlanEntry → MapAction
entry_map_action (Message kind party k twice line) = Ask
entry_map_action (Mapping party call false line) = Refuse line
entry_map_action (Mapping party call true line) = Elsewhere line

-- what becomes of the k-th message of a kind that concerns a participant: what the entry that names it does, and else it is delivered
abbrev pub action_of : List PlanEntry → MsgKind → ℕ → ℕ → Action
action_of plan kind party k = option_map_or entry_action (find (names_message kind party k) plan) Deliver

-- what becomes of a mapping call of a participant: what the entry that names it does, and else the mapper is asked
abbrev pub map_action_of : List PlanEntry → ℕ → ℕ → MapAction
map_action_of plan party call = option_map_or entry_map_action (find (names_mapping party call) plan) Ask

-- an action is what the plan has of that message ("Plans")
abbrev pub IsAction : List PlanEntry → MsgKind → ℕ → ℕ → Action → Type 0
IsAction plan kind party k Deliver = (twice : Bool) (line : ℕ) → ¬ (Contains plan (Message kind party k twice line))
IsAction plan kind party k (Lose line) = Contains plan (Message kind party k false line)
IsAction plan kind party k (Repeat line) = Contains plan (Message kind party k true line)

-- an action is what the plan has of that mapping call ("Plans")
abbrev pub IsMapAction : List PlanEntry → ℕ → ℕ → MapAction → Type 0
IsMapAction plan party call Ask = (elsewhere : Bool) (line : ℕ) → ¬ (Contains plan (Mapping party call elsewhere line))
IsMapAction plan party call (Refuse line) = Contains plan (Mapping party call false line)
IsMapAction plan party call (Elsewhere line) = Contains plan (Mapping party call true line)

-- the participant that an entry names
abbrev pub party_of : PlanEntry → ℕ
party_of (Message kind party k twice line) = party
party_of (Mapping party call elsewhere line) = party

-- the number of the message or mapping call that an entry names
abbrev pub count_of : PlanEntry → ℕ
count_of (Message kind party k twice line) = k
count_of (Mapping party call elsewhere line) = call

-- an entry names a declared participant, and counts from 1 to 1,000,000 ("Plans")
pub record IsPlanEntry (participants : ℕ) (entry : PlanEntry) : Type 0 where
  pub declared : party_of entry < participants
  pub from_1 : 1 ≤ count_of entry
  pub few : count_of entry ≤ MAX_COUNT

-- the plan of a workload: its entries differ pairwise, name declared participants, and count from 1 to 1,000,000 ("Plans"). An entry for a
-- SYNC or a reply of participant 0 is one too, and has no effect: there is no such message
pub record ArePlanEntries (participants : ℕ) (plan : List PlanEntry) : Type 0 where
  pub distinct : AllPairs IsOtherEntry plan
  pub entries : All (IsPlanEntry participants) plan
