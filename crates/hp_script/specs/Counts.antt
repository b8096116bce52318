-- What is counted along a text: pools and their segments, planned events, and the lines of each participant.
use Rattle.std.specs.Prelude.{◌≡◌, ℕ, ◌<◌, Bool, ◌&&◌, ◌==◌, List, sum_by, count_by, slice_index}
use Rattle.std.specs.List.{list_any}
use Rattle.hp_base.specs.declared.pool_line.PoolLine.{PoolLine}
use Rattle.hp_base.specs.declared.plan_entry.MsgKind.{MsgKind}
use Rattle.hp_base.specs.Plans.{kind_place}
use Rattle.hp_base.specs.declared.plan_entry.PlanEntry.{PlanEntry}
use Rattle.hp_base.specs.declared.plan_entry.PlanEntry.TheVariants as plan
use Rattle.hp_script.specs.declared.event.Event.{Event}
use Rattle.hp_script.specs.declared.line.Line.{Line}

-- the segments of the lists that pools make
abbrev pub segments_of : List PoolLine → ℕ
segments_of pools = sum_by (λ pool. pool.slots) pools

-- two pools of one socket and page
abbrev pub is_same_pool : PoolLine → PoolLine → Bool
is_same_pool pool other = (other.socket == pool.socket) && (other.page == pool.page)

-- the k-th message of a kind that concerns a participant
abbrev pub message_event : MsgKind → ℕ → ℕ → Event
message_event kind party k = record { kind = kind_place kind; party = party; k = k }

-- the k-th mapping call of a participant
abbrev pub mapping_event : ℕ → ℕ → Event
mapping_event party k = record { kind = 5; party = party; k = k }

-- the event that a plan line disturbs
abbrev pub event_of : PlanEntry → Event
event_of (plan.Message kind party k twice line) = message_event kind party k
event_of (plan.Mapping party call elsewhere line) = mapping_event party call

abbrev pub is_event : Event → Event → Bool
is_event event other = (event.kind == other.kind) && ((event.party == other.party) && (event.k == other.k))

-- a plan line disturbs the event
abbrev pub is_planned : List PlanEntry → Event → Bool
is_planned entries event = list_any (λ entry. is_event event (event_of entry)) entries

-- the lines of a participant among the participant lines
abbrev pub lines_by : ℕ → List Line → ℕ
lines_by party lines = count_by (λ line. line.participant == party) lines

-- the counts are those of the lines of the participants 0 to 15
pub record AreCounts (counts : List ℕ) (lines : List Line) : Type 0 where
  pub each : (party : ℕ) → party < 16 → slice_index counts party ≡ lines_by party lines
