-- What the table keeps of the slots of its lists. No public clause cites this module.
use Rattle.std.specs.Prelude.{◌≡◌, ℕ, ◌+◌, ◌^◌, ◌<◌, ◌≤◌, List, [], map, Some, length, replicate, slice_get, slice_index_or, slice_set}
use Rattle.std.specs.List.{All}
use Rattle.hp_base.specs.declared.row.Row.{Row}
use Rattle.hp_base.specs.declared.row.Run.{Run}
use Rattle.hp_segs.specs.Masks.{with_places}
use Rattle.hp_segs.specs.Steps.{segment_of}
use Rattle.hp_segs.specs.declared.list_info.ListInfo.{ListInfo}
use Rattle.hp_segs.specs.declared.row_state.RowState.{RowState}
use Rattle.hp_segs.specs.declared.row_state.RowState.TheVariants.{Opened}
use Rattle.hp_segs.specs.declared.row_state.Segment.{Segment}

-- the generation and the state of the row at each slot of a list; at a slot without a row they say nothing
pub record SlotsView : Type 0 where
  pub generations : List ℕ
  pub states : List RowState

-- a list without slots
abbrev pub no_slots : SlotsView
no_slots = record { generations = []; states = [] }

-- the slots of a list without rows
abbrev pub fresh_slots : ListInfo → SlotsView
fresh_slots info = record { generations = replicate info.slots 0; states = replicate info.slots Opened }

-- what is kept of the slots of a list
abbrev pub slots_in : List SlotsView → ℕ → SlotsView
slots_in kept list = slice_index_or kept list no_slots

-- the generation that is kept for a slot
abbrev pub generation_kept : List SlotsView → ℕ → ℕ → ℕ
generation_kept kept list slot = slice_index_or (slots_in kept list).generations slot 0

-- the state that is kept for a slot
abbrev pub state_kept : List SlotsView → ℕ → ℕ → RowState
state_kept kept list slot = slice_index_or (slots_in kept list).states slot Opened

-- rows with the states that are kept for their slots
abbrev pub kept_segment : List SlotsView → Row → Segment
kept_segment kept row = segment_of (state_kept kept row.list row.slot) row

abbrev pub kept_segments : List SlotsView → List Row → List Segment
kept_segments kept rows = map (kept_segment kept) rows

-- the slots of a list, where those of a run have rows of a generation
abbrev pub stamped_list : SlotsView → Run → ℕ → SlotsView
stamped_list slots run generation = record slots { generations = with_places slots.generations run.first run.count generation }

-- the slots of a list, where those of a run have a state
abbrev pub changed_list : SlotsView → Run → RowState → SlotsView
changed_list slots run state = record slots { states = with_places slots.states run.first run.count state }

-- what is kept after rows of a generation came at the slots of a run
abbrev pub stamped_slots : List SlotsView → Run → ℕ → List SlotsView
stamped_slots kept run generation = slice_set kept run.list (stamped_list (slots_in kept run.list) run generation)

-- what is kept after the rows at the slots of a run took a state
abbrev pub changed_slots : List SlotsView → Run → RowState → List SlotsView
changed_slots kept run state = slice_set kept run.list (changed_list (slots_in kept run.list) run state)

-- the slots of the run are among those that are kept
pub record HasRun (kept : List SlotsView) (run : Run) : Type 0 where
  pub list : run.list < length kept
  pub generations : run.first + run.count ≤ length (slots_in kept run.list).generations
  pub states : run.first + run.count ≤ length (slots_in kept run.list).states
  pub small : run.first + run.count < 2 ^ 32

-- there is a place for each slot of the lists, and at it the generation of the slot's row
pub record AreSlots (kept : List SlotsView) (lists : List ListInfo) (rows : List Row) : Type 0 where
  pub long : length kept ≡ length lists
  pub generations : (list : ℕ) (info : ListInfo) → slice_get lists list ≡ Some info → length (slots_in kept list).generations ≡ info.slots
  pub states : (list : ℕ) (info : ListInfo) → slice_get lists list ≡ Some info → length (slots_in kept list).states ≡ info.slots
  pub stamped : All (λ row. generation_kept kept row.list row.slot ≡ row.generation) rows
