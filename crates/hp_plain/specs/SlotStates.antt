-- How a slot is kept. No public clause cites this module.
use Rattle.std.specs.Prelude.{◌≡◌, Some, None, length, ⊤}
use Rattle.hp_plain.specs.declared.slot_state.State.{State}
use Rattle.hp_plain.specs.declared.slot_state.State.TheVariants.{Home, Out}
use Rattle.hp_plain.specs.HallView.{SlotView, newest_of}
use Rattle.hp_stats.specs.declared.stat_pair.StatPair.{StatPair}
use Rattle.hp_hall.specs.Values.{log_of}

abbrev pub slot_view : State → SlotView
slot_view (Home kept) = record { kept = kept; holder = None; told = None }
slot_view (Out taken records holder told) = record { kept = taken.value; holder = Some holder; told = told.value }

-- while the value is out, the number of its records is kept
abbrev pub IsCounted : State → Type 0
IsCounted (Home kept) = ⊤
IsCounted (Out taken records holder told) = records ≡ length (log_of taken.value)

-- and the newest pair of its heap is kept
pub record IsKeptIn (state : State) (newest : StatPair) : Type 0 where
  pub counted : IsCounted state
  pub newest_is : newest ≡ newest_of (slot_view state)
