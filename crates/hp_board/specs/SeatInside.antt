-- How a seat is kept. No public clause cites this module.
use Rattle.std.specs.Prelude.{◌≡◌, ℕ, ◌<◌, ◌≤◌, ◌==◌, List, Option, None, map, vec_capacity}
use Rattle.std.specs.List.{AllByRecursion, IsDistinct}
use Rattle.hp_hall.specs.declared.kept.Kept.{Kept}
use Rattle.hp_board.specs.declared.seat.Seat.TheInside.{Inside}
use Rattle.hp_base.specs.declared.limits.TheConstants.{MAX_PARTICIPANTS}
use Rattle.hp_board.specs.declared.words.TheConstants.{SLOTS}
use Rattle.hp_board.specs.SeatView.{SeatView}
use Rattle.hp_board.specs.Parts.{one_part, part_of}

abbrev pub seat_view : Inside → SeatView
seat_view a = record { board = a.token.table_id; mine = part_of a.token.me.0 }

-- a slot that is out with a seat, and whose value is in the holder's hand
abbrev pub emptied : ℕ → ℕ × Option Kept
emptied slot = (slot, None)

-- the numbers of pairs
abbrev pub numbers_of : {A : Type 0} → List (ℕ × A) → List ℕ
numbers_of pairs = map (λ pair. pair.0) pairs

-- the view is this participant's alone, which is one of the board's; the slots that are out with it are those that it holds, as the
-- run-time list has them
pub record IsSeat (a : Inside) : Type 0 where
  pub one : a.token.me.0 ≡ one_part (part_of a.token.me.0)
  pub who : a.who ≡ (part_of a.token.me.0).who
  pub declared : (part_of a.token.me.0).who < (part_of a.token.me.0).opening.participants
  pub few : (part_of a.token.me.0).opening.participants ≤ MAX_PARTICIPANTS
  pub out : a.token.me.1 ≡ map emptied a.order.items
  pub held : numbers_of (part_of a.token.me.0).held ≡ a.order.items
  pub distinct : IsDistinct ◌==◌ a.order.items
  pub slots : AllByRecursion (λ slot. slot < SLOTS) a.order.items
  pub room : SLOTS ≤ vec_capacity a.order
