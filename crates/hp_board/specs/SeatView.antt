-- What contracts see of a seat.
use Rattle.std.specs.Prelude.{ℕ, List, map}
use Rattle.std.specs.List.{range_with_len}
use Rattle.atomic_table.specs.Seated.{TableId}
use Rattle.hp_board.specs.declared.view.Mine.{Mine}
use Rattle.hp_board.specs.BoardView.{BoardView}
use Rattle.hp_board.specs.Views.{newcomer}

-- the board that it sits at, and what its participant knows
pub record SeatView : Type 0 where
  pub board : TableId
  pub mine : Mine

-- a participant's seat at a new board
abbrev pub new_seat : BoardView → ℕ → SeatView
new_seat board who = record { board = board.id; mine = newcomer board.opening who }

-- the seats of a new board, by the participants' numbers
abbrev pub new_seats : BoardView → List SeatView
new_seats board = map (new_seat board) (range_with_len 0 board.opening.participants)
