-- How the seats of a new board are dealt. No public clause cites this module.
use Rattle.std.specs.Prelude.{ℕ}
use Rattle.atomic_table.specs.Seated.{TableId}
use Rattle.hp_board.specs.declared.opening.Opening.{Opening}
use Rattle.hp_board.specs.SeatView.{SeatView}
use Rattle.hp_board.specs.Views.{newcomer}

-- a participant's seat at the board of a table
abbrev pub dealt_seat : TableId → Opening → ℕ → SeatView
dealt_seat id opening who = record { board = id; mine = newcomer opening who }
