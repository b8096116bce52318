-- How a board is kept. No public clause cites this module.
use Rattle.std.specs.Prelude.{◌≡◌, ◌<◌, ◌≤◌, [], vec_capacity}
use Rattle.hp_board.specs.declared.board.Board.TheInside.{Inside}
use Rattle.hp_base.specs.declared.limits.TheConstants.{MAX_HEAPS}
use Rattle.hp_board.specs.declared.words.TheConstants.{SLOTS, WORDS}
use Rattle.hp_board.specs.BoardView.{BoardView}

abbrev pub board_view : Inside → BoardView
board_view a = record { id = a.table.shared.table_id; opening = a.table.shared.key }

-- its table has a word and a slot for each slot, and there is room for all heaps
pub record IsInside (a : Inside) : Type 0 where
  pub words : a.table.shared.table_id.words ≡ WORDS
  pub slots : a.table.shared.table_id.slots ≡ SLOTS
  pub some : 0 < a.table.shared.key.participants
  pub empty : a.heaps.items ≡ []
  pub room : MAX_HEAPS ≤ vec_capacity a.heaps
