-- What participants keep between their rounds, and what comes of a heap in one.
use Rattle.std.specs.Prelude.{◌≡◌, ℕ, ◌+◌, ◌<◌, List, [], ◌++◌, None, All, length}
use Rattle.atomic_table.specs.Seated.{TableId}
use Rattle.hp_heap.specs.History.{HeapView}
use Rattle.hp_heap.specs.HistoryLaws.{runs_cut, runs_grown}
use Rattle.hp_heap.specs.Tiling.{IsTiled}
use Rattle.hp_heap.specs.declared.entry.Entry.{Entry}
use Rattle.hp_hall.specs.Giving.{IsNumbered}
use Rattle.hp_hall.specs.Naming.{LeavesNames}
use Rattle.hp_board.specs.declared.words.TheConstants.{SLOTS}
use Rattle.hp_board.specs.SeatView.{SeatView}
use Rattle.hp_board.specs.Views.{lines_told}

-- a heap came to be another by calls of a participant that had made so many entries before and has made so many after; no page and no run
-- came or went, and a heap that was tiled is so still and is to the names what it was
pub record CallsUpTo (who before after : ℕ) (taken given : HeapView) : Type 0 where
  pub index : given.plain.index ≡ taken.plain.index
  pub serves : given.plain.serves ≡ taken.plain.serves
  pub own : List Entry
  pub history : given.history ≡ taken.history ++ own
  pub numbered : IsNumbered who before own
  pub count : after ≡ before + length own
  pub pages : given.plain.pages ≡ taken.plain.pages
  pub grown : runs_grown given.history ≡ runs_grown taken.history
  pub cut : runs_cut given.history ≡ runs_cut taken.history
  pub tiled : IsTiled taken.plain → IsTiled given.plain
  pub names : IsTiled taken.plain → LeavesNames who taken.plain given.plain

-- a participant's seat at a board holds nothing, is armed with no ask and has told no line to be done; so many entries were made from it,
-- each in a slot of the board
pub record IsWorking (board : TableId) (who made : ℕ) (seat : SeatView) : Type 0 where
  pub board_is : seat.board ≡ board
  pub who_is : seat.mine.who ≡ who
  pub free : seat.mine.held ≡ []
  pub unarmed : seat.mine.armed ≡ None
  pub untold : lines_told seat.mine ≡ 0
  pub placed : All (λ pair. pair.0 < SLOTS) seat.mine.made
  pub count : length seat.mine.made ≡ made

-- a participant's seat at a board holds nothing
pub record IsBack (board : TableId) (who : ℕ) (seat : SeatView) : Type 0 where
  pub board_is : seat.board ≡ board
  pub who_is : seat.mine.who ≡ who
  pub holds : seat.mine.held ≡ []
