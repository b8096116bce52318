-- What participants that reserve and free memzones by turns have between their steps.
use Rattle.std.specs.Prelude.{◌≡◌, ℕ, ◌<◌, List, [], ◌∷◌, None, All, length}
use Rattle.atomic_table.specs.Seated.{TableId}
use Rattle.hp_zone.specs.declared.names.Names.{Names as NamesView}
use Rattle.hp_hall.specs.Holding.{AgreeWith}
use Rattle.hp_hall.specs.declared.kept.Kept.{Kept}
use Rattle.hp_hall.specs.declared.kept.Kept.TheVariants.{Names}
use Rattle.hp_board.specs.declared.words.TheConstants.{SLOTS}
use Rattle.hp_board.specs.Knowing.{heap_part}
use Rattle.hp_board.specs.SeatView.{SeatView}

-- a participant's seat at a board of three holds these slots with these values and is armed with no ask; so many entries were made from it,
-- each in a slot of the board
pub record Sits (board : TableId) (who made : ℕ) (held : List (ℕ × Kept)) (seat : SeatView) : Type 0 where
  pub board_is : seat.board ≡ board
  pub three : seat.mine.opening.participants ≡ 3
  pub who_is : seat.mine.who ≡ who
  pub held_is : seat.mine.held ≡ held
  pub unarmed : seat.mine.armed ≡ None
  pub placed : All (λ pair. pair.0 < SLOTS) seat.mine.made
  pub count : length seat.mine.made ≡ made

-- it holds nothing
abbrev pub IsFree : TableId → ℕ → ℕ → SeatView → Type 0
IsFree board who made seat = Sits board who made [] seat

-- it holds the names alone, and these agree with what it knows of the heaps and of external memory
pub record HoldsNames (board : TableId) (who made : ℕ) (names : NamesView) (seat : SeatView) : Type 0 where
  pub sits : Sits board who made ((33, Names names) ∷ []) seat
  pub agree : AgreeWith (heap_part seat.mine) names
