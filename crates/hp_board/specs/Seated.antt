-- Whose view is with which seat: the part "Seats" of the rule in docs/BOARD.md.
use Rattle.std.specs.Prelude.{◌≡◌, ℕ, ◌<◌, List, Contains}
use mathlib.Core.Option.{some}
use lib.ListN.{get_elem?}
use Rattle.hp_board.specs.declared.view.Mine.{Mine}
use Rattle.hp_board.specs.declared.view.View.{View}

-- what is known of a part of the view of a seat
pub record IsSeatedAt (participants : ℕ) (seat_of : ℕ → ℕ) (mine : ℕ → Mine) (seat : ℕ) (part : Mine) : Type 0 where
  pub declared : part.who < participants
  pub known : part ≡ mine part.who
  pub there : seat_of part.who ≡ seat

-- Each part of a seat's view is that of a participant of the board, which has no other seat.
pub record AreSeated (participants : ℕ) (views : List View) (seat_of : ℕ → ℕ) (mine : ℕ → Mine) : Type 0 where
  pub part : (seat : ℕ) (view : View) (part : Mine) → get_elem? views seat ≡ some view → Contains view.parts part
      → IsSeatedAt participants seat_of mine seat part
