-- What participants that attach and detach keep between their turns, and while they hold the segment value.
use Rattle.std.specs.Prelude.{◌≡◌, ℕ, ◌<◌, ◌≤◌, true, false, [], ◌∷◌, length, Some}
use Rattle.atomic_table.specs.Seated.{TableId}
use Rattle.hp_segs.specs.SegsView.{SegsView, is_member}
use Rattle.hp_segs.specs.Sound.{IsSound}
use Rattle.hp_hall.specs.Giving.{GivesSegments, Knows}
use Rattle.hp_hall.specs.declared.kept.Kept.TheVariants.{Segments}
use Rattle.hp_board.specs.Knowing.{knows_of}
use Rattle.hp_board.specs.SeatView.{SeatView}
use Rattle.hp_board.specs.declared.view.Mine.{Mine}

-- a seat is that of one of a board's three participants, holds nothing, and has seen all that its participant has acknowledged
pub record IsReady (board : TableId) (seat : SeatView) : Type 0 where
  pub board_is : seat.board ≡ board
  pub declared : seat.mine.who < 3
  pub free : seat.mine.held ≡ []
  pub seen : seat.mine.number ≤ length seat.mine.log

-- the same participant is ready again
pub record IsReadyAgain (board : TableId) (old new : SeatView) : Type 0 where
  pub ready : IsReady board new
  pub who : new.mine.who ≡ old.mine.who

-- a participant holds a segment value alone, which is sound, and has acknowledged all of its log; where it is out it has since it took that
pub record HoldsAll (old : Mine) (segs : SegsView) (mine : Mine) : Type 0 where
  pub sound : IsSound segs
  pub who : mine.who ≡ old.who
  pub held : mine.held ≡ (32, Segments segs) ∷ []
  pub number : mine.number ≡ length segs.log
  pub acked : is_member segs.roster mine.who ≡ false → (knows_of mine).acked ≡ Some (length segs.log)
  pub log : mine.log ≡ segs.log

-- a participant that has taken in the whole log, and whose table has no row where it is out, may give this value in place of the taken one: it
-- has come into the roster, or has left it
abbrev pub Changes : ℕ → SegsView → SegsView → Type 0
Changes who taken given = (knows : Knows) → knows.who ≡ who → knows.number ≡ length taken.log
    → (is_member taken.roster who ≡ false → knows.acked ≡ Some (length taken.log)) → knows.emptied ≡ true → GivesSegments knows taken given
