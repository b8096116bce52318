-- Two participants that act in their halls, and what they bring home from these.
use Rattle.std.specs.Prelude.{◌≡◌, ℕ, List, [], Some, None, length}
use Rattle.std.specs.List.{slice_get}
use Rattle.atomic_table.specs.Seated.{TableId}
use Rattle.hp_hall.specs.HallState.{HallState}
use Rattle.hp_hall.specs.Holding.{HeapPart}
use Rattle.hp_hall.specs.Mail.{MailStep}
use Rattle.hp_mail.specs.PassView.{MailboxView, PassView, WasInOrder}
use Rattle.hp_stats.specs.StatViews as stats
use Rattle.hp_board.specs.BoardView.{BoardView}
use Rattle.hp_board.specs.SeatView.{SeatView}
use Rattle.hp_chair.specs.ChairView.{ChairView}
use Rattle.hp_chair.specs.Places.{ArePlaces, HasPasses}
use Rattle.hp_chair.specs.Steps.{moves_in}

-- a participant of two has nothing in hand in its hall
pub record IsIdle (who : ℕ) (state : HallState) : Type 0 where
  pub serves : state.serves who
  pub two : state.count ≡ 2
  pub free : (number : ℕ) → state.taken number ≡ None

-- a participant has made no call of a heap, and is armed with no ask
pub record IsUntouched (part : HeapPart) : Type 0 where
  pub entries : part.entries ≡ []
  pub unarmed : part.armed ≡ None

-- what a hall hands out is what it had at its end, and tells its steps
pub record IsBrought (chair : ChairView) (seat : SeatView) (passes : List PassView) (pass : stats.PassView) : Type 0 where
  pub seat_is : seat ≡ chair.seat
  pub passes_are : passes ≡ chair.passes
  pub stats_is : pass ≡ chair.stats
  pub moves : seat.mine.moves ≡ moves_in chair.steps
  pub has : HasPasses chair.seat.mine.who chair.seat.mine.opening.participants chair.steps passes

-- A participant has come home from its hall: its seat is one of the board and holds nothing; what it took and gave, and what its passes to the
-- mailboxes of both have posted and fetched, is what its steps say; and its pass to the statistics is one to the cells.
pub record IsHome (who : ℕ) (board : BoardView) (boxes : List MailboxView) (cells : List TableId) (seat : SeatView) (passes : List PassView)
    (pass : stats.PassView) : Type 0 where
  pub sits : seat.board ≡ board.id
  pub whose : seat.mine.who ≡ who
  pub holds : seat.mine.held ≡ []
  pub steps : List MailStep
  pub moves : seat.mine.moves ≡ moves_in steps
  pub places : ArePlaces who steps boxes passes
  pub reads : pass.cells ≡ cells

-- a board is of two participants, with a mailbox for each, and of these cells
pub record IsOpenedWith (board : BoardView) (boxes : List MailboxView) (cells : List TableId) : Type 0 where
  pub two : board.opening.participants ≡ 2
  pub count : length boxes ≡ 2
  pub cells_are : board.opening.cells.value ≡ cells

-- what each of two has fetched as the owner of its mailbox is, of the other, a front of what that one has posted there
pub record AreInOrder (first second : List PassView) : Type 0 where
  pub to_first : (owner sender : PassView) → slice_get first 0 ≡ Some owner → slice_get second 0 ≡ Some sender → WasInOrder owner sender
  pub to_second : (owner sender : PassView) → slice_get second 1 ≡ Some owner → slice_get first 1 ≡ Some sender → WasInOrder owner sender
