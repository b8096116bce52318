-- Two participants at one board, each with its hall.
use Rattle.std.specs.Prelude.{◌≡◌, ◌<◌, ℕ, List, [], ◌++◌, true, length}
use Rattle.hp_heap.specs.History.{HeapView}
use Rattle.hp_heap.specs.declared.entry.Entry.{Entry}
use Rattle.hp_hall.specs.HallCalls.{MayStore}
use Rattle.hp_hall.specs.HallState.{HallState}
use Rattle.hp_hall.specs.declared.slot.TheConstants.{NAMES_SLOT}
use Rattle.hp_mail.specs.PassView.{MailboxView, PassView}
use Rattle.hp_serve.specs.SegmentSlot.{MayHold}
use Rattle.hp_segs.specs.SegsView.{is_member}
use Rattle.hp_board.specs.BoardView.{BoardView}
use Rattle.hp_board.specs.SeatView.{SeatView, new_seat}
use Rattle.hp_stats.specs.StatViews as stats
use Rattle.atomic_table.specs.Seated.{TableId}
use Rattle.hp_chair.specs.Places.{ArePlaces}
use Rattle.hp_chair.specs.Publishing.{IsUnread}

-- the board is of two participants, which were both in the roster when it opened
pub record IsForTwo (board : BoardView) : Type 0 where
  pub two : board.opening.participants ≡ 2
  pub roster : (who : ℕ) → who < 2 → is_member board.opening.segs.value.roster who ≡ true

-- a participant sits at a new board of two, with its passes to the mailboxes of both, and with one to the statistics of the heaps, by which
-- nothing was read
pub record IsSeated (who : ℕ) (board : BoardView) (boxes : List MailboxView) (cells : List TableId) (seat : SeatView)
    (passes : List PassView) (pass : stats.PassView) : Type 0 where
  pub below : who < 2
  pub for_two : IsForTwo board
  pub count : length boxes ≡ 2
  pub sits : seat ≡ new_seat board who
  pub places : ArePlaces who [] boxes passes
  pub unread : IsUnread cells board.opening pass

-- a participant may tell of one line that is done, look whether another has, and take heap 0
pub record MayTell (who : ℕ) (state : HallState) : Type 0 where
  pub serves : state.serves who
  pub declared : 0 < state.count
  pub stores : MayStore who 1 state
  pub home : state.may_take 0

-- a heap goes on by calls from what it was
pub record HasGoneOn (old new : HeapView) : Type 0 where
  pub index : new.plain.index ≡ old.plain.index
  pub serves : new.plain.serves ≡ old.plain.serves
  pub more : List Entry
  pub history : new.history ≡ old.history ++ more

-- a participant may take the names
pub record MayName (who : ℕ) (state : HallState) : Type 0 where
  pub serves : state.serves who
  pub home : state.may_take NAMES_SLOT

-- a participant may take what it shows the other: the segment value, heap 0 and the names
pub record MayShow (who : ℕ) (state : HallState) : Type 0 where
  pub holds : MayHold who state
  pub tells : MayTell who state
  pub names : MayName who state
