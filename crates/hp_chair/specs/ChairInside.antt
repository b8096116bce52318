-- What a hall with one seat at a board keeps, since a step of the seat says it once. No public clause cites this module.
use Rattle.std.specs.Prelude.{◌≡◌, ℕ, ◌<◌, ◌≤◌, true, false, List, Option, Some, None, length}
use Rattle.std.specs.Option.{is_some}
use Rattle.hp_base.specs.declared.limits.TheConstants.{MAX_HEAPS, MAX_PARTICIPANTS}
use Rattle.atomic_table.specs.Seated.{TableId}
use Rattle.hp_mail.specs.PassView.{MailboxView}
use Rattle.hp_hall.specs.Mail.{MailStep}
use Rattle.hp_hall.specs.Telling.{acked_since_take, has_names}
use Rattle.hp_hall.specs.Values.{HasAsks, HasLog, HasMember, HasNames}
use Rattle.hp_hall.specs.declared.kept.Kept.{Kept}
use Rattle.hp_board.specs.BoardView.{BoardView}
use Rattle.hp_board.specs.KeptValues.{IsKeptAt}
use Rattle.hp_board.specs.Views.{holds_names, named_of, value_of}
use Rattle.hp_board.specs.declared.view.Mine.{Mine}
use Rattle.hp_stats.specs.declared.stat_pair.StatPair.{StatPair}
use Rattle.hp_chair.specs.ChairView.{ChairView, shown_of}
use Rattle.hp_chair.specs.Places.{ArePlaces}
use Rattle.hp_chair.specs.Publishing.{HasReadBy}
use Rattle.hp_chair.specs.Steps.{in_hand, moves_in, told_in}

-- a value in hand, as it was taken, is one of its slot at the board and sound, a heap with the pen of its cell; a segment value has the
-- log and the outcomes that were seen, and the participant in its roster as that knows; names have the logs that were seen; and of a heap it
-- is known what the segment value has for it
pub record IsHeldAs (mine : Mine) (slot : ℕ) (kept : Kept) : Type 0 where
  pub at : IsKeptAt mine.opening slot kept
  pub log : HasLog mine.log kept
  pub asks : HasAsks mine.heard kept
  pub names : HasNames (named_of mine) kept
  pub roster : HasMember mine.who mine.joined kept
  pub known : slot < MAX_HEAPS → is_some (value_of slot mine.holdings) ≡ true

abbrev pub AreHeld : Mine → Type 0
AreHeld mine = (slot : ℕ) (kept : Kept) → value_of slot mine.held ≡ Some kept → IsHeldAs mine slot kept

-- the seat has taken and given what the steps say, and has in hand what these leave in hand, the names where these say so
pub record IsTiedTo (steps : List MailStep) (mine : Mine) : Type 0 where
  pub moves : mine.moves ≡ moves_in steps
  pub hand : (slot : ℕ) → value_of slot mine.held ≡ in_hand slot None steps
  pub naming : holds_names mine ≡ has_names steps

-- so many records are the participant's own number, and where it is out of the roster it joins
pub record HasAcked (mine : Mine) (number : ℕ) : Type 0 where
  pub its : mine.number ≡ number
  pub joins : mine.joined ≡ false → mine.joining ≡ true

-- the records that it has acknowledged since it took the segment value, if any, are its own number
abbrev pub IsAckedBy : Option ℕ → Mine → Type 0
IsAckedBy acked mine = (number : ℕ) → acked ≡ Some number → HasAcked mine number

-- the pass is to the cells of all heaps, which are the board's; what was published of a heap since it was taken was shown; and the pass has
-- read and published what the steps say
pub record IsReader (cells : List TableId) (chair : ChairView) : Type 0 where
  pub many : length cells ≡ MAX_HEAPS
  pub opened : chair.seat.mine.opening.cells.value ≡ cells
  pub its : chair.stats.cells ≡ cells
  pub long : length chair.stats.seen ≡ MAX_HEAPS
  pub told : (heap : ℕ) (pair : StatPair) → told_in heap chair.steps ≡ Some pair → pair.entries ≤ shown_of heap chair
  pub read : HasReadBy chair.steps chair.stats

pub record IsChair (board : BoardView) (boxes : List MailboxView) (cells : List TableId) (chair : ChairView) : Type 0 where
  pub its : chair.seat.board ≡ board.id
  pub declared : chair.seat.mine.who < chair.seat.mine.opening.participants
  pub few : chair.seat.mine.opening.participants ≤ MAX_PARTICIPANTS
  pub count : length boxes ≡ chair.seat.mine.opening.participants
  pub held : AreHeld chair.seat.mine
  pub tied : IsTiedTo chair.steps chair.seat.mine
  pub acked : IsAckedBy (acked_since_take chair.steps) chair.seat.mine
  pub rooms : chair.boxes ≡ boxes
  pub places : ArePlaces chair.seat.mine.who chair.steps boxes chair.passes
  pub reads : IsReader cells chair
