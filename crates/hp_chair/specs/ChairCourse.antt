-- What later states of a hall with one seat keep of earlier ones: the rule "A seat at the board" of docs/HALLS.md.
use Rattle.std.specs.Prelude.{◌≡◌, ◌⊎◌, ℕ, ◌<◌, ◌≤◌, true, List, [], ◌++◌, map}
use Rattle.std.specs.List.{AllByRecursion}
use Rattle.hp_hall.specs.Mail.{IsAsPlanned, MailStep, counted_on, full_posts}
use Rattle.hp_hall.specs.Named.{NamesGoOn}
use Rattle.hp_stats.specs.StatViews.{seen_of}
use Rattle.hp_board.specs.Views.{BeginsWith, named_of, noted_of}
use Rattle.hp_chair.specs.ChairView.{ChairView, lines_of}
use Rattle.hp_chair.specs.DoneBy.{IsDoneBy}
use Rattle.hp_chair.specs.FoundEmpty.{FoundItsMailboxEmpty, letters_of}
use Rattle.hp_chair.specs.FoundFull.{AllWentByRoom}

-- from a state to a later one: the same participant at the same board, with passes to the same mailboxes and to the same cells; what it has
-- seen of the log, of the outcomes and of the names is a front of what it has seen later, and so is what it has read and published of each
-- heap; what it knows of numbers and of lines does not fall; it made these steps, of which each post is lost exactly where that is planned,
-- and goes by the room of its mailbox, and the count of full mailboxes went on by those that found one full; what it has in hand, has
-- made, and has told of lines or looked up is what these steps make of what it was; what it had fetched is a front of what it has fetched,
-- and it fetched nothing only where its mailbox was empty; who is not declared makes no step; the turns that are left do not rise, and who
-- has stopped stays so
pub record IsChairCourse (old new : ChairView) : Type 0 where
  pub board : new.seat.board ≡ old.seat.board
  pub mailboxes : new.boxes ≡ old.boxes
  pub boxes : map (λ pass. pass.mailbox) new.passes ≡ map (λ pass. pass.mailbox) old.passes
  pub cells : new.stats.cells ≡ old.stats.cells
  pub who : new.seat.mine.who ≡ old.seat.mine.who
  pub opening : new.seat.mine.opening ≡ old.seat.mine.opening
  pub seen : BeginsWith new.seat.mine.log old.seat.mine.log
  pub heard : BeginsWith new.seat.mine.heard old.seat.mine.heard
  pub named : NamesGoOn (named_of old.seat.mine) (named_of new.seat.mine)
  pub noted : (other : ℕ) → noted_of other old.seat.mine ≤ noted_of other new.seat.mine
  pub shown : (heap : ℕ) → BeginsWith (seen_of heap new.stats) (seen_of heap old.stats)
  pub known : (other : ℕ) → lines_of other old ≤ lines_of other new
  pub steps : List MailStep
  pub made : new.steps ≡ old.steps ++ steps
  pub done : IsDoneBy old.seat.mine new.seat.mine steps
  pub fetched : BeginsWith (letters_of new) (letters_of old)
  pub vain : FoundItsMailboxEmpty old.seat.mine.who (letters_of new) old.steps steps
  pub declared : (steps ≡ []) ⊎ (old.seat.mine.who < old.seat.mine.opening.participants)
  pub room : AllWentByRoom old.seat.mine.who old.boxes old.steps steps
  pub planned : AllByRecursion IsAsPlanned steps
  pub full_mailboxes : new.full_mailboxes ≡ counted_on (full_posts steps) old.full_mailboxes
  pub turns : new.turns ≤ old.turns
  pub stopped : old.stopped ≡ true → new.stopped ≡ true
