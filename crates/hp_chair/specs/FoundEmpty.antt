-- What a participant knows of its mailbox where nothing came out of it: the rule "A seat at the board" of docs/HALLS.md.
use Rattle.std.specs.Prelude.{◌≡◌, ℕ, List, [], ◌∷◌, ◌++◌, Option, Some, None, slice_get}
use Rattle.hp_mail.specs.PassView.{PassView, WasEmpty}
use Rattle.hp_mail.specs.declared.letter.Letter.{Letter}
use Rattle.hp_hall.specs.Mail.{Fetches, MailStep}
use Rattle.hp_board.specs.Views.{BeginsWith}
use Rattle.hp_chair.specs.ChairView.{ChairView}
use Rattle.hp_chair.specs.Places.{IsPassAt}

-- the letters that were fetched by a pass, where there is one
abbrev pub fetched_with : Option PassView → List Letter
fetched_with None = []
fetched_with (Some pass) = pass.fetched

-- the letters that a hall's participant has fetched, each a frame with its sender
abbrev pub letters_of : ChairView → List Letter
letters_of chair = fetched_with (slice_get chair.passes chair.seat.mine.who)

-- A participant that had made these steps found its mailbox empty, as far as its own frames go: by its pass, as they leave it, it had
-- fetched the first of these letters, and with them all that it had posted to itself. Of letters of others this says nothing.
pub record FoundEmpty (who : ℕ) (letters : List Letter) (steps : List MailStep) : Type 0 where
  pub pass : PassView
  pub its : IsPassAt who who steps pass
  pub first : BeginsWith letters pass.fetched
  pub empty : WasEmpty pass

-- so it was whenever one of these steps, made after others, fetched nothing
abbrev pub FoundItsMailboxEmpty : ℕ → List Letter → List MailStep → List MailStep → Type 0
FoundItsMailboxEmpty who letters before steps = (first rest : List MailStep) → steps ≡ first ++ Fetches None ∷ rest
    → FoundEmpty who letters (before ++ first)
