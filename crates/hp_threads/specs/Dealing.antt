-- How passes to mailboxes come to participants.
use Rattle.std.specs.Prelude.{◌≡◌, ℕ, ◌+◌, List, [], ◌∷◌, ◌++◌, length, map, Some, slice_get}
use Rattle.std.specs.List.{range_with_len}
use Rattle.hp_mail.specs.PassView.{MailboxView, PassView, new_pass}
use Rattle.hp_chair.specs.Places.{ArePlaces}

-- some passes and one more
abbrev pub longer : List PassView × PassView → List PassView
longer both = both.0 ++ both.1 ∷ []

-- a participant's passes to new mailboxes, whose owners are numbered on from a number
abbrev pub passes_from : ℕ → ℕ → List MailboxView → ℕ → List PassView
passes_from participants owner [] who = []
passes_from participants owner (mailbox ∷ boxes) who =
    new_pass mailbox.id participants owner who ∷ passes_from participants (owner + 1) boxes who

-- those of so many participants, by their numbers
abbrev pub all_passes_for : ℕ → List MailboxView → List (List PassView)
all_passes_for participants boxes = map (passes_from participants 0 boxes) (range_with_len 0 participants)

-- each participant has its passes to all mailboxes, by which nothing was posted or fetched
pub record ArePlaced (participants : ℕ) (boxes : List MailboxView) (all_passes : List (List PassView)) : Type 0 where
  pub count : length all_passes ≡ participants
  pub each : (who : ℕ) (passes : List PassView) → slice_get all_passes who ≡ Some passes → ArePlaces who [] boxes passes
