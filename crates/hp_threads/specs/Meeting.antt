-- That the passes of all meet at each mailbox, once all have come home: the rule "Threads" of docs/RUNS.md.
use Rattle.std.specs.Prelude.{◌≡◌, ◌≢◌, ℕ, ◌<◌, List, Some, length, slice_get}
use Rattle.std.specs.List.{All}
use Rattle.hp_mail.specs.PassView.{HasNoStrangers, IsOwner, MailboxView, PassView, WasInOrder}

-- a participant has a pass to each of these mailboxes, at its place, and owns the mailbox of its number
pub record ArePassesOf (boxes : List MailboxView) (who : ℕ) (passes : List PassView) : Type 0 where
  pub count : length passes ≡ length boxes
  pub its : (place : ℕ) (mailbox : MailboxView) (pass : PassView) → slice_get boxes place ≡ Some mailbox → slice_get passes place ≡ Some pass
      → pass.mailbox ≡ mailbox.id
  pub whose : (place : ℕ) (pass : PassView) → slice_get passes place ≡ Some pass → pass.who ≡ who
  pub owner : (pass : PassView) → slice_get passes who ≡ Some pass → IsOwner pass

-- so it is for all of them, by their numbers
pub record CanMeet (boxes : List MailboxView) (all_passes : List (List PassView)) : Type 0 where
  pub many : length all_passes ≡ length boxes
  pub each : (who : ℕ) (passes : List PassView) → slice_get all_passes who ≡ Some passes → ArePassesOf boxes who passes

-- these passes, one of each participant by their numbers, are to one mailbox, whose owner is one of these
pub record CanMeetAt (mailbox : MailboxView) (owner : ℕ) (passes : List PassView) : Type 0 where
  pub declared : owner < length passes
  pub its : All (λ pass. pass.mailbox ≡ mailbox.id) passes
  pub whose : (who : ℕ) (pass : PassView) → slice_get passes who ≡ Some pass → pass.who ≡ who
  pub owns : (pass : PassView) → slice_get passes owner ≡ Some pass → IsOwner pass

-- a pass to the mailbox is another participant's than the owner's
pub record IsOthers (mailbox : MailboxView) (own pass : PassView) : Type 0 where
  pub its : pass.mailbox ≡ mailbox.id
  pub apart : own.who ≢ pass.who

-- of these passes to one mailbox the owner's met itself, and all the others
pub record HaveMetAt (owner : ℕ) (passes : List PassView) : Type 0 where
  pub own : PassView
  pub its : slice_get passes owner ≡ Some own
  pub met : All (WasInOrder own) passes
  pub strangers : HasNoStrangers own

-- a participant's pass to its own mailbox met itself there, and those of all the others
pub record HasMet (owner : ℕ) (all_passes : List (List PassView)) : Type 0 where
  pub passes : List PassView
  pub own : PassView
  pub there : slice_get all_passes owner ≡ Some passes
  pub its : slice_get passes owner ≡ Some own
  pub met : (who : ℕ) (theirs : List PassView) (pass : PassView) → slice_get all_passes who ≡ Some theirs → slice_get theirs owner ≡ Some pass
      → WasInOrder own pass
  pub strangers : HasNoStrangers own

-- so it is at the mailbox of each
abbrev pub HaveMet : List (List PassView) → Type 0
HaveMet all_passes = (owner : ℕ) → owner < length all_passes → HasMet owner all_passes
