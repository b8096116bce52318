-- A participant's passes to the mailboxes of all: the rule "A seat at the board" of docs/HALLS.md.
use Rattle.std.specs.Prelude.{◌≡◌, ℕ, List, length, map, Some, slice_get}
use Rattle.hp_mail.specs.PassView.{IsOwner, MailboxView, PassView}
use Rattle.hp_hall.specs.Mail.{MailStep}
use Rattle.hp_chair.specs.Steps.{fetched_by, posted_to}

-- a pass is that of a participant to the mailbox at a place, and the owner's where the place is its own number; what it has posted there
-- and fetched is what the participant's steps say
pub record IsPlace (who place : ℕ) (steps : List MailStep) (mailbox : MailboxView) (pass : PassView) : Type 0 where
  pub its : pass.mailbox ≡ mailbox.id
  pub whose : pass.who ≡ who
  pub owner : place ≡ who → IsOwner pass
  pub posted : pass.posted ≡ posted_to place steps
  pub fetched : place ≡ who → map (λ letter. letter.frame) pass.fetched ≡ fetched_by steps

-- a participant has a pass to each mailbox, and its own knows that as many participants have one
pub record ArePlaces (who : ℕ) (steps : List MailStep) (boxes : List MailboxView) (passes : List PassView) : Type 0 where
  pub count : length passes ≡ length boxes
  pub knows : (pass : PassView) → slice_get passes who ≡ Some pass → pass.participants ≡ Some (length boxes)
  pub each : (place : ℕ) (mailbox : MailboxView) (pass : PassView) → slice_get boxes place ≡ Some mailbox
      → slice_get passes place ≡ Some pass → IsPlace who place steps mailbox pass

-- whichever mailbox it is for, a pass at a place is that of a participant, and the owner's where the place is its own number; what it has
-- posted there and fetched is what the participant's steps say
pub record IsPassAt (who place : ℕ) (steps : List MailStep) (pass : PassView) : Type 0 where
  pub whose : pass.who ≡ who
  pub owner : place ≡ who → IsOwner pass
  pub posted : pass.posted ≡ posted_to place steps
  pub fetched : place ≡ who → map (λ letter. letter.frame) pass.fetched ≡ fetched_by steps

-- a participant has a pass to the mailbox of each of so many, by their numbers, and its own knows how many they are
pub record HasPasses (who participants : ℕ) (steps : List MailStep) (passes : List PassView) : Type 0 where
  pub count : length passes ≡ participants
  pub knows : (pass : PassView) → slice_get passes who ≡ Some pass → pass.participants ≡ Some participants
  pub each : (place : ℕ) (pass : PassView) → slice_get passes place ≡ Some pass → IsPassAt who place steps pass
