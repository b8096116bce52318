-- How a frame goes into a mailbox and out of one by the passes of one participant. No public clause cites this module.
use Rattle.std.specs.Prelude.{◌≡◌, ℕ, List, Option, Some, None, slice_get, slice_set}
use Rattle.hp_base.specs.declared.plan.Action.{Action}
use Rattle.hp_base.specs.declared.plan.Action.TheVariants.{Repeat}
use Rattle.hp_frame.specs.declared.frame.Frame.{Frame}
use Rattle.hp_mail.specs.PassView.{MailboxView, PassView, WasEmpty, WasFull, after_fetch, after_post}
use Rattle.hp_mail.specs.Views.{letter}
use Rattle.hp_mail.specs.declared.posted.Posted.{Posted}
use Rattle.hp_mail.specs.declared.posted.Posted.TheVariants.{Full, Sent, Twice}

-- a frame was posted by the pass at a place
abbrev pub HavePostedBy : ℕ → Frame → Posted → List PassView → List PassView → Type 0
HavePostedBy place frame posted old new = (pass : PassView) → slice_get old place ≡ Some pass
    → new ≡ slice_set old place (after_post frame posted pass)

-- what becomes of a frame by the room of a mailbox: there is none for it only where that was full; it comes twice only where that is
-- planned, and is then there once only where after that one the mailbox was full
pub record FindsRoom (frame : Frame) (action : Action) (posted : Posted) (mailbox : MailboxView) (pass : PassView) : Type 0 where
  pub full : posted ≡ Full → WasFull mailbox pass
  pub twice : posted ≡ Twice → (line : ℕ) × (action ≡ Repeat line)
  pub once : (line : ℕ) → action ≡ Repeat line → posted ≡ Sent → WasFull mailbox (after_post frame posted pass)

-- what becomes of a frame, by the room of the mailbox at a place and by the pass to it
abbrev pub HasFoundRoom : ℕ → Frame → Action → Posted → List MailboxView → List PassView → Type 0
HasFoundRoom place frame action posted boxes passes = (mailbox : MailboxView) (pass : PassView) → slice_get boxes place ≡ Some mailbox
    → slice_get passes place ≡ Some pass → FindsRoom frame action posted mailbox pass

-- what a fetch makes of a pass: nothing comes only where the mailbox was empty
abbrev pub IsFetchedBy : Option Frame → PassView → PassView → Type 0
IsFetchedBy None old new = (new ≡ old) × WasEmpty old
IsFetchedBy (Some frame) old new = (from : ℕ) × (new ≡ after_fetch (letter from frame) old)

-- a frame was fetched by the pass at a place, or none
pub record HaveFetchedBy (place : ℕ) (frame : Option Frame) (old new : List PassView) (pass : PassView) : Type 0 where
  pub later : PassView
  pub fetched : IsFetchedBy frame pass later
  pub passes : new ≡ slice_set old place later
