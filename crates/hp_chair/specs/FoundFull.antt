-- What a participant knows of a mailbox that had no room for what it posted: the rule "A seat at the board" of docs/HALLS.md.
use Rattle.std.specs.Prelude.{◌≡◌, ℕ, List, [], ◌∷◌, ◌++◌, Some, slice_get, ⊤}
use Rattle.hp_base.specs.declared.plan.Action.{Action}
use Rattle.hp_base.specs.declared.plan.Action.TheVariants.{Repeat}
use Rattle.hp_frame.specs.declared.frame.Frame.{Frame}
use Rattle.hp_mail.specs.PassView.{MailboxView, PassView, WasFull}
use Rattle.hp_mail.specs.declared.posted.Posted.{Posted}
use Rattle.hp_mail.specs.declared.posted.Posted.TheVariants.{Full, Sent, Twice}
use Rattle.hp_hall.specs.Mail.{Fetches, Gives, MailStep, Notes, Posts, Takes}
use Rattle.hp_chair.specs.Places.{IsPlace}

-- A participant that had made these steps found its own mailbox full: as many letters as that has room for go with what it had posted there
-- by its pass, as they leave it, and fetched. Of the mailbox of another this holds always, since letters of others may stand there.
pub record FoundFull (who to : ℕ) (boxes : List MailboxView) (steps : List MailStep) : Type 0 where
  pub mailbox : MailboxView
  pub pass : PassView
  pub there : slice_get boxes to ≡ Some mailbox
  pub its : IsPlace who to steps mailbox pass
  pub full : WasFull mailbox pass

-- what becomes of a frame that is posted after these steps: there is no room for it only where the mailbox was full; it comes twice only
-- where that is planned, and is then there once only where after that one the mailbox was full
pub record PostedByRoom (who : ℕ) (boxes : List MailboxView) (before : List MailStep) (to : ℕ) (frame : Frame) (action : Action)
    (posted : Posted) : Type 0 where
  pub full : posted ≡ Full → FoundFull who to boxes before
  pub twice : posted ≡ Twice → (line : ℕ) × (action ≡ Repeat line)
  pub once : (line : ℕ) → action ≡ Repeat line → posted ≡ Sent → FoundFull who to boxes (before ++ Posts to frame action posted ∷ [])

-- a step after these is no post, or one whose outcome went by the room that there was
abbrev pub WentByRoom : ℕ → List MailboxView → List MailStep → MailStep → Type 0
WentByRoom who boxes before (Posts to frame action posted) = PostedByRoom who boxes before to frame action posted
WentByRoom who boxes before (Fetches frame) = ⊤
WentByRoom who boxes before (Takes slot kept) = ⊤
WentByRoom who boxes before (Gives slot kept) = ⊤
WentByRoom who boxes before (Notes note) = ⊤

-- each of these steps, made after others, is no post, or one with room as said
abbrev pub AllWentByRoom : ℕ → List MailboxView → List MailStep → List MailStep → Type 0
AllWentByRoom who boxes before steps = (step : MailStep) (first rest : List MailStep) → steps ≡ first ++ step ∷ rest
    → WentByRoom who boxes (before ++ first) step
