-- Mailboxes of a hall of plain values: the rule "Messages" of docs/PARTICIPANTS.md.
use Rattle.std.specs.Prelude.{◌≡◌, ℕ, ◌+◌, nat_lt, sum_by, List, [], ◌∷◌, ◌++◌, length, drop, replicate, slice_get, slice_index_or, slice_set, if◌then◌else◌, ⊤}
use Rattle.hp_base.specs.declared.plan.Action.{Action}
use Rattle.hp_base.specs.declared.plan.Action.TheVariants.{Lose, Repeat, Deliver}
use Rattle.hp_frame.specs.declared.frame.Frame.{Frame}
use Rattle.hp_hall.specs.Mail.{Fetches, Gives, MailStep, Notes, Posts, Takes, full_post}
use Rattle.hp_mail.specs.declared.posted.Posted.{Posted}
use Rattle.hp_mail.specs.declared.posted.Posted.TheVariants.{Sent, Twice, Lost, Full}
use Rattle.hp_plain.specs.declared.mailbox.TheConstants.{MAILBOX_FRAMES}

-- what becomes of a message, by its plan and by how many frames the mailbox has
abbrev pub posted_as : Action → ℕ → Posted
posted_as (Lose line) count = Lost line
posted_as (Repeat line) count =
    if nat_lt (count + 1) MAILBOX_FRAMES then Twice else (if nat_lt count MAILBOX_FRAMES then Sent else Full)
posted_as Deliver count = if nat_lt count MAILBOX_FRAMES then Sent else Full

-- how often it is then in the mailbox
abbrev pub copies : Posted → ℕ
copies Sent = 1
copies Twice = 2
copies (Lost line) = 0
copies Full = 0

-- a mailbox after a message: its frame comes after all others
abbrev pub box_after : Frame → Posted → List Frame → List Frame
box_after frame posted box = box ++ replicate (copies posted) frame

-- the mailboxes of all participants, by number
abbrev pub box_of : List (List Frame) → ℕ → List Frame
box_of boxes who = slice_index_or boxes who []

-- the mailboxes after a step
abbrev pub after_step : ℕ → MailStep → List (List Frame) → List (List Frame)
after_step who (Posts to frame action posted) boxes = slice_set boxes to (box_after frame posted (box_of boxes to))
after_step who (Fetches frame) boxes = slice_set boxes who (drop 1 (box_of boxes who))
after_step who (Takes slot kept) boxes = boxes
after_step who (Gives slot kept) boxes = boxes
after_step who (Notes note) boxes = boxes

-- what is said of it is so, as far as mailboxes show it
abbrev pub IsMailStep : ℕ → MailStep → List (List Frame) → Type 0
IsMailStep who (Posts to frame action posted) boxes = posted ≡ posted_as action (length (box_of boxes to))
IsMailStep who (Fetches frame) boxes = frame ≡ slice_get (box_of boxes who) 0
IsMailStep who (Takes slot kept) boxes = ⊤
IsMailStep who (Gives slot kept) boxes = ⊤
IsMailStep who (Notes note) boxes = ⊤

-- the mailboxes went from one state to another by these steps, each with the participant that made it
abbrev pub IsMail : List (ℕ × MailStep) → List (List Frame) → List (List Frame) → Type 0
IsMail [] old new = new ≡ old
IsMail (step ∷ steps) old new = IsMailStep step.0 step.1 old × IsMail steps (after_step step.0 step.1 old) new

-- how many of these steps are posts that found a mailbox full
abbrev pub fulls_among : List (ℕ × MailStep) → ℕ
fulls_among steps = sum_by (λ step. full_post step.1) steps
