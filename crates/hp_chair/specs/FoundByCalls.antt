-- What a call in a hall with one seat tells of mailboxes, by the steps that it made: the rule "A seat at the board" of docs/HALLS.md.
use Rattle.std.specs.Prelude.{ℕ, List, ◌∷◌, ◌++◌, None}
use Rattle.hp_base.specs.declared.plan.Action.{Action}
use Rattle.hp_frame.specs.declared.frame.Frame.{Frame}
use Rattle.hp_mail.specs.declared.posted.Posted.{Posted}
use Rattle.hp_hall.specs.HallState.{Did}
use Rattle.hp_hall.specs.Mail.{Fetches, MailStep, Posts}
use Rattle.hp_chair.specs.ChairCourse.{IsChairCourse}
use Rattle.hp_chair.specs.ChairView.{ChairView, chair_state}
use Rattle.hp_chair.specs.FoundEmpty.{FoundEmpty, letters_of}
use Rattle.hp_chair.specs.FoundFull.{PostedByRoom}

-- where a call of the participant fetched nothing at one of its steps, it had fetched all that it had posted to itself
abbrev pub EmptyWhereNothingCame : Type 0
EmptyWhereNothingCame = (old new : ChairView) (first rest : List MailStep) → IsChairCourse old new
    → Did old.seat.mine.who (first ++ Fetches None ∷ rest) (chair_state old) (chair_state new)
    → FoundEmpty old.seat.mine.who (letters_of new) (old.steps ++ first)

-- where it posted a frame at one of its steps, what became of that went by the room that the mailbox had then, as far as its own frames
-- tell
abbrev pub FullWhereNothingWent : Type 0
FullWhereNothingWent = (old new : ChairView) (first rest : List MailStep) (to : ℕ) (frame : Frame) (action : Action) (posted : Posted)
    → IsChairCourse old new
    → Did old.seat.mine.who (first ++ Posts to frame action posted ∷ rest) (chair_state old) (chair_state new)
    → PostedByRoom old.seat.mine.who old.boxes (old.steps ++ first) to frame action posted
