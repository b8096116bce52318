-- What the order of a mailbox says of single frames: the rule "Mailboxes of threads" of docs/HALLS.md.
use Rattle.std.specs.Prelude.{◌≡◌, ℕ, ◌<◌, Contains, Some, length, take}
use Rattle.hp_frame.specs.declared.frame.Frame.{Frame}
use Rattle.hp_mail.specs.PassView.{HasNoStrangers, PassView, WasInOrder}
use Rattle.hp_mail.specs.Views.{frames_of}
use Rattle.hp_mail.specs.declared.letter.Letter.{Letter}

-- no frame comes out of a sender that it did not post
abbrev pub FetchedWerePosted : Type 0
FetchedWerePosted = (owner sender : PassView) → WasInOrder owner sender → (frame : Frame) → Contains (frames_of sender.who owner.fetched) frame
    → Contains sender.posted frame

-- what was fetched of a sender is the first of what it posted
abbrev pub FetchedAreTheFirst : Type 0
FetchedAreTheFirst = (owner sender : PassView) → WasInOrder owner sender
    → frames_of sender.who owner.fetched ≡ take (length (frames_of sender.who owner.fetched)) sender.posted

-- where an owner has met itself and all the others, every letter that it fetched is of a participant with a pass, which posted the frame
abbrev pub AllWerePosted : Type 0
AllWerePosted = (owner : PassView) (participants : ℕ) (pass_of : ℕ → PassView) → owner.participants ≡ Some participants
    → HasNoStrangers owner
    → ((who : ℕ) → who < participants → (pass_of who).who ≡ who) → ((who : ℕ) → who < participants → WasInOrder owner (pass_of who))
    → (letter : Letter) → Contains owner.fetched letter → (letter.from < participants) × Contains (pass_of letter.from).posted letter.frame
