-- What contracts see of a mailbox and of a pass, and what becomes of a pass: the rule "Mailboxes of threads" of docs/HALLS.md.
use Rattle.std.specs.Prelude.{◌≡◌, ℕ, ◌==◌, ◌≤◌, Bool, true, List, [], ◌∷◌, ◌++◌, length, replicate, Option, Some, None, if◌then◌else◌}
use Rattle.atomic_table.specs.Seated.{TableId}
use Rattle.hp_frame.specs.declared.frame.Frame.{Frame}
use Rattle.hp_mail.specs.declared.letter.Letter.{Letter}
use Rattle.hp_mail.specs.declared.posted.Posted.{Posted}
use Rattle.hp_mail.specs.declared.posted.Posted.TheVariants.{Sent, Twice, Lost, Full}
use Rattle.hp_mail.specs.Views.{frames_of}

-- which mailbox it is, and for how many frames it has room
pub record MailboxView : Type 0 where
  pub id : TableId
  pub capacity : ℕ

-- the mailbox that a pass is for, its participant, the frames that this one has posted there, whether the participant owns the mailbox, the
-- letters that it has fetched as its owner, and how many participants have a pass, which the owner's knows
pub record PassView : Type 0 where
  pub mailbox : TableId
  pub who : ℕ
  pub posted : List Frame
  pub fetches : Bool
  pub fetched : List Letter
  pub participants : Option ℕ

-- the pass is the owner's
abbrev pub IsOwner : PassView → Type 0
IsOwner pass = pass.fetches ≡ true

-- a participant's pass before its first step, where so many participants have one
abbrev pub new_pass : TableId → ℕ → ℕ → ℕ → PassView
new_pass id participants owner who = record {
  mailbox = id;
  who = who;
  posted = [];
  fetches = who == owner;
  fetched = [];
  participants = if who == owner then Some participants else None;
}

-- how often a frame comes to the mailbox, by what is answered when it is posted
abbrev pub copies : Posted → ℕ
copies Sent = 1
copies Twice = 2
copies (Lost line) = 0
copies Full = 0

-- a frame was posted, with this answer
abbrev pub after_post : Frame → Posted → PassView → PassView
after_post frame posted pass = record pass { posted = pass.posted ++ replicate (copies posted) frame }

-- a letter was fetched
abbrev pub after_fetch : Letter → PassView → PassView
after_fetch letter pass = record pass { fetched = pass.fetched ++ letter ∷ [] }

-- What a pass shows of the letters in the mailbox: after those that were fetched before, which the owner knows, they have of the pass's
-- participant what it has posted, in its order.
pub record ShowsOwn (pass : PassView) (letters : List Letter) : Type 0 where
  pub before : List Letter
  pub fetched : pass.fetches ≡ true → before ≡ pass.fetched
  pub in_order : frames_of pass.who (before ++ letters) ≡ pass.posted

-- at a step of the call the mailbox had so many letters
abbrev pub Had : ℕ → PassView → Type 0
Had count pass = (letters : List Letter) × (length letters ≡ count) × ShowsOwn pass letters

abbrev pub WasFull : MailboxView → PassView → Type 0
WasFull mailbox pass = Had mailbox.capacity pass

abbrev pub WasEmpty : PassView → Type 0
WasEmpty pass = Had 0 pass

-- The frames fetched of a sender, and then those of it that were in the mailbox at a step of the call, are the ones that it posted, in its
-- order, each once.
abbrev pub WasInOrder : PassView → PassView → Type 0
WasInOrder owner sender =
    (letters : List Letter) × (frames_of sender.who owner.fetched ++ frames_of sender.who letters ≡ sender.posted)

-- no letter that the owner fetched is of anybody but the participants that have a pass, who have the numbers below their count
abbrev pub HasNoStrangers : PassView → Type 0
HasNoStrangers owner = (participants : ℕ) → owner.participants ≡ Some participants
    → (who : ℕ) → participants ≤ who → frames_of who owner.fetched ≡ []
