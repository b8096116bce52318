-- What the passes of a mailbox know, and how their steps change that.
use Rattle.std.specs.Prelude.{◌≡◌, ℕ, ◌+◌, ◌==◌, ◌≤◌, Bool, true, false, List, [], ◌∷◌, ◌++◌, map, Contains, Option, Some, None, if◌then◌else◌}
use Rattle.std.specs.List.{filter}
use Rattle.hp_frame.specs.declared.frame.Frame.{Frame}
use Rattle.hp_mail.specs.declared.letter.Letter.{Letter}
use Rattle.hp_mail.specs.declared.view.Sender.{Sender}
use Rattle.hp_mail.specs.declared.view.View.{View}

abbrev pub letter : ℕ → Frame → Letter
letter from frame = record { from = from; frame = frame }

-- the frames of a sender among letters, in their order
abbrev pub frames_of : ℕ → List Letter → List Frame
frames_of who letters = map (λ letter. letter.frame) (filter (λ letter. letter.from == who) letters)

-- a sender that has posted these frames
abbrev pub sender : ℕ → List Frame → Sender
sender who posted = record { who = who; posted = posted }

abbrev pub first_of : List Sender → Sender
first_of [] = sender 0 []
first_of (s ∷ senders) = s

abbrev pub rest_of : List Sender → List Sender
rest_of [] = []
rest_of (s ∷ senders) = senders

-- the first sender of a view
abbrev pub sender_of : View → Sender
sender_of v = first_of v.senders

-- the view before any participant has a pass
abbrev pub whole_view : View
whole_view = record { senders = []; fetches = true; fetched = []; deals = true; dealt = 0 }

-- the view of a pass that was taken in by another
abbrev pub empty_view : View
empty_view = record { senders = []; fetches = false; fetched = []; deals = false; dealt = 0 }

-- one sender, and nothing else
abbrev pub only_sender : Sender → View
only_sender s = record { senders = s ∷ []; fetches = false; fetched = []; deals = false; dealt = 0 }

-- the next participant got a pass: what the pass that deals has left, and what the new one has
abbrev pub after_deal : View → View
after_deal v = record v { dealt = v.dealt + 1 }

abbrev pub dealt_view : View → View
dealt_view v = only_sender (sender v.dealt [])

-- the owner got a pass, which fetches from then on: what the pass that deals has left, and what the new one has
abbrev pub after_deal_owner : View → View
after_deal_owner v = record v { fetches = false; fetched = []; dealt = v.dealt + 1 }

abbrev pub owner_view : View → View
owner_view v = record (only_sender (sender v.dealt [])) { fetches = v.fetches; fetched = v.fetched }

-- the view of a participant's pass before its first step
abbrev pub first_view : ℕ → Bool → View
first_view who is_owner = record (only_sender (sender who [])) { fetches = is_owner }

-- a pass that deals has dealt so many passes, and has fetched nothing
pub record IsLeft (dealt : ℕ) (v : View) : Type 0 where
  pub senders : v.senders ≡ []
  pub fetched : v.fetched ≡ []
  pub deals : v.deals ≡ true
  pub count : v.dealt ≡ dealt

-- the first sender goes to a pass of its own, and another pass takes in the senders of a pass
abbrev pub first_sender : View → View
first_sender v = only_sender (sender_of v)

abbrev pub other_senders : View → View
other_senders v = record v { senders = rest_of v.senders }

abbrev pub both_senders : View → View → View
both_senders v w = record v { senders = w.senders ++ v.senders }

-- a pass takes over the dealing from another, which is spent
abbrev pub with_dealing : View → View → View
with_dealing v w = record v { deals = w.deals; dealt = w.dealt }

-- how many participants have a pass, where the view is that of a pass that deals
abbrev pub participants_of : View → Option ℕ
participants_of v = if v.deals then Some v.dealt else None

-- a frame was put into the queue
abbrev pub after_put : Frame → View → View
after_put frame v = record v { senders = sender (sender_of v).who ((sender_of v).posted ++ frame ∷ []) ∷ [] }

-- a letter was taken out of the queue
abbrev pub after_get : Letter → View → View
after_get x v = record v { fetched = v.fetched ++ x ∷ [] }

-- What a view shows of the letters in the queue: after those that were fetched before, which a pass that fetches knows, they have of each
-- of its senders what that has posted, in its order; and nothing of who has no pass, where a pass that deals knows who has one.
pub record Shows (v : View) (letters : List Letter) : Type 0 where
  pub before : List Letter
  pub fetched : v.fetches ≡ true → before ≡ v.fetched
  pub in_order : (s : Sender) → Contains v.senders s → frames_of s.who (before ++ letters) ≡ s.posted
  pub strangers : v.deals ≡ true → (who : ℕ) → v.dealt ≤ who → frames_of who (before ++ letters) ≡ []

-- what a view shows of another sender too
abbrev pub ShowsBoth : Sender → View → Type 0
ShowsBoth s v = (letters : List Letter) × Shows (record v { senders = s ∷ v.senders }) letters
