-- What the passes of a ring know, and how their steps change that.
use Rattle.std.specs.Prelude.{◌≡◌, ℕ, ◌+◌, true, false, List, [], ◌∷◌, ◌++◌, Contains}
use Rattle.hp_ring.specs.Bulks.{BulkView, bulks_of}
use Rattle.hp_ring.specs.declared.view.Sender.{Sender}
use Rattle.hp_ring.specs.declared.view.View.{View}

-- a sender that has put these bulks
abbrev pub sender : ℕ → List BulkView → Sender
sender who sent = record { who = who; sent = sent }

abbrev pub first_of : List Sender → Sender
first_of [] = sender 0 []
first_of (s ∷ senders) = s

abbrev pub rest_of : List Sender → List Sender
rest_of [] = []
rest_of (s ∷ senders) = senders

-- the first sender of a view
abbrev pub sender_of : View → Sender
sender_of v = first_of v.senders

-- the view before any sender has a pass
abbrev pub whole_view : View
whole_view = record { senders = []; takes = true; taken = []; deals = true; dealt = 0 }

-- the view of a pass that was taken in by another
abbrev pub empty_view : View
empty_view = record { senders = []; takes = false; taken = []; deals = false; dealt = 0 }

-- one sender, and nothing else
abbrev pub only_sender : Sender → View
only_sender s = record { senders = s ∷ []; takes = false; taken = []; deals = false; dealt = 0 }

-- the next sender got a pass: what the pass that deals has left, and what the new one has
abbrev pub after_deal : View → View
after_deal v = record v { dealt = v.dealt + 1 }

abbrev pub dealt_view : View → View
dealt_view v = only_sender (sender v.dealt [])

-- the view of a sender's pass before its first step
abbrev pub first_view : ℕ → View
first_view who = only_sender (sender who [])

-- a pass that deals has dealt so many passes, and has taken nothing
pub record IsLeft (dealt : ℕ) (v : View) : Type 0 where
  pub senders : v.senders ≡ []
  pub taken : v.taken ≡ []
  pub takes : v.takes ≡ true
  pub deals : v.deals ≡ true
  pub count : v.dealt ≡ dealt

-- the first sender goes to a pass of its own, and another pass takes in the senders of a pass
abbrev pub first_sender : View → View
first_sender v = only_sender (sender_of v)

abbrev pub other_senders : View → View
other_senders v = record v { senders = rest_of v.senders }

abbrev pub both_senders : View → View → View
both_senders v w = record v { senders = w.senders ++ v.senders }

-- a bulk was put into the queue
abbrev pub after_put : BulkView → View → View
after_put x v = record v { senders = sender (sender_of v).who ((sender_of v).sent ++ x ∷ []) ∷ [] }

-- a bulk was taken out of the queue
abbrev pub after_take : BulkView → View → View
after_take x v = record v { taken = v.taken ++ x ∷ [] }

-- What a view shows of the bulks in the queue: after those that were taken before, which a pass that takes knows, they have of each of
-- its senders what that has put, in its order.
pub record Shows (v : View) (bulks : List BulkView) : Type 0 where
  pub before : List BulkView
  pub taken : v.takes ≡ true → before ≡ v.taken
  pub in_order : (s : Sender) → Contains v.senders s → bulks_of s.who (before ++ bulks) ≡ s.sent

-- a pass took in the sender of another
abbrev pub with_sender : Sender → View → View
with_sender s v = record v { senders = s ∷ v.senders }

-- what a view shows of another sender too
abbrev pub ShowsBoth : Sender → View → Type 0
ShowsBoth s v = (bulks : List BulkView) × Shows (with_sender s v) bulks

-- of each of its senders, the bulks that were taken of it and then these are the ones that it has put
abbrev pub HasAllOf : View → List BulkView → Type 0
HasAllOf v bulks = (s : Sender) → Contains v.senders s → bulks_of s.who (v.taken ++ bulks) ≡ s.sent

-- a pass that takes has taken these bulks since
pub record HasTakenTo (old new : View) (bulks : List BulkView) : Type 0 where
  pub takes : new.takes ≡ true
  pub senders : new.senders ≡ old.senders
  pub taken : new.taken ≡ old.taken ++ bulks
