-- What is done in a hall: the rule "Messages" of docs/PARTICIPANTS.md.
use Rattle.std.specs.Prelude.{◌≡◌, ◌≢◌, ◌↔◌, ℕ, ◌+◌, ◌-◌, ◌^◌, ◌==◌, min, max, sum_by, List, ◌∷◌, ◌++◌, Option, map, filter, ⊤}
use Rattle.std.specs.List.{AllByRecursion}
use Rattle.hp_base.specs.declared.plan.Action.{Action}
use Rattle.hp_base.specs.declared.plan.Action.TheVariants.{Lose}
use Rattle.hp_frame.specs.declared.frame.Frame.{Frame}
use Rattle.hp_hall.specs.declared.kept.Kept.{Kept}
use Rattle.hp_hall.specs.declared.note.Note.{Note}
use Rattle.hp_mail.specs.declared.posted.Posted.{Posted}
use Rattle.hp_mail.specs.declared.posted.Posted.TheVariants.{Sent, Twice, Lost, Full}

-- one thing that a participant did: a frame posted to a participant, with the plan for it and what became of it; its own mailbox asked
-- for its first frame; a value taken out of the slot with that number, or given back to it; or a note of anything else
pub data MailStep : Type 0 where
  Posts : ℕ → Frame → Action → Posted → MailStep
  Fetches : Option Frame → MailStep
  Takes : ℕ → Kept → MailStep
  Gives : ℕ → Kept → MailStep
  Notes : Note → MailStep

-- a post is lost exactly where that is planned
abbrev pub IsAsPlanned : MailStep → Type 0
IsAsPlanned (Posts to frame action posted) = (line : ℕ) → (posted ≡ Lost line) ↔ (action ≡ Lose line)
IsAsPlanned (Fetches frame) = ⊤
IsAsPlanned (Takes slot kept) = ⊤
IsAsPlanned (Gives slot kept) = ⊤
IsAsPlanned (Notes note) = ⊤

-- a step that gives nothing back to that slot
abbrev pub GivesNot : ℕ → MailStep → Type 0
GivesNot slot (Posts to frame action posted) = ⊤
GivesNot slot (Fetches frame) = ⊤
GivesNot slot (Takes other kept) = ⊤
GivesNot slot (Gives other kept) = other ≢ slot
GivesNot slot (Notes note) = ⊤

-- by its steps a participant has the value of a slot in hand: it took that, and has not given it back since
abbrev pub HasInHand : ℕ → List MailStep → Type 0
HasInHand slot steps = (before after : List MailStep) × (kept : Kept) × (steps ≡ before ++ (Takes slot kept ∷ after))
    × AllByRecursion (GivesNot slot) after

-- 1 for a message that found its mailbox full
abbrev pub full_of : Posted → ℕ
full_of Sent = 0
full_of Twice = 0
full_of (Lost line) = 0
full_of Full = 1

abbrev pub full_post : MailStep → ℕ
full_post (Posts to frame action posted) = full_of posted
full_post (Fetches frame) = 0
full_post (Takes slot kept) = 0
full_post (Gives slot kept) = 0
full_post (Notes note) = 0

-- how many posts found a mailbox full
abbrev pub full_posts : List MailStep → ℕ
full_posts steps = sum_by full_post steps

-- a count after so many more; at its type's end it stands still
abbrev pub counted_on : ℕ → ℕ → ℕ
counted_on more count = min (count + more) (max count (2 ^ 64 - 1))

-- those of the steps that a participant made
abbrev pub steps_of : ℕ → List (ℕ × MailStep) → List MailStep
steps_of who steps = map (λ step. step.1) (filter (λ step. step.0 == who) steps)
