-- Slots are taken and given back in turn: the rule "Halls" of docs/PARTICIPANTS.md.
use Rattle.std.specs.Prelude.{◌≡◌, ℕ, Bool, true, false, List, [], ◌∷◌, Some, is_none, map, slice_get, slice_set, ⊤}
use Rattle.hp_plain.specs.HallView.{HallView}
use Rattle.hp_hall.specs.Mail.{MailStep, Posts, Fetches, Takes, Gives, Notes}

-- of which slots the values are there, by number
abbrev pub homes_in : HallView → List Bool
homes_in hall = map (λ slot. is_none slot.holder) hall.slots

-- what a step shows of that: a value that is taken is there, and one that is given back is out
abbrev pub ShowsHome : MailStep → List Bool → Type 0
ShowsHome (Posts to frame action posted) homes = ⊤
ShowsHome (Fetches frame) homes = ⊤
ShowsHome (Takes number kept) homes = slice_get homes number ≡ Some true
ShowsHome (Gives number kept) homes = slice_get homes number ≡ Some false
ShowsHome (Notes note) homes = ⊤

-- of which slots the values are there after it
abbrev pub homes_after : MailStep → List Bool → List Bool
homes_after (Posts to frame action posted) homes = homes
homes_after (Fetches frame) homes = homes
homes_after (Takes number kept) homes = slice_set homes number false
homes_after (Gives number kept) homes = slice_set homes number true
homes_after (Notes note) homes = homes

-- by these steps slots whose values were there, or out, came to others: each was taken and given back in turn
abbrev pub AreTakenInTurn : List (ℕ × MailStep) → List Bool → List Bool → Type 0
AreTakenInTurn [] old new = new ≡ old
AreTakenInTurn (step ∷ steps) old new = ShowsHome step.1 old × AreTakenInTurn steps (homes_after step.1 old) new
