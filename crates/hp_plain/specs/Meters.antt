-- What notes show of a hall's clock and of the numbers that are acknowledged: the rule "What a hall shows" of docs/HALLS.md.
use Rattle.std.specs.Prelude.{◌≡◌, ℕ, ◌≤◌, ◌⊎◌, Bool, false, List, [], ◌∷◌, Option, Some, IfSome, map, slice_get, slice_index_or, slice_set, ⊤}
use Rattle.hp_plain.specs.HallView.{HallView}
use Rattle.hp_hall.specs.Mail.{MailStep, Posts, Fetches, Takes, Gives, Notes}
use Rattle.hp_hall.specs.declared.note.Note.{Note}
use Rattle.hp_hall.specs.declared.note.Note.TheVariants.{Read, Loaded, Acked, Paused}

-- the clock, and by participant how many records it has acknowledged
pub record Meters : Type 0 where
  pub clock : ℕ
  pub numbers : List ℕ

abbrev pub meters_in : HallView → Meters
meters_in hall = record { clock = hall.clock; numbers = map (λ own. own.number) hall.owns }

-- what a note shows of them: a reading is that of the clock, a number that was looked up is the one that its participant has acknowledged,
-- and one that is acknowledged is none below the last
abbrev pub ShowsNote : ℕ → Note → Meters → Type 0
ShowsNote who (Read now) meters = now ≡ meters.clock
ShowsNote who (Loaded participant number) meters = slice_get meters.numbers participant ≡ Some number
ShowsNote who (Acked number) meters = slice_index_or meters.numbers who 0 ≤ number
ShowsNote who _ meters = ⊤

-- a turn ends with the clock as it was; or nothing moved, and it has gone on, to no further than the deadline that is waited for
abbrev pub GoesOnTo : Bool → Option ℕ → ℕ → ℕ → Type 0
GoesOnTo moved until old new = (new ≡ old) ⊎ ((moved ≡ false) × (old ≤ new) × IfSome until (λ deadline. new ≤ deadline))

-- the clock after a note
abbrev pub IsClockAfter : Note → ℕ → ℕ → Type 0
IsClockAfter (Paused moved until) old new = GoesOnTo moved until old new
IsClockAfter _ old new = new ≡ old

-- the acknowledged numbers after a note
abbrev pub numbers_after : ℕ → Note → List ℕ → List ℕ
numbers_after who (Acked number) numbers = slice_set numbers who number
numbers_after who _ numbers = numbers

-- what a step shows of them, and makes of them: a note alone changes any
pub record IsNoted (who : ℕ) (note : Note) (old new : Meters) : Type 0 where
  pub shows : ShowsNote who note old
  pub clock : IsClockAfter note old.clock new.clock
  pub numbers : new.numbers ≡ numbers_after who note old.numbers

abbrev pub IsMetered : ℕ → MailStep → Meters → Meters → Type 0
IsMetered who (Posts to frame action posted) old new = new ≡ old
IsMetered who (Fetches frame) old new = new ≡ old
IsMetered who (Takes slot kept) old new = new ≡ old
IsMetered who (Gives slot kept) old new = new ≡ old
IsMetered who (Notes note) old new = IsNoted who note old new

-- by these steps the clock and the numbers came from one state to another
abbrev pub AreMetered : List (ℕ × MailStep) → Meters → Meters → Type 0
AreMetered [] old new = new ≡ old
AreMetered (step ∷ steps) old new = (mid : Meters) × IsMetered step.0 step.1 old mid × AreMetered steps mid new
