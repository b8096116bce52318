-- What comes to the heaps, and to the lines that were told, by a participant's own steps, in a hall of one seat: the rule "Threads" of
-- docs/RUNS.md.
use Rattle.std.specs.Prelude.{◌≡◌, ℕ, ◌++◌, ⊤, List, None}
use Rattle.std.specs.List.{AllByRecursion}
use Rattle.hp_board.specs.Views.{values_of}
use Rattle.hp_chair.specs.DoneBy.{entries_by}
use Rattle.hp_hall.specs.HallState.{Did, HallState}
use Rattle.hp_hall.specs.Mail.{MailStep, Notes}
use Rattle.hp_hall.specs.declared.note.Note.TheVariants.{Stored}
use Rattle.hp_heap.specs.declared.entry.Entry.{Entry}

-- the entries that steps add to the heap of an index, where nothing is in hand before them
abbrev pub added_by : ℕ → List MailStep → List Entry
added_by heap steps = values_of heap (entries_by (λ slot. None) steps)

-- wherever a hall went on by a participant's steps, before which nothing was in hand, each heap has of it what it had, and after that what
-- these steps added
abbrev pub AddsOnCourse : {A : Type 0} → (A → A → Type 0) → (A → HallState) → Type 0
AddsOnCourse {A} goes_on state = (a b : A) (me : ℕ) (steps : List MailStep) → goes_on a b → Did me steps (state a) (state b)
    → ((slot : ℕ) → (state a).taken slot ≡ None) → (heap : ℕ)
    → ((state b).part me heap).entries ≡ ((state a).part me heap).entries ++ added_by heap steps

-- a step does not tell how many lines are done
abbrev pub IsUntelling : MailStep → Type 0
IsUntelling (Notes (Stored lines)) = ⊥
IsUntelling _ = ⊤

-- none of these steps does
abbrev pub TellNothing : List MailStep → Type 0
TellNothing steps = AllByRecursion IsUntelling steps

-- wherever a hall went on by a participant's steps, of which none told of lines, it has told of as many as before
abbrev pub TellsOnCourse : {A : Type 0} → (A → A → Type 0) → (A → HallState) → Type 0
TellsOnCourse {A} goes_on state = (a b : A) (me : ℕ) (steps : List MailStep) → goes_on a b → Did me steps (state a) (state b) → TellNothing steps
    → (state b).lines me ≡ (state a).lines me
