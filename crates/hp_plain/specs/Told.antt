-- What steps show of lines that are done and of statistics, and make of them: the rules "What a hall shows" and "Statistics" of
-- docs/HALLS.md.
use Rattle.std.specs.Prelude.{◌≡◌, ℕ, ◌≤◌, List, [], ◌∷◌, Some, map, slice_get, slice_index_or, slice_set, ⊤}
use Rattle.hp_hall.specs.HeapPairs.{pair_of}
use Rattle.hp_hall.specs.Mail.{MailStep, Gives, Notes, Takes}
use Rattle.hp_hall.specs.declared.kept.Kept.{Kept}
use Rattle.hp_hall.specs.declared.kept.Kept.TheVariants.{Heap, Names, Segments}
use Rattle.hp_hall.specs.declared.note.Note.TheVariants.{LoadedDone, Published, ReadStats, Stored}
use Rattle.hp_plain.specs.HallView.{HallView, newest_of}
use Rattle.hp_stats.specs.declared.stat_pair.StatPair.{StatPair}

-- by participant how many of its lines it has told to be done, and by slot the newest pair of its heap
pub record Told : Type 0 where
  pub lines : List ℕ
  pub newest : List StatPair

abbrev pub told_of : HallView → Told
told_of hall = record { lines = hall.lines; newest = map newest_of hall.slots }

-- the newest pair of a heap that is taken or given back is its own
abbrev pub IsNewest : ℕ → Kept → List StatPair → Type 0
IsNewest number (Heap heap pen) newest = slice_get newest number ≡ Some (pair_of heap)
IsNewest number (Segments segs) newest = ⊤
IsNewest number (Names names) newest = ⊤

-- a pair is published after another one that does not count more entries
pub record IsNewer (number : ℕ) (pair : StatPair) (newest : List StatPair) : Type 0 where
  pub before : StatPair
  pub there : slice_get newest number ≡ Some before
  pub rises : before.entries ≤ pair.entries

-- what a step shows of them: lines that are told are no fewer than before; lines that are looked up are those that were told last; a pair
-- that is read is the newest one; the own pair of a heap that is taken or given back is the newest one too
abbrev pub ShowsTold : ℕ → MailStep → Told → Type 0
ShowsTold who (Takes number kept) told = IsNewest number kept told.newest
ShowsTold who (Gives number kept) told = IsNewest number kept told.newest
ShowsTold who (Notes (Stored lines)) told = slice_index_or told.lines who 0 ≤ lines
ShowsTold who (Notes (LoadedDone participant lines)) told = slice_get told.lines participant ≡ Some lines
ShowsTold who (Notes (Published number pair)) told = IsNewer number pair told.newest
ShowsTold who (Notes (ReadStats number pair)) told = slice_get told.newest number ≡ Some pair
ShowsTold who _ told = ⊤

-- what it makes of them
abbrev pub told_after : ℕ → MailStep → Told → Told
told_after who (Notes (Stored lines)) told = record told { lines = slice_set told.lines who lines }
told_after who (Notes (Published number pair)) told = record told { newest = slice_set told.newest number pair }
told_after who _ told = told

-- by these steps they came from one state to another
abbrev pub AreTold : List (ℕ × MailStep) → Told → Told → Type 0
AreTold [] old new = new ≡ old
AreTold (step ∷ steps) old new = ShowsTold step.0 step.1 old × AreTold steps (told_after step.0 step.1 old) new
