-- What the steps of one participant make of what its seat knows: the rule "A seat at the board" of docs/HALLS.md.
use Rattle.std.specs.Prelude.{◌≡◌, ℕ, List, [], ◌∷◌, ◌++◌, map, length, Option}
use Rattle.std.specs.List.{fold}
use Rattle.hp_heap.specs.declared.entry.Entry.{Entry}
use Rattle.hp_hall.specs.Mail.{Fetches, Gives, MailStep, Notes, Posts, Takes}
use Rattle.hp_hall.specs.declared.kept.Kept.{Kept}
use Rattle.hp_hall.specs.declared.note.Note.TheVariants.{LoadedDone, Stored}
use Rattle.hp_zone.specs.declared.name_change.NameChange.{NameChange}
use Rattle.hp_zone.specs.declared.zone.ZoneChange.{ZoneChange}
use Rattle.hp_board.specs.KeptValues.{entries_added}
use Rattle.hp_board.specs.Views.{names_seen, under, value_of, zones_seen}
use Rattle.hp_board.specs.declared.view.Awaited.{Awaited}
use Rattle.hp_board.specs.declared.view.LinesDone.{LinesDone}
use Rattle.hp_board.specs.declared.view.Mine.{Mine}
use Rattle.hp_chair.specs.Steps.{hand_after, in_hand, moves_in}

-- what a participant has in hand of each slot
abbrev pub hand_of : Mine → ℕ → Option Kept
hand_of mine slot = value_of slot mine.held

-- the entries that a step adds, each with the slot of its heap, where this is in hand of each slot: a give adds those by which the given
-- value goes on from the taken one
abbrev pub adds : (ℕ → Option Kept) → MailStep → List (ℕ × Entry)
adds hand (Posts to frame action posted) = []
adds hand (Fetches frame) = []
adds hand (Takes slot kept) = []
adds hand (Gives slot kept) = under slot (entries_added (hand slot) kept)
adds hand (Notes note) = []

-- all entries that steps add, where this is in hand before them
abbrev pub entries_by : (ℕ → Option Kept) → List MailStep → List (ℕ × Entry)
entries_by hand [] = []
entries_by hand (step ∷ steps) = adds hand step ++ entries_by (λ slot. hand_after slot step (hand slot)) steps

-- what has been seen of the changes of memzones, and of the directory of heaps, after a step
abbrev pub zones_after : List ZoneChange → MailStep → List ZoneChange
zones_after zones (Posts to frame action posted) = zones
zones_after zones (Fetches frame) = zones
zones_after zones (Takes slot kept) = zones_seen kept zones
zones_after zones (Gives slot kept) = zones_seen kept zones
zones_after zones (Notes note) = zones

abbrev pub changes_after : List NameChange → MailStep → List NameChange
changes_after changes (Posts to frame action posted) = changes
changes_after changes (Fetches frame) = changes
changes_after changes (Takes slot kept) = names_seen kept changes
changes_after changes (Gives slot kept) = names_seen kept changes
changes_after changes (Notes note) = changes

-- the participant whose lines a step looks up, with how many are done; and how many of its own a step tells
abbrev pub looks_in : MailStep → List (ℕ × ℕ)
looks_in (Notes (LoadedDone from lines)) = (from, lines) ∷ []
looks_in _ = []

abbrev pub tells_in : MailStep → List ℕ
tells_in (Notes (Stored lines)) = lines ∷ []
tells_in _ = []

-- what stood when so many lines of another were found done, after these steps of a participant that knew this before them
abbrev pub look_then : Mine → List MailStep → ℕ → Awaited
look_then mine before lines = record {
  lines = lines;
  entries = length (mine.made ++ entries_by (hand_of mine) before);
  moves = length (mine.moves ++ moves_in before);
}

-- and when so many of its own were told to be done
abbrev pub mark_then : Mine → List MailStep → ℕ → LinesDone
mark_then mine before lines = record {
  lines = lines;
  entries = length (mine.made ++ entries_by (hand_of mine) before);
  zones = length (fold zones_after mine.zones before);
  names = length (fold changes_after mine.names before);
}

-- the look of a step that it makes after others, where that is one, and what the step tells of lines
abbrev pub looks_at : Mine → List MailStep → MailStep → List (ℕ × Awaited)
looks_at mine before step = map (λ look. (look.0, look_then mine before look.1)) (looks_in step)

abbrev pub marks_at : Mine → List MailStep → MailStep → List LinesDone
marks_at mine before step = map (mark_then mine before) (tells_in step)

-- all looks of steps that it makes after others, the last one in front, and all that it told in them
abbrev pub looks_by : Mine → List MailStep → List MailStep → List (ℕ × Awaited)
looks_by mine before [] = []
looks_by mine before (step ∷ steps) = looks_by mine (before ++ step ∷ []) steps ++ looks_at mine before step

abbrev pub marks_by : Mine → List MailStep → List MailStep → List LinesDone
marks_by mine before [] = []
marks_by mine before (step ∷ steps) = marks_by mine (before ++ step ∷ []) steps ++ marks_at mine before step

-- From what a participant knew to what it knows after its steps: it has in hand, has taken and given, has made, and has seen of the names
-- what these say; and it has looked up lines, and has told of its own, by these steps and at no other time, each time with what stood then.
pub record IsDoneBy (old new : Mine) (steps : List MailStep) : Type 0 where
  pub hand : (slot : ℕ) → hand_of new slot ≡ in_hand slot (hand_of old slot) steps
  pub moves : new.moves ≡ old.moves ++ moves_in steps
  pub made : new.made ≡ old.made ++ entries_by (hand_of old) steps
  pub zones : new.zones ≡ fold zones_after old.zones steps
  pub changes : new.names ≡ fold changes_after old.names steps
  pub looked : new.awaited ≡ looks_by old [] steps ++ old.awaited
  pub told : new.done ≡ marks_by old [] steps ++ old.done
