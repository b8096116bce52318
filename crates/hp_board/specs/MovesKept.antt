-- All that was taken and given, in one order: the part "Moves" of the rule in docs/BOARD.md; and who held each slot, one after another.
use Rattle.std.specs.Prelude.{◌≡◌, ◌⊎◌, ℕ, ◌+◌, ◌<◌, ◌≤◌, ◌==◌, List, [], ◌∷◌, ◌++◌, Option, Some, None, ⊤, slice_index, if◌then◌else◌}
use Rattle.hp_base.specs.declared.limits.TheConstants.{MAX_HEAPS}
use Rattle.hp_heap.specs.History as heaps
use Rattle.hp_heap.specs.declared.entry.Entry.{Entry}
use Rattle.hp_segs.specs.LaterSteps.{armed_ask}
use Rattle.hp_segs.specs.SegsView.{SegsView}
use Rattle.hp_segs.specs.SettledAsks.{IsSettled}
use Rattle.hp_segs.specs.Sound as segments
use Rattle.hp_segs.specs.Standing.{IsArmed}
use Rattle.hp_segs.specs.declared.ask.Ask.{Ask}
use Rattle.hp_zone.specs.Directory.{IsDirectory}
use Rattle.hp_zone.specs.Zones.{IsZones}
use Rattle.hp_hall.specs.Giving.{IsNumbered}
use Rattle.hp_hall.specs.Later.{IsLaterKept}
use Rattle.hp_hall.specs.Values.{history_of}
use Rattle.hp_hall.specs.declared.kept.Kept.{Kept}
use Rattle.hp_hall.specs.declared.kept.Kept.TheVariants.{Heap, Names, Segments}
use Rattle.hp_hall.specs.declared.slot.TheConstants.{NAMES_SLOT}
use Rattle.hp_board.specs.declared.words.TheConstants.{SLOTS}
use Rattle.hp_board.specs.KeptValues.{IsKeptAt}
use Rattle.hp_board.specs.declared.view.Move.{Move}
use Rattle.hp_board.specs.declared.view.Move.TheVariants.{Took, Gave}
use Rattle.hp_board.specs.Views.{values_of}
use Rattle.hp_weave.specs.Holds.{Hold}
use Rattle.hp_board.specs.declared.opening.Opening.{Opening}
use Rattle.hp_board.specs.declared.view.Mine.{Mine}

-- the slots by number: the value of each, at home or as its holder took it, and its lock word
pub record Slotted : Type 0 where
  pub value : ℕ → Kept
  pub word : ℕ → ℕ

-- A segment value that is taken or given while the lock words are these: it is sound; its open growth and its kept asks are those of the armed;
-- and an ask with which somebody is armed is settled, or its participant has its heap in hand.
pub record StandsThen (word : ℕ → ℕ) (segs : SegsView) : Type 0 where
  pub sound : segments.IsSound segs
  pub armed : IsArmed segs
  pub asking : (who : ℕ) (ask : Ask) → armed_ask segs who ≡ Some ask
      → IsSettled ask.from ask.number segs ⊎ ((ask.heap < MAX_HEAPS) × (word ask.heap ≡ who + 1))

-- a value that is taken or given then is one of the slot, and sound, and of a segment value that holds
abbrev pub IsGoodThen : (ℕ → ℕ) → ℕ → Kept → Type 0
IsGoodThen word slot (Heap heap pen) = (slot < MAX_HEAPS) × (heap.plain.index ≡ slot) × heaps.IsSound heap
IsGoodThen word slot (Segments segs) = (slot ≡ MAX_HEAPS) × StandsThen word segs
IsGoodThen word slot (Names names) = (slot ≡ NAMES_SLOT) × IsZones names.zones × IsDirectory names.heaps

-- entries of one participant alone, numbered on, came after those that were there
pub record HasAdded (who : ℕ) (taken given : Kept) : Type 0 where
  pub own : List Entry
  pub history : history_of given ≡ history_of taken ++ own
  pub count : ℕ
  pub numbered : IsNumbered who count own

-- a participant may make a move: a slot that is taken was free and has that value, and one that is given is held by the participant, which has
-- added entries of its own alone to a value that is the taken one later on; and the value is good then
abbrev pub IsMove : ℕ → Move → Slotted → Type 0
IsMove who (Took slot kept) slots = (slot < SLOTS) × (slots.word slot ≡ 0) × (kept ≡ slots.value slot) × IsGoodThen slots.word slot kept
IsMove who (Gave slot kept) slots =
    (slot < SLOTS) × (slots.word slot ≡ who + 1) × IsGoodThen slots.word slot kept × HasAdded who (slots.value slot) kept
    × IsLaterKept (slots.value slot) kept

-- the slots after the move
abbrev pub slots_after : ℕ → Move → Slotted → Slotted
slots_after who (Took slot kept) slots = record slots { word = λ k. if k == slot then who + 1 else slots.word k }
slots_after who (Gave slot kept) slots = record {
  value = λ k. if k == slot then kept else slots.value k;
  word = λ k. if k == slot then 0 else slots.word k;
}

-- slots are alike
pub record AreAlike (slots other : Slotted) : Type 0 where
  pub value : (slot : ℕ) → slot < SLOTS → other.value slot ≡ slots.value slot
  pub word : (slot : ℕ) → slot < SLOTS → other.word slot ≡ slots.word slot

-- the slots came from some to others by these moves, each with the participant that made it
abbrev pub Replays : Slotted → List (ℕ × Move) → Slotted → Type 0
Replays first [] last = AreAlike first last
Replays first (one ∷ moves) last = IsMove one.0 one.1 first × Replays (slots_after one.0 one.1 first) moves last

-- a segment value, and names, are those of the opening
abbrev pub OpensWith : Opening → Kept → Type 0
OpensWith opening (Heap heap pen) = ⊤
OpensWith opening (Segments segs) = segs ≡ opening.segs.value
OpensWith opening (Names names) = names ≡ opening.names.value

-- a value that a slot has before the first step: it is the slot's, without an entry, or the segment value or the names of the opening
pub record IsFirstAt (opening : Opening) (slot : ℕ) (kept : Kept) : Type 0 where
  pub at : IsKeptAt opening slot kept
  pub empty : history_of kept ≡ []
  pub opens : OpensWith opening kept

-- slots that are all free
abbrev pub all_free : (ℕ → Kept) → Slotted
all_free values = record { value = values; word = λ slot. 0 }

-- the slots as the lock words say
abbrev pub slots_by : (ℕ → Kept) → List ℕ → Slotted
slots_by kept words = record { value = kept; word = λ slot. slice_index words slot }

-- All slots came from those of the opening, free, to what they are by moves in one order; and of each participant these are the moves that
-- it made.
pub record AreMoved (opening : Opening) (words : List ℕ) (kept : ℕ → Kept) (mine : ℕ → Mine) : Type 0 where
  pub first : ℕ → Kept
  pub moves : List (ℕ × Move)
  pub opened : (slot : ℕ) → slot < SLOTS → IsFirstAt opening slot (first slot)
  pub replay : Replays (all_free first) moves (slots_by kept words)
  pub own : (who : ℕ) → who < opening.participants → values_of who moves ≡ (mine who).moves
  pub strange : (who : ℕ) → opening.participants ≤ who → values_of who moves ≡ []

-- what a participant held, where it took a value before it gives one
abbrev pub hold_of : ℕ → Option Kept → Kept → List (Hold Kept)
hold_of who None given = []
hold_of who (Some taken) given = record { who = who; taken = taken; given = given } ∷ []

-- the holds of one slot by moves of one participant, which may have the slot's value in hand at first
abbrev pub holds_in : ℕ → ℕ → Option Kept → List Move → List (Hold Kept)
holds_in who slot pending [] = []
holds_in who slot pending (Took other kept ∷ moves) =
    if other == slot then holds_in who slot (Some kept) moves else holds_in who slot pending moves
holds_in who slot pending (Gave other kept ∷ moves) =
    if other == slot then hold_of who pending kept ++ holds_in who slot None moves else holds_in who slot pending moves
