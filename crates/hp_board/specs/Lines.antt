-- Lines that are done, and what is known of them: the part "Lines" of the rule in docs/BOARD.md.
use Rattle.std.specs.Prelude.{◌≡◌, ℕ, ◌<◌, ◌≤◌, ◌^◌, List, ◌++◌, Contains, None, drop, length, take, ⊤}
use Rattle.std.specs.List.{All}
use Rattle.hp_base.specs.declared.limits.TheConstants.{MAX_HEAPS}
use Rattle.hp_heap.specs.declared.entry.Entry.{Entry}
use Rattle.hp_heap.specs.History.{entries_of}
use Rattle.hp_hall.specs.Values.{history_of}
use Rattle.hp_hall.specs.declared.kept.Kept.{Kept}
use Rattle.hp_hall.specs.declared.kept.Kept.TheVariants.{Heap, Names, Segments}
use Rattle.hp_hall.specs.declared.slot.TheConstants.{NAMES_SLOT}
use Rattle.hp_board.specs.Views.{BeginsWith, lines_known, lines_told, value_of, values_of}
use Rattle.hp_board.specs.Words.{lines_by}
use Rattle.hp_board.specs.declared.opening.Opening.{Opening}
use Rattle.hp_board.specs.declared.view.Awaited.{Awaited}
use Rattle.hp_board.specs.declared.view.LinesDone.{LinesDone}
use Rattle.hp_board.specs.declared.view.Mine.{Mine}
use Rattle.hp_board.specs.declared.view.Move.TheVariants.{Took}
use Rattle.hp_board.specs.declared.words.TheConstants.{SLOTS}

-- all entries that a participant made are home, and all changes of names: it holds no heap, and the names neither
pub record HasAllHome (mine : Mine) : Type 0 where
  pub heaps : (heap : ℕ) → heap < MAX_HEAPS → value_of heap mine.held ≡ None
  pub names : value_of NAMES_SLOT mine.held ≡ None

-- the entries in the heap of a slot that a participant made in lines which it told to be done
abbrev pub made_by_then : ℕ → LinesDone → Mine → List Entry
made_by_then slot mark mine = values_of slot (take mark.entries mine.made)

-- of a history the entries that another made in its first lines stand before all that a participant made after it looked these up
pub record StandsBefore (slot : ℕ) (history : List Entry) (mine other : Mine) (mark : LinesDone) (awaited : Awaited) : Type 0 where
  pub front : List Entry
  pub back : List Entry
  pub split : history ≡ front ++ back
  pub stood : BeginsWith (entries_of other.who front) (made_by_then slot mark other)
  pub later : BeginsWith (values_of slot (take awaited.entries mine.made)) (entries_of mine.who front)

-- a value holds what another changed in its first lines: a heap its entries, names all changes that it had seen
abbrev pub HoldsLines : ℕ → Mine → LinesDone → Kept → Type 0
HoldsLines slot other mark (Heap heap pen) = BeginsWith (entries_of other.who heap.history) (made_by_then slot mark other)
HoldsLines slot other mark (Segments segs) = ⊤
HoldsLines slot other mark (Names names) =
    BeginsWith names.zones.log (take mark.zones other.zones) × BeginsWith names.heaps.log (take mark.names other.names)

-- What a participant looked up of another's lines: the other had told it, the entries that it made in them stand before all that the
-- participant made afterwards, and each value that this one took afterwards holds what was changed in them.
pub record IsAwaited (histories : ℕ → List Entry) (mine other : Mine) (awaited : Awaited) : Type 0 where
  pub mark : LinesDone
  pub told : Contains other.done mark
  pub lines : mark.lines ≡ awaited.lines
  pub before : (slot : ℕ) → slot < SLOTS → StandsBefore slot (histories slot) mine other mark awaited
  pub taken : (slot : ℕ) (value : Kept) → Contains (drop awaited.moves mine.moves) (Took slot value) → HoldsLines slot other mark value

-- what stood when lines were told to be done is at most what the participant has made and seen
pub record IsMarkOf (mine : Mine) (mark : LinesDone) : Type 0 where
  pub lines : mark.lines ≤ lines_told mine
  pub entries : mark.entries ≤ length mine.made
  pub zones : mark.zones ≤ length mine.zones
  pub names : mark.names ≤ length mine.names

-- A participant's done word is how many of its lines it has told to be done, which is below 2^32; what it knows of another's is at most that one's word; and of
-- what it looked up stands what IsAwaited says.
pub record AreLines (opening : Opening) (words : List ℕ) (kept : ℕ → Kept) (mine : ℕ → Mine) : Type 0 where
  pub told : (who : ℕ) → who < opening.participants → lines_by words who ≡ lines_told (mine who)
  pub few : (who : ℕ) → who < opening.participants → lines_by words who < 2 ^ 32
  pub known : (who other : ℕ) → who < opening.participants → other < opening.participants → lines_known other (mine who) ≤ lines_by words other
  pub some : (who : ℕ) → who < opening.participants → 0 < length (mine who).done
  pub marks : (who : ℕ) → who < opening.participants → All (IsMarkOf (mine who)) (mine who).done
  pub within : (who : ℕ) → who < opening.participants
      → All (λ pair. (pair.1.entries ≤ length (mine who).made) × (pair.1.moves ≤ length (mine who).moves)) (mine who).awaited
  pub awaited : (who other : ℕ) (awaited : Awaited) → who < opening.participants → other < opening.participants
      → Contains (mine who).awaited (other, awaited) → IsAwaited (λ slot. history_of (kept slot)) (mine who) (mine other) awaited
