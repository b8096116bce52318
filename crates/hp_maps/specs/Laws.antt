-- What is true of every log and of all rows, whatever the code does.
use Rattle.std.specs.Prelude.{◌≡◌, ℕ, ◌+◌, ◌≤◌, Bool, true, false, List, [], ◌∷◌, ◌++◌, ◌||◌, length, flat_map, sum_by}
use Rattle.std.specs.List.{All, Contains}
use Rattle.hp_base.specs.Mapping.{AreApart, Held, at_own_place, has_addr, held_after, is_row, own_place, without_row}
use Rattle.hp_base.specs.declared.caught.Caught.{Caught}
use Rattle.hp_base.specs.declared.map_answer.MapAnswer.{MapAnswer}
use Rattle.hp_base.specs.declared.row.Row.{Row}
use Rattle.hp_base.specs.declared.row.Run.{Run}
use Rattle.hp_log.specs.Log.{IsWellFormed, run_in, table_at}
use Rattle.hp_log.specs.Rows.{at_slot, rows_at}
use Rattle.hp_log.specs.declared.log_record.LogRecord.{LogRecord}
use Rattle.hp_log.specs.declared.log_record.LogRecord.TheVariants.{Add, Drop}
use Rattle.hp_maps.specs.Catching.{new_rows, newer, undropped}
use Rattle.hp_maps.specs.Events.{caught_events, stretches_of}

-- the table at a later record is the table at an earlier one without what the newer records drop, and then what these bring
abbrev pub IsTakenInTurn : List LogRecord → Type 0
IsTakenInTurn records = (n to : ℕ) → n ≤ to → to ≤ length records
    → table_at records to ≡ undropped (newer records n to) (table_at records n) ++ new_rows n (newer records n to)

-- the two records of a growth that failed bring nothing, whatever follows them
abbrev pub BringsNothing : Run → Type 0
BringsNothing run = (n heap : ℕ) (later : List LogRecord)
    → new_rows n (Add run heap ∷ (Drop run ∷ later)) ≡ new_rows (n + 2) later

-- in a well-formed log no slot has two rows, at any of its records
abbrev pub HasOneRowASlot : List LogRecord → Type 0
HasOneRowASlot records = IsWellFormed records → (n list slot : ℕ) → rows_at (table_at records n) list slot ≤ 1

-- a stretch has a row, and each further row goes on the one before it
abbrev pub IsJoined : (Row → Row → Bool) → List Row → Type 0
IsJoined joins [] = ⊥
IsJoined joins (row ∷ []) = Unit {0}
IsJoined joins (row ∷ (next ∷ rows)) = (joins row next ≡ true) × IsJoined joins (next ∷ rows)

-- a stretch that begins with a row does not go on the rows before it
abbrev pub IsCutBefore : (Row → Row → Bool) → List Row → List (List Row) → Type 0
IsCutBefore joins [] stretches = Unit {0}
IsCutBefore joins (row ∷ (next ∷ rows)) stretches = IsCutBefore joins (next ∷ rows) stretches
IsCutBefore joins (row ∷ []) [] = Unit {0}
IsCutBefore joins (row ∷ []) ([] ∷ stretches) = Unit {0}
IsCutBefore joins (row ∷ []) ((next ∷ rows) ∷ stretches) = joins row next ≡ false

-- stretches of which none goes on the one before it
abbrev pub AreCut : (Row → Row → Bool) → List (List Row) → Type 0
AreCut joins [] = Unit {0}
AreCut joins (stretch ∷ stretches) = IsCutBefore joins stretch stretches × AreCut joins stretches

-- each of the stretches is joined
abbrev pub AreJoined : (Row → Row → Bool) → List (List Row) → Type 0
AreJoined joins [] = Unit {0}
AreJoined joins (stretch ∷ stretches) = IsJoined joins stretch × AreJoined joins stretches

-- rows fall into their greatest stretches: all rows are there, in their order, each row of a stretch goes on the one before it, and no
-- stretch goes on the one before it
pub record FallIntoStretches (joins : Row → Row → Bool) (rows : List Row) : Type 0 where
  pub whole : flat_map (λ (stretch : List Row). stretch) (stretches_of joins rows) ≡ rows
  pub joined : AreJoined joins (stretches_of joins rows)
  pub cut : AreCut joins (stretches_of joins rows)

-- a catch-up tells no more events than the runs of its records have pages
abbrev pub TellsFew : List Row → ℕ → List LogRecord → Caught → Type 0
TellsFew rows n records caught = length (caught_events rows n records caught) ≤ sum_by (λ entry. (run_in entry).count) records

-- a call of a mapper: a row that got an answer, or a row that was unmapped
pub data MapperCall : Type 0 where
  Maps : Row → MapAnswer → MapperCall
  Unmaps : Row → MapperCall

-- what is held after calls
abbrev pub held_by : List MapperCall → List Held → List Held
held_by [] held = held
held_by (Maps row got ∷ calls) held = held_by calls (held_after row got held)
held_by (Unmaps row ∷ calls) held = held_by calls (without_row row held)

-- the answers of calls
abbrev pub answers_of : List MapperCall → List MapAnswer
answers_of [] = []
answers_of (Maps row got ∷ calls) = got ∷ answers_of calls
answers_of (Unmaps row ∷ calls) = answers_of calls

-- a row is unmapped by one of the calls
abbrev pub is_unmapped_by : List MapperCall → Row → Bool
is_unmapped_by [] row = false
is_unmapped_by (Maps other got ∷ calls) row = is_unmapped_by calls row
is_unmapped_by (Unmaps other ∷ calls) row = is_row other row || is_unmapped_by calls row

-- a row that is held at its own place after calls, none of which was answered that place, was unmapped by none of them
abbrev pub StaysMapped : Row → Type 0
StaysMapped row = (calls : List MapperCall) (before : List Held) → Contains (held_by calls before) (at_own_place row)
    → All (λ got. got ≡ own_place row → ⊥) (answers_of calls) → is_unmapped_by calls row ≡ false

-- rows of one address are at one slot, as they are where segment lists lie apart
abbrev pub AreAtOneSlot : List Row → Type 0
AreAtOneSlot rows = (addr : ℕ) → (list : ℕ) × (slot : ℕ) × All (λ row. has_addr addr row ≡ true → at_slot list slot row ≡ true) rows

-- the table of a well-formed log has no two rows of one address, where rows of one address are at one slot
abbrev pub IsApartAt : List LogRecord → ℕ → Type 0
IsApartAt records n = IsWellFormed records → AreAtOneSlot (table_at records n) → AreApart (table_at records n)
