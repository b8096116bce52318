-- A growth that fails leaves two records and its refusal, and nothing else. The rule "What agreement gives" of docs/GROWTH.md.
use Rattle.std.specs.Prelude.{◌≡◌, ℕ, ◌+◌, ◌-◌, ◌<◌, ◌≤◌, false, true, List, [], ◌∷◌, ◌++◌, length, map, Option, Some, None, slice_get}
use Rattle.hp_base.specs.declared.row.Row.{Row}
use Rattle.hp_base.specs.declared.row.Run.{Run}
use Rattle.hp_log.specs.Log.{table_at}
use Rattle.hp_log.specs.Rows.{slots_of}
use Rattle.hp_log.specs.declared.log_record.LogRecord.{LogRecord}
use Rattle.hp_log.specs.declared.log_record.LogRecord.TheVariants.{Add, Drop}
use Rattle.hp_heap.specs.History.{HeapView}
use Rattle.hp_maps.specs.Catching.{Lags, newer, undropped}
use Rattle.hp_maps.specs.MapsView.{table_in}
use Rattle.hp_maps.specs.declared.table.Table.{Table}
use Rattle.hp_proc.specs.Ends.{IsEnd}
use Rattle.hp_script.specs.declared.answer.Answer.{Answer}
use Rattle.hp_script.specs.declared.workload.Workload.{Workload}
use Rattle.hp_segs.specs.Machine.{Machine, machine_of}
use Rattle.hp_segs.specs.Moved.{SegsCall, Claim, Leads, OpenRun, Retire, after}
use Rattle.hp_segs.specs.SegsView.{SegsView, grant_of, pages_left, rows_in}
use Rattle.hp_segs.specs.Sound.{IsSound}
use Rattle.hp_segs.specs.SoundAsks.{is_granted}
use Rattle.hp_segs.specs.Steps.{claimed_segment, insert_by_address, retired_segment}
use Rattle.hp_segs.specs.declared.ask.Ask.{Ask}
use Rattle.hp_segs.specs.declared.row_state.Segment.{Segment}

-- the growth of that generation failed: its Add is followed by its Drop, as it is of each growth that is neither granted nor open; a grant
-- whose run comes back at once looks alike, and what follows holds of it too
pub record HasFailedGrowth (log : List LogRecord) (generation : ℕ) (run : Run) (heap : ℕ) : Type 0 where
  pub some : 0 < generation
  pub added : slice_get log (generation - 1) ≡ Some (Add run heap)
  pub dropped : slice_get log generation ≡ Some (Drop run)

-- the two records of each growth that failed leave the table from before it
abbrev pub FailuresLeaveNoRow : List LogRecord → Type 0
FailuresLeaveNoRow log = (generation heap : ℕ) (run : Run) → HasFailedGrowth log generation run heap
    → table_at log (generation + 1) ≡ table_at log (generation - 1)

-- in the log of each sound value the two records of a growth that failed leave the table from before it
abbrev pub SoundLogsRestore : Type 0
SoundLogsRestore = (segs : SegsView) → IsSound segs → FailuresLeaveNoRow segs.log

-- a table whose number is at the Drop is the one from before the growth, but for rows that later records drop
pub record IsTableBefore (log : List LogRecord) (generation to : ℕ) (table : List Row) : Type 0 where
  pub reached : ℕ
  pub from : generation + 1 ≤ reached
  pub up_to : reached ≤ to
  pub left : table ≡ undropped (newer log (generation + 1) reached) (table_at log (generation - 1))

-- the table of each participant whose number is at the Drop of a growth that failed is the one from before the growth
abbrev pub AnsweringRestore : Type 0
AnsweringRestore = (segs : SegsView) (generation heap to : ℕ) (run : Run) (table : List Row) → IsSound segs
    → HasFailedGrowth segs.log generation run heap → Lags segs.log (generation + 1) to table → IsTableBefore segs.log generation to table

-- what a call does to rows beside growths: it claims those of a grant, or gives up those of a run
pub data OwnerStep : Type 0 where
  ClaimsGrant : ℕ → OwnerStep
  GivesUp : Run → OwnerStep

abbrev pub claim_steps : Option ℕ → List OwnerStep
claim_steps None = []
claim_steps (Some generation) = ClaimsGrant generation ∷ []

-- the step of a call, where it has one
abbrev pub owner_steps_of : SegsCall → SegsView → List OwnerStep
owner_steps_of (Claim from number) segs = claim_steps (grant_of segs.asks from number)
owner_steps_of (Retire heap run) segs = GivesUp run ∷ []
owner_steps_of _ segs = []

-- what calls, one after another, do to rows beside growths
abbrev pub owner_steps : List SegsCall → SegsView → List OwnerStep
owner_steps [] segs = []
owner_steps (call ∷ calls) segs = owner_steps_of call segs ++ owner_steps calls (after call segs)

-- the rows that a step leaves, and those that steps leave
abbrev pub rows_after : OwnerStep → List Segment → List Segment
rows_after (ClaimsGrant generation) rows = map (claimed_segment generation) rows
rows_after (GivesUp run) rows = map (retired_segment run) rows

abbrev pub rows_by : List OwnerStep → List Segment → List Segment
rows_by [] rows = rows
rows_by (step ∷ steps) rows = rows_by steps (rows_after step rows)

-- the runs that are given up after steps, by rising address
abbrev pub retiring_after : OwnerStep → List Run → List Run
retiring_after (ClaimsGrant generation) runs = runs
retiring_after (GivesUp run) runs = insert_by_address run runs

abbrev pub retiring_by : List OwnerStep → List Run → List Run
retiring_by [] runs = runs
retiring_by (step ∷ steps) runs = retiring_by steps (retiring_after step runs)

-- the plain machine that steps leave: its rows have other states, and its free pages stay
abbrev pub machine_by : List OwnerStep → Machine → Machine
machine_by steps machine = record { free = machine.free; rows = rows_by steps machine.rows }

-- these calls are those of a growth that failed, from its opening to its end, and of all that others did meanwhile
pub record IsFailedCourse (calls : List SegsCall) (old new : SegsView) : Type 0 where
  pub ask : Ask
  pub run : Run
  pub more : List SegsCall
  pub opens : calls ≡ OpenRun ask run ∷ more
  pub leads : Leads calls old new
  pub nothing_else : new.log ≡ old.log ++ Add run ask.heap ∷ Drop run ∷ []
  pub refused : is_granted new.asks (length old.log + 1) ≡ false
  pub ended : new.growth ≡ None

-- a value is as the steps of these calls would have left it, had no growth been tried: pools, the plain machine, the state of each row, and
-- what is given up; and each list has the free slots, and each pool the free pages, that it had
pub record IsAsWithout (calls : List SegsCall) (old new : SegsView) : Type 0 where
  pub pools : new.pools ≡ old.pools
  pub machine : machine_of new ≡ machine_by (owner_steps calls old) (machine_of old)
  pub segments : new.segments ≡ rows_by (owner_steps calls old) old.segments
  pub retiring : new.retiring ≡ retiring_by (owner_steps calls old) old.retiring
  pub slots : (list n : ℕ) → slots_of (rows_in new.segments) list n ≡ slots_of (rows_in old.segments) list n
  pub pages : (pool : ℕ) → pages_left new pool ≡ pages_left old pool

-- after each growth that failed the value is as the steps of the other calls would have left it
abbrev pub FailedCoursesRestore : Type 0
FailedCoursesRestore = (calls : List SegsCall) (old new : SegsView) → IsSound old → IsFailedCourse calls old new → IsAsWithout calls old new

-- wherever among calls that lead on from a first value a growth was opened and failed, the value after it is as the other calls meanwhile
-- would have left it
abbrev pub GrowthsRestore : List SegsCall → SegsView → Type 0
GrowthsRestore calls first = (before during behind : List SegsCall) (old new : SegsView) → calls ≡ before ++ (during ++ behind)
    → Leads before first old → IsFailedCourse during old new → IsAsWithout during old new

-- each growth that fails among calls that lead on from a sound value leaves the value as the other calls would have left it
abbrev pub CoursesRestore : Type 0
CoursesRestore = (calls : List SegsCall) (first : SegsView) → IsSound first → GrowthsRestore calls first

-- a participant's table whose number is at the Drop of a growth that failed is the one from before it, but for rows that later records drop
abbrev pub TablesRestore : List LogRecord → List Table → Type 0
TablesRestore log tables = (who generation heap : ℕ) (run : Run) (table : Table) → slice_get tables who ≡ Some table → table.joined ≡ true
    → HasFailedGrowth log generation run heap → table.number ≡ generation + 1
    → IsTableBefore log generation (length log) (table_in table.rows.items)

-- at the end of a run each table at the Drop of a growth that failed is the one from before it
abbrev pub EndTablesRestore : Type 0
EndTablesRestore = (workload : Workload) (answers : List Answer) (heaps : List HeapView) (segs : SegsView) (tables : List Table)
    → IsEnd workload answers heaps segs tables → TablesRestore segs.log tables
