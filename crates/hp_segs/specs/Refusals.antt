-- The cause of a refusal, as far as the log, the kept ask and the pools show it, and the cause that is noted for an open growth.
use Rattle.std.specs.Prelude.{◌≡◌, ℕ, ◌+◌, ◌-◌, ◌*◌, ◌<◌, ◌≤◌, ◌==◌, false, List, Option, Some, None, IfSome, IsTrue, IsNone, slice_get, if◌then◌else◌, sum_by}
use Rattle.std.specs.Option.{option_map}
use Rattle.hp_base.specs.declared.row.Row.{Row}
use Rattle.hp_base.specs.declared.row.Run.{Run}
use Rattle.hp_base.specs.declared.pool_line.PoolLine.{PoolLine}
use Rattle.hp_base.specs.declared.map_answer.MapAnswer.{MapAnswer}
use Rattle.hp_base.specs.Pages.{pages_of}
use Rattle.hp_base.specs.Place.{place_of}
use Rattle.hp_fbarray.specs.Mask.{IsLongestFree}
use Rattle.hp_log.specs.Rows.{row_of, slots_of}
use Rattle.hp_log.specs.Log.{table_at}
use Rattle.hp_segs.specs.Lists.{lists_of, list_number, free_pages, pages_beside}
use Rattle.hp_segs.specs.Plan.{HasPlace, IsFirstFor}
use Rattle.hp_segs.specs.SegsView.{SegsView, closed_number, grant_or_refusal_of, rows_in}
use Rattle.hp_segs.specs.LaterSteps.{is_failure, has_failed_from}
use Rattle.hp_segs.specs.declared.ask.Ask.{Ask}
use Rattle.hp_segs.specs.declared.outcome.AskLog.{AskLog}
use Rattle.hp_segs.specs.declared.outcome.Cause.{Cause}
use Rattle.hp_segs.specs.declared.outcome.Cause.TheVariants.{NoList, TooFew, ListFull, CannotHold, Denied, MapFailed, Late, Withdrawn}
use Rattle.hp_segs.specs.declared.growth.Growth.{Growth}
use Rattle.hp_segs.specs.declared.plan_refusal.PlanRefusal.{PlanRefusal}
use Rattle.hp_segs.specs.declared.plan_refusal.PlanRefusal.TheVariants as plan
use Rattle.hp_segs.specs.declared.list_info.ListInfo.{ListInfo}
use Rattle.hp_log.specs.declared.log_record.LogRecord.{LogRecord}
use Rattle.hp_log.specs.declared.log_record.LogRecord.TheVariants.{Add, Drop}

-- the bytes of the rows of a socket
abbrev pub bytes_on : List Row → ℕ → ℕ
bytes_on rows socket = sum_by (λ row. if row.socket == socket then row.page else 0) rows

-- that many free pages of the ask's pool are fewer than the pages asked
pub record IsShort (pools : List PoolLine) (table : List Row) (ask : Ask) (have need : ℕ) : Type 0 where
  pub list : ℕ
  pub line : PoolLine
  pub its_list : list_number (lists_of pools) ask.socket ask.page ≡ Some list
  pub its_line : slice_get pools list ≡ Some line
  pub free : have ≡ free_pages table line
  pub asked : need ≡ pages_of ask.request ask.page
  pub fewer : have < need

-- the longest free stretch of the ask's list is shorter than the pages asked
pub record IsFull (pools : List PoolLine) (table : List Row) (ask : Ask) (longest need : ℕ) : Type 0 where
  pub list : ℕ
  pub info : ListInfo
  pub its_list : list_number (lists_of pools) ask.socket ask.page ≡ Some list
  pub its_info : slice_get (lists_of pools) list ≡ Some info
  pub stretch : IsLongestFree (slots_of table list info.slots) longest
  pub asked : need ≡ pages_of ask.request ask.page
  pub fewer : longest < need

-- the request has no place in the first run, which has that address and length
pub record IsUnfit (pools : List PoolLine) (table : List Row) (ask : Ask) (addr len : ℕ) : Type 0 where
  pub run : Run
  pub first : IsFirstFor pools table ask run
  pub at : addr ≡ run.addr
  pub long : len ≡ run.count * run.page
  pub no_place : IsNone (place_of addr (addr + len) ask.request)

-- what the refusal of a plan says of lists and rows, where it is one of these
abbrev pub IsPlanCause : List PoolLine → List Row → Ask → PlanRefusal → Type 0
IsPlanCause pools rows ask (plan.StaleAsk number done) = ⊥
IsPlanCause pools rows ask (plan.GrowthOpen generation) = ⊥
IsPlanCause pools rows ask plan.NoList = list_number (lists_of pools) ask.socket ask.page ≡ None
IsPlanCause pools rows ask (plan.TooFew have need) = IsShort pools rows ask have need
IsPlanCause pools rows ask (plan.ListFull longest need) = IsFull pools rows ask longest need
IsPlanCause pools rows ask (plan.CannotHold addr len) = IsUnfit pools rows ask addr len

-- what the refusal of a plan says
abbrev pub IsPlanRefusal : Ask → SegsView → PlanRefusal → Type 0
IsPlanRefusal ask segs (plan.StaleAsk number done) = (number ≡ ask.number) × (done ≡ closed_number segs.asks ask.from) × (number ≤ done)
IsPlanRefusal ask segs (plan.GrowthOpen generation) = option_map (λ growth. growth.generation) segs.growth ≡ Some generation
IsPlanRefusal ask segs refusal = IsPlanCause segs.pools (rows_in segs.segments) ask refusal

-- the socket's bytes with the first run's are that total, which is above the limit
pub record IsDenied (pools : List PoolLine) (table : List Row) (ask : Ask) (limit total : ℕ) : Type 0 where
  pub run : Run
  pub first : IsFirstFor pools table ask run
  pub sum : total ≡ bytes_on table ask.socket + run.count * run.page
  pub above : limit < total

-- the record at that place is the Add for the ask: of its heap, by the first run of the pages asked, in a pool that has them, in what
-- the records before it leave; and the run has a place for the request
pub record IsAddOf (pools : List PoolLine) (log : List LogRecord) (at : ℕ) (ask : Ask) (run : Run) : Type 0 where
  pub some : 0 < at
  pub added : slice_get log (at - 1) ≡ Some (Add run ask.heap)
  pub first : IsFirstFor pools (table_at log (at - 1)) ask run
  pub enough : run.count ≤ pages_beside pools (table_at log (at - 1)) run.list
  pub place : HasPlace ask run

-- the record at that place is the Add for the ask, and the next one is its Drop
pub record IsFailedGrowth (pools : List PoolLine) (log : List LogRecord) (at : ℕ) (ask : Ask) (run : Run) : Type 0 where
  pub grown : IsAddOf pools log at ask run
  pub dropped : slice_get log at ≡ Some (Drop run)

-- the address is that of a row of the run, as the record of that generation adds it, and the answer is a failure there
pub record IsFailedRow (run : Run) (generation addr : ℕ) (got : MapAnswer) : Type 0 where
  pub place : ℕ
  pub within : place < run.count
  pub its_addr : addr ≡ (row_of run generation place).addr
  pub failure : IsTrue (is_failure (row_of run generation place) got)

-- the address is that of a row of a failed growth, and the answer is a failure there
pub record IsFailedMapping (pools : List PoolLine) (log : List LogRecord) (at : ℕ) (ask : Ask) (addr : ℕ) (got : MapAnswer) : Type 0 where
  pub run : Run
  pub failed : IsFailedGrowth pools log at ask run
  pub row : IsFailedRow run at addr got

-- the refusal of an ask has its cause, where so many records and these outcomes stood before it
abbrev pub HasRefusalCause : List PoolLine → List LogRecord → List AskLog → ℕ → Ask → Cause → Type 0
HasRefusalCause pools log before at ask NoList = list_number (lists_of pools) ask.socket ask.page ≡ None
HasRefusalCause pools log before at ask (TooFew have need) = IsShort pools (table_at log at) ask have need
HasRefusalCause pools log before at ask (ListFull longest need) = IsFull pools (table_at log at) ask longest need
HasRefusalCause pools log before at ask (CannotHold addr len) = IsUnfit pools (table_at log at) ask addr len
HasRefusalCause pools log before at ask (Denied validator limit total) =
    IsDenied pools (table_at log at) ask limit total
HasRefusalCause pools log before at ask (MapFailed participant call addr got) =
    IsFailedMapping pools log at ask addr got × (has_failed_from before participant call ≡ false)
HasRefusalCause pools log before at ask (Late participant from to) = (run : Run) × IsFailedGrowth pools log at ask run
HasRefusalCause pools log before at ask (Withdrawn from to) = grant_or_refusal_of before ask.from ask.number ≡ None

-- the cause is a failed mapping of a row of the growth, and no failure by this call of the participant's or a later one is logged
abbrev pub IsNotedCause : List AskLog → Growth → Cause → Type 0
IsNotedCause asks growth (MapFailed participant call addr got) =
    IsFailedRow growth.run growth.generation addr got × (has_failed_from asks participant call ≡ false)
IsNotedCause asks growth _ = ⊥

-- what is noted for the open growth is such a cause
abbrev pub IsNoted : List AskLog → Option Growth → Type 0
IsNoted asks growth = IfSome growth (λ growth. IfSome growth.noted (IsNotedCause asks growth))
