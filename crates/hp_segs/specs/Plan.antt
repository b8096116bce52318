-- The run that is planned for an ask, or the first refusal.
use Rattle.std.specs.Prelude.{◌≡◌, ℕ, ◌+◌, ◌*◌, Option, Some, None, Result, Ok, Err, List, slice_get, nat_lt, nat_le, is_some, IsSome, if◌then◌else◌}
use Rattle.hp_base.specs.declared.row.Row.{Row}
use Rattle.hp_base.specs.declared.row.Run.{Run}
use Rattle.hp_base.specs.declared.pool_line.PoolLine.{PoolLine}
use Rattle.hp_base.specs.Pages.{pages_of}
use Rattle.hp_base.specs.Place.{place_of}
use Rattle.hp_fbarray.specs.Mask.{IsFirstFreeRun, HasNoFreeRun}
use Rattle.hp_fbarray.specs.FreeRuns.{first_free_run, longest_free_run}
use Rattle.hp_log.specs.Rows.{slots_of}
use Rattle.hp_segs.specs.Lists.{lists_of, list_number, pages_beside, run_at}
use Rattle.hp_segs.specs.SegsView.{SegsView, closed_number, rows_in}
use Rattle.hp_segs.specs.declared.ask.Ask.{Ask}
use Rattle.hp_segs.specs.declared.growth.Growth.{Growth}
use Rattle.hp_segs.specs.declared.list_info.ListInfo.{ListInfo}
use Rattle.hp_segs.specs.declared.plan_refusal.PlanRefusal.{PlanRefusal}
use Rattle.hp_segs.specs.declared.plan_refusal.PlanRefusal.TheVariants.{StaleAsk, GrowthOpen, NoList, TooFew, ListFull, CannotHold}

-- the first run of n slots of a list: it starts at the least slot with n free ones from there on
abbrev pub IsFirstRun : List Row → ListInfo → ℕ → ℕ → ℕ → Type 0
IsFirstRun rows info list n first = IsFirstFreeRun (slots_of rows list info.slots) 0 n first

-- a list has no run of n free slots
abbrev pub HasNoRun : List Row → ListInfo → ℕ → ℕ → Type 0
HasNoRun rows info list n = HasNoFreeRun (slots_of rows list info.slots) 0 n

-- the request of the ask has a place in the run alone
abbrev pub HasPlace : Ask → Run → Type 0
HasPlace ask run = IsSome (place_of run.addr (run.addr + run.count * run.page) ask.request)

-- the run is judged by itself alone: whether the request has a place in it
abbrev pub planned_run : Ask → Run → Result Run PlanRefusal
planned_run ask run =
    if is_some (place_of run.addr (run.addr + run.count * run.page) ask.request) then Ok run else Err (CannotHold run.addr (run.count * run.page))

-- the run from the first of enough free slots, or how long the longest free stretch is
abbrev pub planned_slots : Ask → List Row → ℕ → ListInfo → ℕ → Option ℕ → Result Run PlanRefusal
planned_slots ask rows list info need None = Err (ListFull (longest_free_run (slots_of rows list info.slots)) need)
planned_slots ask rows list info need (Some first) = planned_run ask (run_at info list first need)

-- pages are judged before slots
abbrev pub planned_pages : Ask → List Row → ℕ → ListInfo → ℕ → ℕ → Result Run PlanRefusal
planned_pages ask rows list info have need =
    if nat_lt have need then Err (TooFew have need)
    else planned_slots ask rows list info need (first_free_run (slots_of rows list info.slots) 0 need)

-- the plan in the list of that number
abbrev pub planned_list : Ask → List PoolLine → List Row → ℕ → Option ListInfo → Result Run PlanRefusal
planned_list ask pools rows list None = Err NoList
planned_list ask pools rows list (Some info) =
    planned_pages ask rows list info (pages_beside pools rows list) (pages_of ask.request ask.page)

-- the plan beside rows, where no growth is open
abbrev pub planned_in : Ask → List PoolLine → List Row → Option ℕ → Result Run PlanRefusal
planned_in ask pools rows None = Err NoList
planned_in ask pools rows (Some list) = planned_list ask pools rows list (slice_get (lists_of pools) list)

-- one growth at a time
abbrev pub planned_alone : Ask → SegsView → Option Growth → Result Run PlanRefusal
planned_alone ask segs None =
    planned_in ask segs.pools (rows_in segs.segments) (list_number (lists_of segs.pools) ask.socket ask.page)
planned_alone ask segs (Some growth) = Err (GrowthOpen growth.generation)

-- the run that is planned for an ask, or the first refusal in order: closed, growth open, no list, too few pages, list full,
-- no place for the request in the run
abbrev pub plan_of : Ask → SegsView → Result Run PlanRefusal
plan_of ask segs =
    let done = closed_number segs.asks ask.from in
    if nat_le ask.number done then Err (StaleAsk ask.number done) else planned_alone ask segs segs.growth

-- the run is the first one of the pages asked in the ask's list
pub record IsFirstFor (pools : List PoolLine) (table : List Row) (ask : Ask) (run : Run) : Type 0 where
  pub list : ℕ
  pub info : ListInfo
  pub first : ℕ
  pub its_list : list_number (lists_of pools) ask.socket ask.page ≡ Some list
  pub its_info : slice_get (lists_of pools) list ≡ Some info
  pub is_first : IsFirstRun table info list (pages_of ask.request ask.page) first
  pub its_run : run ≡ run_at info list first (pages_of ask.request ask.page)
