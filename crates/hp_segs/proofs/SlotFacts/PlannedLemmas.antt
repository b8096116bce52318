-- What a planned run is: the first of the pages asked, within its list and its pool.
use Rattle.std.proofs.Common.{◌≡◌, ℕ, ◌+◌, ◌*◌, ◌^◌, ◌<◌, ◌≤◌, Bool, true, false, List, get_or, Option, Some, None, Result, Ok, Err, IfOk, IsTrue, refl, ap, ◌∙◌, sym, subst, arith, nat_lt, nat_le, is_some, if◌then◌else◌}
use Rattle.std.proofs.Math.Nat.{mul-le-mul_right}
use Rattle.std.specs.List.{slice_get, list_any}
use Rattle.std.proofs.lemmas.Bool.{ltb-false, leb-false}
use Rattle.std.proofs.lemmas.List.FromFn.{get_or-map-range_with_len}
use Rattle.hp_base.specs.Pages.{is_page_size, pages_of}
use Rattle.hp_base.specs.Place.{place_of}
use Rattle.hp_base.specs.PoolLines.{ArePoolLines, IsPoolLine}
use Rattle.hp_base.specs.declared.row.Row.{Row}
use Rattle.hp_base.specs.declared.row.Run.{Run}
use Rattle.hp_base.specs.declared.pool_line.PoolLine.{PoolLine}
use Rattle.hp_fbarray.specs.Mask.{IsFirstFreeRun}
use Rattle.hp_fbarray.specs.FreeRuns.{first_free_run}
use Rattle.hp_fbarray.proofs.RunValues.{first_free_run-holds}
use Rattle.hp_segs.specs.Lists.{lists_of, list_number, pages_beside, run_at}
use Rattle.hp_segs.specs.Plan.{planned_in, planned_list, planned_slots, planned_alone, plan_of, HasPlace, IsFirstFor}
use Rattle.hp_log.specs.Rows.{at_slot, slots_of, IsUnusedRun}
use Rattle.hp_segs.specs.SegsView.{SegsView, closed_number, rows_in}
use Rattle.hp_segs.specs.Table.{IsListRun, HasPages}
use Rattle.hp_segs.specs.declared.ask.Ask.{Ask}
use Rattle.hp_segs.specs.declared.growth.Growth.{Growth}
use Rattle.hp_segs.specs.declared.list_info.ListInfo.{ListInfo}
use Rattle.hp_segs.specs.declared.plan_refusal.PlanRefusal.{PlanRefusal}
use Rattle.hp_segs.specs.declared.plan_refusal.PlanRefusal.TheVariants.{StaleAsk, TooFew, CannotHold}
use Rattle.hp_log.proofs.Counts.{none_counts}
use Rattle.hp_segs.proofs.SlotFacts.ListsLemmas.{line_of_list}
use Rattle.hp_segs.proofs.SlotFacts.PlanLemmas.{pages_some, first_within, numbered_list}
use Rattle.hp_segs.proofs.SlotFacts.PageSizes.{page_small}
use Rattle.hp_segs.proofs.RowTables.TableUse.{at_place}

-- a planned run
pub record IsPlanned (pools : List PoolLine) (rows : List Row) (ask : Ask) (run : Run) : Type 0 where
  pub first : IsFirstFor pools rows ask run
  pub pages : HasPages pools rows run
  pub listed : IsListRun (lists_of pools) run
  pub unused : IsUnusedRun rows run
  pub place : HasPlace ask run

-- the page size of a list is one of the eight
pub list_page : (pools : List PoolLine) (list : ℕ) (info : ListInfo) → ArePoolLines pools → slice_get (lists_of pools) list ≡ Some info
    → IsTrue (is_page_size info.page)
list_page pools list info limits here =
    let found = line_of_list pools list info here in
    let line : IsPoolLine found.line = at_place IsPoolLine pools list found.line limits.lines found.its_line in
    subst (λ page. IsTrue (is_page_size page)) (sym found.alike.page) line.page

module _ (pools : List PoolLine) (rows : List Row) (ask : Ask) (run : Run) (limits : ArePoolLines pools) where
  of_slot : (list : ℕ) (info : ListInfo) (first : ℕ) → list_number (lists_of pools) ask.socket ask.page ≡ Some list
      → slice_get (lists_of pools) list ≡ Some info → info.page ≡ ask.page
      → pages_of ask.request ask.page ≤ pages_beside pools rows list
      → first_free_run (slots_of rows list info.slots) 0 (pages_of ask.request ask.page) ≡ Some first
      → HasPlace ask (run_at info list first (pages_of ask.request ask.page))
      → IsPlanned pools rows ask (run_at info list first (pages_of ask.request ask.page))
  of_slot list info first number here page enough found place =
      let need : ℕ = pages_of ask.request ask.page in
      let is_first : IsFirstFreeRun (slots_of rows list info.slots) 0 need first =
      rw found at (first_free_run-holds (slots_of rows list info.slots) 0 need) in
      let some : 0 < need = pages_some ask.request ask.page (subst (λ p. IsTrue (is_page_size p)) page (list_page pools list info limits here)) in
      let within : first + need ≤ info.slots = first_within rows list info.slots need first found in
      record {
        first = record { list = list; info = info; first = first; its_list = number; its_info = here; is_first = is_first; its_run = refl };
        pages = enough;
        listed = record { info = info; its_list = here; some = some; within = within; is_run = refl };
        unused = record {
          unused = λ n below.
              let clear = is_first.free.clear (first + n) (omega arith) (omega arith) in
              let at : get_or (slots_of rows list info.slots) (first + n) true ≡ list_any (at_slot list (first + n)) rows =
              get_or-map-range_with_len (λ slot. list_any (at_slot list slot) rows) 0 info.slots (first + n) (first + n) true (omega arith) (omega arith) in
              none_counts (at_slot list (first + n)) rows (sym at ∙ clear);
        };
        place = place;
      }

  of_place : (list : ℕ) (info : ListInfo) (first : ℕ) → list_number (lists_of pools) ask.socket ask.page ≡ Some list
      → slice_get (lists_of pools) list ≡ Some info → info.page ≡ ask.page
      → pages_of ask.request ask.page ≤ pages_beside pools rows list
      → first_free_run (slots_of rows list info.slots) 0 (pages_of ask.request ask.page) ≡ Some first
      → (held : Bool) (planned : Run) → (if held then Ok planned else Err (CannotHold planned.addr (planned.count * planned.page))) ≡ Ok run
      → planned ≡ run_at info list first (pages_of ask.request ask.page)
      → is_some (place_of planned.addr (planned.addr + planned.count * planned.page) ask.request) ≡ held → IsPlanned pools rows ask run
  of_place list info first number here page enough found true planned plan is holds =
      let same : planned ≡ run = cc in
      subst (IsPlanned pools rows ask) (sym is ∙ same)
      (of_slot list info first number here page enough found (subst (HasPlace ask) is holds))
  of_place list info first number here page enough found false planned plan is holds = cc

  of_first : (list : ℕ) (info : ListInfo) → list_number (lists_of pools) ask.socket ask.page ≡ Some list
      → slice_get (lists_of pools) list ≡ Some info → info.page ≡ ask.page
      → pages_of ask.request ask.page ≤ pages_beside pools rows list
      → (first : Option ℕ) → first_free_run (slots_of rows list info.slots) 0 (pages_of ask.request ask.page) ≡ first
      → planned_slots ask rows list info (pages_of ask.request ask.page) first ≡ Ok run → IsPlanned pools rows ask run
  of_first list info number here page enough None found plan = cc
  of_first list info number here page enough (Some first) found plan =
      let planned : Run = run_at info list first (pages_of ask.request ask.page) in
      of_place list info first number here page enough found
      (is_some (place_of planned.addr (planned.addr + planned.count * planned.page) ask.request)) planned plan refl refl

  of_pages : (list : ℕ) (info : ListInfo) → list_number (lists_of pools) ask.socket ask.page ≡ Some list
      → slice_get (lists_of pools) list ≡ Some info → info.page ≡ ask.page
      → (few : Bool) → nat_lt (pages_beside pools rows list) (pages_of ask.request ask.page) ≡ few
      → (if few then Err (TooFew (pages_beside pools rows list) (pages_of ask.request ask.page))
      else planned_slots ask rows list info (pages_of ask.request ask.page)
      (first_free_run (slots_of rows list info.slots) 0 (pages_of ask.request ask.page))) ≡ Ok run
      → IsPlanned pools rows ask run
  of_pages list info number here page true few plan = cc
  of_pages list info number here page false enough plan =
      of_first list info number here page (ltb-false (pages_beside pools rows list) (pages_of ask.request ask.page) enough)
      (first_free_run (slots_of rows list info.slots) 0 (pages_of ask.request ask.page)) refl plan

  of_info : (list : ℕ) → list_number (lists_of pools) ask.socket ask.page ≡ Some list → (info : Option ListInfo)
      → slice_get (lists_of pools) list ≡ info → planned_list ask pools rows list info ≡ Ok run → IsPlanned pools rows ask run
  of_info list number None here plan = cc
  of_info list number (Some info) here plan =
      let numbered = numbered_list pools ask.socket ask.page list info number in
      let same : get_or (lists_of pools) list info ≡ info =
      (let one : Some (get_or (lists_of pools) list info) ≡ Some info = sym numbered.here ∙ here in cc) in
      of_pages list info number here (ap (λ i. i.page) (sym same) ∙ numbered.its_page)
      (nat_lt (pages_beside pools rows list) (pages_of ask.request ask.page)) refl plan

  of_number : (number : Option ℕ) → list_number (lists_of pools) ask.socket ask.page ≡ number → planned_in ask pools rows number ≡ Ok run
      → IsPlanned pools rows ask run
  of_number None is plan = cc
  of_number (Some list) is plan = of_info list is (slice_get (lists_of pools) list) refl plan

-- a plan beside rows is a planned run
pub planned_is : (pools : List PoolLine) (rows : List Row) (ask : Ask) (run : Run) → ArePoolLines pools
    → planned_in ask pools rows (list_number (lists_of pools) ask.socket ask.page) ≡ Ok run → IsPlanned pools rows ask run
planned_is pools rows ask run limits plan =
    of_number pools rows ask run limits (list_number (lists_of pools) ask.socket ask.page) refl plan

-- the plan of an ask that gives a run: the ask is not closed, no growth is open, and the run is planned
pub record IsOpenPlan (segs : SegsView) (ask : Ask) (run : Run) : Type 0 where
  pub above : closed_number segs.asks ask.from < ask.number
  pub alone : segs.growth ≡ None
  pub planned : IsPlanned segs.pools (rows_in segs.segments) ask run

open_alone : (segs : SegsView) (ask : Ask) (run : Run) (growth : Option Growth) → ArePoolLines segs.pools → segs.growth ≡ growth
    → closed_number segs.asks ask.from < ask.number → planned_alone ask segs growth ≡ Ok run → IsOpenPlan segs ask run
open_alone segs ask run None limits alone above plan = record {
  above = above;
  alone = alone;
  planned = planned_is segs.pools (rows_in segs.segments) ask run limits plan;
}
open_alone segs ask run (Some growth) limits alone above plan = cc

open_above : (segs : SegsView) (ask : Ask) (run : Run) (stale : Bool) → ArePoolLines segs.pools
    → nat_le ask.number (closed_number segs.asks ask.from) ≡ stale
    → (if stale then Err (StaleAsk ask.number (closed_number segs.asks ask.from)) else planned_alone ask segs segs.growth) ≡ Ok run
    → IsOpenPlan segs ask run
open_above segs ask run true limits stale plan = cc
open_above segs ask run false limits fresh plan =
    open_alone segs ask run segs.growth limits refl (leb-false ask.number (closed_number segs.asks ask.from) fresh) plan

pub open_plan : (segs : SegsView) (ask : Ask) (run : Run) → ArePoolLines segs.pools → plan_of ask segs ≡ Ok run → IsOpenPlan segs ask run
open_plan segs ask run limits plan =
    open_above segs ask run (nat_le ask.number (closed_number segs.asks ask.from)) limits refl plan

-- a planned run has few bytes
pub planned_fits : (segs : SegsView) (ask : Ask) (result : Result Run PlanRefusal) → ArePoolLines segs.pools → result ≡ plan_of ask segs
    → IfOk result (λ run. run.count * run.page ≤ 2 ^ 47)
planned_fits segs ask (Ok run) limits plan =
    let planned = (open_plan segs ask run limits (sym plan)).planned in
    let found = line_of_list segs.pools run.list planned.listed.info planned.listed.its_list in
    let line : IsPoolLine found.line = at_place IsPoolLine segs.pools run.list found.line limits.lines found.its_line in
    let page : run.page ≡ found.line.page = ap (λ (r : Run). r.page) planned.listed.is_run ∙ found.alike.page in
    let small : run.page ≤ 2 ^ 34 = omega (arith, page, page_small found.line.page line.page) in
    let few : run.count ≤ 8192 = omega (arith, planned.listed.within, found.alike.slots, line.slots) in
    let bytes : run.count * run.page ≤ 8192 * run.page = mul-le-mul_right run.page few in
    omega (arith, bytes, small)
planned_fits segs ask (Err refusal) limits plan = tt

-- and is the first one
pub planned_first : (segs : SegsView) (ask : Ask) (result : Result Run PlanRefusal) → ArePoolLines segs.pools → result ≡ plan_of ask segs
    → IfOk result (IsFirstFor segs.pools (rows_in segs.segments) ask)
planned_first segs ask (Ok run) limits plan = (open_plan segs ask run limits (sym plan)).planned.first
planned_first segs ask (Err refusal) limits plan = tt

-- in which the request has a place
pub planned_holds : (segs : SegsView) (ask : Ask) (result : Result Run PlanRefusal) → ArePoolLines segs.pools → result ≡ plan_of ask segs
    → IfOk result (HasPlace ask)
planned_holds segs ask (Ok run) limits plan = (open_plan segs ask run limits (sym plan)).planned.place
planned_holds segs ask (Err refusal) limits plan = tt
