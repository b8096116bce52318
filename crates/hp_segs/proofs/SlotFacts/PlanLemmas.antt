-- Planned runs.
use Rattle.std.proofs.Common.{◌≡◌, ◌==◌, ℕ, zero, suc, ◌+◌, ◌*◌, ◌^◌, ◌<◌, ◌≤◌, List, [], length, get_or, Some, Err, IsTrue, refl, ap, ◌∙◌, sym, arith}
use Rattle.std.proofs.Math.Nat.{add-mul, mul-le-mul_right, le-mul_of_pos_right}
use Rattle.std.specs.Int.{div_ceil}
use Rattle.std.specs.List.{slice_get, list_any}
use Rattle.std.specs.Option.{option_map_or}
use Rattle.std.proofs.lemmas.Bool.{and_parts, eqb-true, lt-ltb, le-ltb}
use Rattle.std.proofs.lemmas.List.Quantifiers.{position-Some}
use Rattle.std.proofs.lemmas.List.FromFn.{length-map-range_with_len}
use Rattle.hp_base.specs.Round.{ceil_of}
use Rattle.hp_base.specs.Pages.{is_page_size, pages_of}
use Rattle.hp_base.specs.declared.request.Request.{Request}
use Rattle.hp_base.specs.declared.row.Row.{Row}
use Rattle.hp_base.specs.declared.pool_line.PoolLine.{PoolLine}
use Rattle.hp_base.proofs.Rounding.{ceil_above}
use Rattle.hp_base.proofs.PageLemmas.{page_pos}
use Rattle.hp_fbarray.specs.Answers.{free_run}
use Rattle.hp_fbarray.specs.FreeRuns.{first_free_run, longest_free_run}
use Rattle.hp_fbarray.specs.declared.free_run.FreeRun.{FreeRun}
use Rattle.hp_fbarray.specs.declared.free_run.FreeRun.TheVariants.{Found}
use Rattle.hp_fbarray.proofs.AnswerLemmas.{first_of_found}
use Rattle.hp_fbarray.proofs.RunValues.{first_free_run-holds}
use Rattle.hp_segs.specs.Lists.{lists_of, list_number, is_list_of, pages_beside, slots_beside}
use Rattle.hp_segs.specs.Plan.{planned_list, planned_slots}
use Rattle.hp_log.specs.Rows.{at_slot, slots_of}
use Rattle.hp_segs.specs.declared.ask.Ask.{Ask}
use Rattle.hp_segs.specs.declared.plan_refusal.PlanRefusal.TheVariants.{TooFew}
use Rattle.hp_segs.proofs.QueryLemmas.{get_within}
use Rattle.hp_segs.specs.TableLayout.{IsFitList}
use Rattle.hp_segs.specs.declared.list_info.ListInfo.{ListInfo}

some_of : (n page : ℕ) → 0 < n * page → 0 < n
some_of zero page more = absurd (omega (arith, more))
some_of (suc n) page more = omega arith

-- at least one page is asked for
pub pages_some : (request : Request) (page : ℕ) → IsTrue (is_page_size page) → 0 < pages_of request page
unfolding pages_of
pages_some request page is =
    let bytes : ℕ = ceil_of request.size request.align + 128 in
    let above = ceil_above bytes page (page_pos page is) in
    some_of (div_ceil bytes page) page (omega arith)

-- the slots of a list beside rows are those of its info
pub slots_here : (pools : List PoolLine) (rows : List Row) (list : ℕ) (info : ListInfo) → slice_get (lists_of pools) list ≡ Some info
    → slots_beside pools rows list ≡ slots_of rows list info.slots
slots_here pools rows list info here = ap (λ o. option_map_or (λ info. slots_of rows list info.slots) o []) here

-- the first free run lies in the list
pub first_within : (rows : List Row) (list n need first : ℕ) → first_free_run (slots_of rows list n) 0 need ≡ Some first → first + need ≤ n
first_within rows list n need first found =
    let holds = rw found at (first_free_run-holds (slots_of rows list n) 0 need) in
    let long : length (slots_of rows list n) ≡ n = length-map-range_with_len (λ slot. list_any (at_slot list slot) rows) 0 n in
    omega (arith, holds.free.within, long)

-- the numbers of a planned run are within their types
pub record PlanFits (info : ListInfo) (first need : ℕ) : Type 0 where
  pub first_small : first < 2 ^ 32
  pub need_small : need < 2 ^ 32
  pub start : info.base + first * info.page < 2 ^ 64
  pub end : info.base + first * info.page + need * info.page < 2 ^ 64
  pub some : 0 < need * info.page

pub plan_fits : (info : ListInfo) (first need : ℕ) → IsFitList info → first + need ≤ info.slots → 0 < need → PlanFits info first need
plan_fits info first need fit within some =
    let whole = add-mul first need info.page in
    let most : (first + need) * info.page ≤ info.slots * info.page = mul-le-mul_right info.page within in
    let page = page_pos info.page fit.page in
    let one : need ≤ need * info.page = le-mul_of_pos_right need page in
    record {
      first_small = omega (arith, within, fit.slots);
      need_small = omega (arith, within, fit.slots);
      start = omega (arith, whole, most, fit.below);
      end = omega (arith, whole, most, fit.below);
      some = omega (arith, one, some);
    }

-- the first free run of a list that the search found
pub found_here : (pools : List PoolLine) (rows : List Row) (list : ℕ) (info : ListInfo) (need first : ℕ) (answer : FreeRun)
    → slice_get (lists_of pools) list ≡ Some info → answer ≡ free_run (slots_beside pools rows list) need → answer ≡ Found first
    → first_free_run (slots_of rows list info.slots) 0 need ≡ Some first
found_here pools rows list info need first answer here search found =
    ap (λ slots. first_free_run slots 0 need) (sym (slots_here pools rows list info here))
    ∙ first_of_found (first_free_run (slots_beside pools rows list) 0 need) (longest_free_run (slots_beside pools rows list)) first
    (sym found ∙ search)

-- what a planned run's numbers fit, from the search
pub slot_fits : (pools : List PoolLine) (rows : List Row) (list : ℕ) (info : ListInfo) (need first : ℕ) (answer : FreeRun)
    → slice_get (lists_of pools) list ≡ Some info → IsFitList info → 0 < need
    → answer ≡ free_run (slots_beside pools rows list) need → answer ≡ Found first → PlanFits info first need
slot_fits pools rows list info need first answer here fit some search found =
    plan_fits info first need fit
    (first_within rows list info.slots need first (found_here pools rows list info need first answer here search found)) some

-- where the pages are too few no slot is looked at
pub planned_few : (ask : Ask) (pools : List PoolLine) (rows : List Row) (list : ℕ) (info : ListInfo) → slice_get (lists_of pools) list ≡ Some info
    → pages_beside pools rows list < pages_of ask.request ask.page
    → Err (TooFew (pages_beside pools rows list) (pages_of ask.request ask.page))
    ≡ planned_list ask pools rows list (slice_get (lists_of pools) list)
planned_few ask pools rows list info here fewer =
    rw (here, lt-ltb (pages_beside pools rows list) (pages_of ask.request ask.page) fewer) refl

pub planned_enough : (ask : Ask) (pools : List PoolLine) (rows : List Row) (list : ℕ) (info : ListInfo) → slice_get (lists_of pools) list ≡ Some info
    → pages_of ask.request ask.page ≤ pages_beside pools rows list
    → planned_list ask pools rows list (slice_get (lists_of pools) list)
    ≡ planned_slots ask rows list info (pages_of ask.request ask.page)
    (first_free_run (slots_of rows list info.slots) 0 (pages_of ask.request ask.page))
planned_enough ask pools rows list info here enough =
    rw (here, le-ltb (pages_beside pools rows list) (pages_of ask.request ask.page) enough) refl

-- the list of a number
pub record NumberedList (pools : List PoolLine) (socket page list : ℕ) (d : ListInfo) : Type 0 where
  pub within : list < length (lists_of pools)
  pub its_page : (get_or (lists_of pools) list d).page ≡ page
  pub here : slice_get (lists_of pools) list ≡ Some (get_or (lists_of pools) list d)

pub numbered_list : (pools : List PoolLine) (socket page list : ℕ) (d : ListInfo) → list_number (lists_of pools) socket page ≡ Some list
    → NumberedList pools socket page list d
numbered_list pools socket page list d number =
    let found = position-Some (is_list_of socket page) (lists_of pools) list d number in
    let parts = and_parts ((get_or (lists_of pools) list d).socket == socket) ((get_or (lists_of pools) list d).page == page) found.1 in
    record {
      within = found.0;
      its_page = eqb-true (get_or (lists_of pools) list d).page page parts.1;
      here = get_within (lists_of pools) list d found.0;
    }
