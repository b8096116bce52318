-- The cause of a refused plan, and of a denial.
use Rattle.std.proofs.Common.{◌≡◌, ℕ, ◌+◌, ◌*◌, Bool, true, false, if◌then◌else◌, List, Option, Some, None, Ok, Err, refl, ap, subst, nat_lt, nat_le, is_some}
use Rattle.std.specs.List.{slice_get}
use Rattle.std.specs.Option.{option_map, option_map_or}
use Rattle.std.proofs.lemmas.Bool.{leb-true, ltb-true}
use Rattle.hp_base.specs.Pages.{pages_of}
use Rattle.hp_base.specs.Place.{place_of}
use Rattle.hp_base.specs.declared.row.Row.{Row}
use Rattle.hp_base.specs.declared.row.Run.{Run}
use Rattle.hp_base.specs.declared.pool_line.PoolLine.{PoolLine}
use Rattle.hp_fbarray.specs.FreeRuns.{first_free_run, longest_free_run}
use Rattle.hp_fbarray.proofs.FreeRunLemmas.{longest_below}
use Rattle.hp_fbarray.proofs.RunValues.{first_free_run-holds, longest_free_run-holds}
use Rattle.hp_segs.specs.Lists.{lists_of, list_number, free_pages, pages_beside, run_at}
use Rattle.hp_segs.specs.Plan.{planned_in, planned_list, planned_slots, planned_alone, plan_of}
use Rattle.hp_segs.specs.Refusals.{IsPlanCause, IsPlanRefusal}
use Rattle.hp_log.specs.Rows.{slots_of}
use Rattle.hp_segs.specs.SegsView.{SegsView, closed_number, rows_in}
use Rattle.hp_segs.specs.declared.ask.Ask.{Ask}
use Rattle.hp_segs.specs.declared.growth.Growth.{Growth}
use Rattle.hp_segs.specs.declared.list_info.ListInfo.{ListInfo}
use Rattle.hp_segs.specs.declared.plan_refusal.PlanRefusal.{PlanRefusal}
use Rattle.hp_segs.specs.declared.plan_refusal.PlanRefusal.TheVariants.{StaleAsk, GrowthOpen, NoList, TooFew, ListFull, CannotHold}
use Rattle.hp_segs.proofs.SlotFacts.ListsLemmas.{line_of_list}
use Rattle.hp_segs.proofs.SlotFacts.PlanLemmas.{numbered_list}

module _ (pools : List PoolLine) (rows : List Row) (ask : Ask) (refusal : PlanRefusal) where
  by_place : (list : ℕ) (info : ListInfo) (first : ℕ) → list_number (lists_of pools) ask.socket ask.page ≡ Some list
      → slice_get (lists_of pools) list ≡ Some info
      → first_free_run (slots_of rows list info.slots) 0 (pages_of ask.request ask.page) ≡ Some first
      → (planned : Run) → planned ≡ run_at info list first (pages_of ask.request ask.page)
      → (held : Bool) → is_some (place_of planned.addr (planned.addr + planned.count * planned.page) ask.request) ≡ held
      → (if held then Ok planned else Err (CannotHold planned.addr (planned.count * planned.page))) ≡ Err refusal
      → IsPlanCause pools rows ask refusal
  by_place list info first number here found planned its_run true holds plan = cc
  by_place list info first number here found planned its_run false none plan =
      let same : CannotHold planned.addr (planned.count * planned.page) ≡ refusal = cc in
      subst (IsPlanCause pools rows ask) same
      (record {
        run = planned;
        first = record {
          list = list;
          info = info;
          first = first;
          its_list = number;
          its_info = here;
          is_first = rw found at (first_free_run-holds (slots_of rows list info.slots) 0 (pages_of ask.request ask.page));
          its_run = its_run;
        };
        at = refl;
        long = refl;
        no_place = none;
      })

  by_slots : (list : ℕ) (info : ListInfo) → list_number (lists_of pools) ask.socket ask.page ≡ Some list
      → slice_get (lists_of pools) list ≡ Some info
      → (first : Option ℕ) → first_free_run (slots_of rows list info.slots) 0 (pages_of ask.request ask.page) ≡ first
      → planned_slots ask rows list info (pages_of ask.request ask.page) first ≡ Err refusal → IsPlanCause pools rows ask refusal
  by_slots list info number here None found plan =
      let need : ℕ = pages_of ask.request ask.page in
      let mask : List Bool = slots_of rows list info.slots in
      let none = rw found at (first_free_run-holds mask 0 need) in
      let same : ListFull (longest_free_run mask) need ≡ refusal = cc in
      subst (IsPlanCause pools rows ask) same
      (record {
        list = list;
        info = info;
        its_list = number;
        its_info = here;
        stretch = longest_free_run-holds mask;
        asked = refl;
        fewer = longest_below mask need (longest_free_run mask) none (longest_free_run-holds mask);
      })
  by_slots list info number here (Some first) found plan =
      let planned : Run = run_at info list first (pages_of ask.request ask.page) in
      by_place list info first number here found planned refl
      (is_some (place_of planned.addr (planned.addr + planned.count * planned.page) ask.request)) refl plan

  by_pages : (list : ℕ) (info : ListInfo) → list_number (lists_of pools) ask.socket ask.page ≡ Some list
      → slice_get (lists_of pools) list ≡ Some info
      → (few : Bool) → nat_lt (pages_beside pools rows list) (pages_of ask.request ask.page) ≡ few
      → (if few then Err (TooFew (pages_beside pools rows list) (pages_of ask.request ask.page))
      else planned_slots ask rows list info (pages_of ask.request ask.page)
      (first_free_run (slots_of rows list info.slots) 0 (pages_of ask.request ask.page))) ≡ Err refusal
      → IsPlanCause pools rows ask refusal
  by_pages list info number here true few plan =
      let same : TooFew (pages_beside pools rows list) (pages_of ask.request ask.page) ≡ refusal = cc in
      let has = line_of_list pools list info here in
      subst (IsPlanCause pools rows ask) same
      (record {
        list = list;
        line = has.line;
        its_list = number;
        its_line = has.its_line;
        free = ap (λ o. option_map_or (free_pages rows) o 0) has.its_line;
        asked = refl;
        fewer = ltb-true (pages_beside pools rows list) (pages_of ask.request ask.page) few;
      })
  by_pages list info number here false enough plan =
      by_slots list info number here (first_free_run (slots_of rows list info.slots) 0 (pages_of ask.request ask.page)) refl plan

  by_info : (list : ℕ) → list_number (lists_of pools) ask.socket ask.page ≡ Some list → (info : Option ListInfo)
      → slice_get (lists_of pools) list ≡ info → planned_list ask pools rows list info ≡ Err refusal → IsPlanCause pools rows ask refusal
  by_info list number None here plan =
      let no_list : ListInfo = record { socket = 0; page = 0; base = 0; slots = 0 } in
      let there = (numbered_list pools ask.socket ask.page list no_list number).here in
      cc
  by_info list number (Some info) here plan =
      by_pages list info number here (nat_lt (pages_beside pools rows list) (pages_of ask.request ask.page)) refl plan

  by_number : (number : Option ℕ) → list_number (lists_of pools) ask.socket ask.page ≡ number → planned_in ask pools rows number ≡ Err refusal
      → IsPlanCause pools rows ask refusal
  by_number None none plan =
      let same : NoList ≡ refusal = cc in
      subst (IsPlanCause pools rows ask) same none
  by_number (Some list) is plan = by_info list is (slice_get (lists_of pools) list) refl plan

says : (segs : SegsView) (ask : Ask) (refusal : PlanRefusal) → IsPlanCause segs.pools (rows_in segs.segments) ask refusal → IsPlanRefusal ask segs refusal
says segs ask (StaleAsk number done) has = absurd has
says segs ask (GrowthOpen generation) has = absurd has
says segs ask NoList has = has
says segs ask (TooFew have need) has = has
says segs ask (ListFull longest need) has = has
says segs ask (CannotHold addr len) has = has

by_growth : (segs : SegsView) (ask : Ask) (refusal : PlanRefusal) (growth : Option Growth) → segs.growth ≡ growth
    → planned_alone ask segs growth ≡ Err refusal → IsPlanRefusal ask segs refusal
by_growth segs ask refusal None is plan =
    says segs ask refusal
    (by_number segs.pools (rows_in segs.segments) ask refusal (list_number (lists_of segs.pools) ask.socket ask.page) refl plan)
by_growth segs ask refusal (Some growth) is plan =
    let same : GrowthOpen growth.generation ≡ refusal = cc in
    subst (IsPlanRefusal ask segs) same (ap (option_map (λ (growth : Growth). growth.generation)) is)

by_closed : (segs : SegsView) (ask : Ask) (refusal : PlanRefusal) (stale : Bool) → nat_le ask.number (closed_number segs.asks ask.from) ≡ stale
    → (if stale then Err (StaleAsk ask.number (closed_number segs.asks ask.from)) else planned_alone ask segs segs.growth) ≡ Err refusal
    → IsPlanRefusal ask segs refusal
by_closed segs ask refusal true closed plan =
    let same : StaleAsk ask.number (closed_number segs.asks ask.from) ≡ refusal = cc in
    subst (IsPlanRefusal ask segs) same (refl, refl, leb-true ask.number (closed_number segs.asks ask.from) closed)
by_closed segs ask refusal false closed plan = by_growth segs ask refusal segs.growth refl plan

-- a refused plan says what stands
pub refused_plan : (segs : SegsView) (ask : Ask) (refusal : PlanRefusal) → plan_of ask segs ≡ Err refusal → IsPlanRefusal ask segs refusal
refused_plan segs ask refusal plan = by_closed segs ask refusal (nat_le ask.number (closed_number segs.asks ask.from)) refl plan
