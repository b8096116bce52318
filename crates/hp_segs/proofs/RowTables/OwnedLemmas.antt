-- The run of a heap: its rows, and that no held run has a slot of it.
use Rattle.std.proofs.Common.{◌≡◌, ◌==◌, ℕ, ◌+◌, ◌-◌, ◌*◌, ◌<◌, true, false, ◌||◌, List, ◌++◌, length, get_or, Some, refl, ap, ◌∙◌, sym, subst, arith, add-zero, zero-mul}
use Rattle.std.specs.List.{All, list_any, slice_get}
use Rattle.std.proofs.lemmas.Bool.{and_parts, and_from, or_from, eqb-true, eq-eqb, false_from_ne_true}
use Rattle.std.proofs.lemmas.List.{get_or-map}
use Rattle.std.proofs.lemmas.List.Folds.{list_any_at, list_any_none, Any-from_list_any}
use Rattle.hp_base.specs.declared.row.Row.{Row}
use Rattle.hp_base.specs.declared.row.Run.{Run}
use Rattle.hp_segs.specs.Calls.{OwnsRun, is_owned_at}
use Rattle.hp_segs.specs.Lists.{lists_of, run_at}
use Rattle.hp_log.specs.Rows.{at_slot, in_run, is_row_at, IsUsedRun}
use Rattle.hp_segs.specs.SegsView.{SegsView, rows_in, is_opened, is_owned_by, is_retiring}
use Rattle.hp_segs.specs.Sound.{IsSound}
use Rattle.hp_segs.specs.SoundRows.{has_slot, in_runs, growth_run}
use Rattle.hp_segs.specs.Table.{IsPlaced, IsListRun}
use Rattle.hp_segs.specs.declared.list_info.ListInfo.{ListInfo}
use Rattle.hp_segs.specs.declared.row_state.RowState.{RowState}
use Rattle.hp_segs.specs.declared.row_state.RowState.TheVariants.{Opened, Agreed, Owned, Retiring}
use Rattle.hp_segs.specs.declared.row_state.Segment.{Segment}
use Rattle.hp_segs.proofs.GrowthSteps.OpenLemmas.{slot_place, counted_at}
use Rattle.hp_segs.proofs.InsertLemmas.{in_runs_append}
use Rattle.hp_segs.proofs.SlotFacts.ListFacts.{all_unmap, split_front}
use Rattle.hp_segs.proofs.RowTables.StateLemmas.{length_rows_in}

-- the owned segment of a slot of a run
pub record OwnedAt (heap : ℕ) (run : Run) (n : ℕ) (segments : List Segment) : Type 0 where
  pub place : ℕ
  pub segment : Segment
  pub within : place < length segments
  pub here : get_or segments place segment ≡ segment
  pub owned : is_owned_by heap segment.state ≡ true
  pub its_list : segment.row.list ≡ run.list
  pub its_slot : segment.row.slot ≡ run.first + n
  pub its_addr : segment.row.addr ≡ run.addr + n * run.page
  pub its_page : segment.row.page ≡ run.page
  pub its_socket : segment.row.socket ≡ run.socket

pub owned_at : (heap : ℕ) (run : Run) (n : ℕ) (segments : List Segment) → list_any (is_owned_at heap run n) segments ≡ true
    → OwnedAt heap run n segments
owned_at heap run n segments any =
    let found = Any-from_list_any (is_owned_at heap run n) segments any in
    let segment : Segment = found.1 in
    let parts = and_parts (is_owned_by heap segment.state) (is_row_at run n segment.row) found.4 in
    let list = and_parts (segment.row.list == run.list) _ parts.1 in
    let slot = and_parts (segment.row.slot == run.first + n) _ list.1 in
    let addr = and_parts (segment.row.addr == run.addr + n * run.page) _ slot.1 in
    let page = and_parts (segment.row.page == run.page) (segment.row.socket == run.socket) addr.1 in
    record {
      place = found.0;
      segment = segment;
      within = found.2;
      here = found.3;
      owned = parts.0;
      its_list = eqb-true segment.row.list run.list list.0;
      its_slot = eqb-true segment.row.slot (run.first + n) slot.0;
      its_addr = eqb-true segment.row.addr (run.addr + n * run.page) addr.0;
      its_page = eqb-true segment.row.page run.page page.0;
      its_socket = eqb-true segment.row.socket run.socket page.1;
    }

owned_alone : (heap : ℕ) (state : RowState) → is_owned_by heap state ≡ true → (is_opened state ≡ false) × (is_retiring state ≡ false)
owned_alone heap Opened is = cc
owned_alone heap (Agreed other) is = cc
owned_alone heap (Owned other) is = (refl, refl)
owned_alone heap Retiring is = cc

-- a run by its numbers
run_by : (info : ListInfo) (run : Run) → run.addr ≡ info.base + run.first * info.page → run.page ≡ info.page → run.socket ≡ info.socket
    → run ≡ run_at info run.list run.first run.count
run_by info run addr page socket =
    ap (λ a. record { list = run.list; first = run.first; count = run.count; addr = a; page = run.page; socket = run.socket }) addr
    ∙ (ap (λ p. record { list = run.list; first = run.first; count = run.count; addr = info.base + run.first * info.page; page = p; socket = run.socket }) page
    ∙ ap (λ s. record { list = run.list; first = run.first; count = run.count; addr = info.base + run.first * info.page; page = info.page; socket = s }) socket)

module _ (segs : SegsView) (sound : IsSound segs) (heap : ℕ) (run : Run) (owns : OwnsRun heap run segs) where
  at : (n : ℕ) → n < run.count → OwnedAt heap run n segs.segments
  at n below = owned_at heap run n segs.segments (owns.owned n below)

  placed_at : (n : ℕ) (below : n < run.count) → IsPlaced (lists_of segs.pools) (at n below).segment.row
  placed_at n below =
      let one = at n below in
      let all : All (λ segment. IsPlaced (lists_of segs.pools) segment.row) segs.segments =
      all_unmap (IsPlaced (lists_of segs.pools)) (λ segment. segment.row) segs.segments sound.rows.table.placed in
      subst (λ segment. IsPlaced (lists_of segs.pools) segment.row) one.here (all one.place one.segment one.within)

  -- the run is of a list
  pub listed_owned : IsListRun (lists_of segs.pools) run
  listed_owned =
      let first = at 0 owns.some in
      let placed = placed_at 0 owns.some in
      let last_below : run.count - 1 < run.count = omega (arith, owns.some) in
      let last = at (run.count - 1) last_below in
      let ends = placed_at (run.count - 1) last_below in
      let here : slice_get (lists_of segs.pools) run.list ≡ Some placed.info =
      ap (slice_get (lists_of segs.pools)) (sym first.its_list) ∙ placed.its_list in
      let same : placed.info ≡ ends.info =
      (let one : Some placed.info ≡ Some ends.info =
      sym here ∙ (ap (slice_get (lists_of segs.pools)) (sym last.its_list) ∙ ends.its_list) in
      cc) in
      let slots : placed.info.slots ≡ ends.info.slots = ap (λ i. i.slots) same in
      let start : first.segment.row.slot * placed.info.page ≡ (run.first + 0) * placed.info.page = ap (λ s. s * placed.info.page) first.its_slot in
      let none : (run.first + 0) * placed.info.page ≡ run.first * placed.info.page = ap (λ s. s * placed.info.page) (add-zero run.first) in
      let zero_page : 0 * run.page ≡ 0 = zero-mul run.page in
      record {
        info = placed.info;
        its_list = here;
        some = owns.some;
        within = omega (arith, ends.within, last.its_slot, slots, owns.some);
        is_run =
            run_by placed.info run
            (omega (arith, first.its_addr, placed.addr, start, none, zero_page))
            (sym first.its_page ∙ placed.page)
            (sym first.its_socket ∙ placed.socket);
      }

  -- each slot of the run has a row
  pub used_owned : IsUsedRun (rows_in segs.segments) run
  used_owned = record {
    used = λ n below.
        let one = at n below in
        let row : get_or (rows_in segs.segments) one.place one.segment.row ≡ one.segment.row =
        get_or-map (λ segment. segment.row) segs.segments one.place one.segment one.segment.row one.within ∙ ap (λ segment. segment.row) one.here in
        let long : length (rows_in segs.segments) ≡ length segs.segments = length_rows_in segs.segments in
        let passes : at_slot run.list (run.first + n) (get_or (rows_in segs.segments) one.place one.segment.row) ≡ true =
        ap (at_slot run.list (run.first + n)) row
        ∙ and_from (one.segment.row.list == run.list) _ (eq-eqb one.segment.row.list run.list one.its_list)
        (eq-eqb one.segment.row.slot (run.first + n) one.its_slot) in
        let some = counted_at (rows_in segs.segments) one.place one.segment.row run.list (run.first + n) (omega (arith, one.within, long)) passes in
        omega (arith, some, sound.rows.table.once run.list (run.first + n));
  }

  -- no held run has a slot of the run
  pub none_held : (list slot : ℕ) → has_slot list slot run ≡ true
      → All (λ other. has_slot list slot other ≡ false) (growth_run segs.growth ++ segs.retiring)
  none_held list slot has k d within =
      let runs : List Run = growth_run segs.growth ++ segs.retiring in
      false_from_ne_true (has_slot list slot (get_or runs k d)) (λ other.
      let place = slot_place list slot run has in
      let one = at place.0 place.1 in
      let alone = owned_alone heap one.segment.state one.owned in
      let here : in_run (get_or runs k d) one.segment.row ≡ true =
      ap (λ l. has_slot l one.segment.row.slot (get_or runs k d)) (one.its_list ∙ sym place.2)
      ∙ (ap (λ s. has_slot list s (get_or runs k d)) (one.its_slot ∙ sym place.3) ∙ other) in
      let held : in_runs runs one.segment.row ≡ true = list_any_at (λ run. in_run run one.segment.row) runs k d within here in
      let opened : is_opened one.segment.state ≡ in_runs (growth_run segs.growth) one.segment.row =
      subst (λ segment. is_opened segment.state ≡ in_runs (growth_run segs.growth) segment.row) one.here
      (sound.rows.opened one.place one.segment one.within) in
      let retired : is_retiring one.segment.state ≡ in_runs segs.retiring one.segment.row =
      subst (λ segment. is_retiring segment.state ≡ in_runs segs.retiring segment.row) one.here
      (sound.rows.retired one.place one.segment one.within) in
      let off : (in_runs (growth_run segs.growth) one.segment.row || in_runs segs.retiring one.segment.row) ≡ false =
      or_from _ _ (sym opened ∙ alone.0) (sym retired ∙ alone.1) in
      let wrong : true ≡ false = sym held ∙ (in_runs_append (growth_run segs.growth) segs.retiring one.segment.row ∙ off) in
      cc)

  -- a row of the run is in no held run
  none_in : (row : Row) → in_run run row ≡ true → All (λ other. in_run other row ≡ false) (growth_run segs.growth ++ segs.retiring)
  none_in row inside = none_held row.list row.slot inside

  pub none_growth : (row : Row) → in_run run row ≡ true → in_runs (growth_run segs.growth) row ≡ false
  none_growth row inside =
      list_any_none (λ other. in_run other row) (growth_run segs.growth)
      (split_front (λ other. in_run other row ≡ false) (growth_run segs.growth) segs.retiring (none_in row inside))
