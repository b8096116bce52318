-- A grant is a growth of the plain machine.
use Rattle.std.proofs.Common.{◌≡◌, ◌==◌, ℕ, zero, suc, ◌-◌, ◌<◌, ◌≤◌, Bool, true, false, not, cond, List, [], ◌∷◌, ◌++◌, map, length, filter, get_or, Some, refl, ap, ◌∙◌, sym, subst, arith, inl, inr, slice_index}
use Rattle.std.specs.List.{All, AllPairs, slice_get, slice_set}
use Rattle.std.specs.Option.{option_map_or}
use Rattle.std.proofs.lemmas.List.{map-append}
use Rattle.std.proofs.lemmas.List.Folds.{map_fixed}
use Rattle.std.proofs.lemmas.Bool.{cases_lt, eq-eqb, eqb-true, false_from_ne_true, and_parts, and_from}
use Rattle.std.proofs.lemmas.List.Elements.{All-head, All-tail, All-map, filter-append, filter_passes}
use Rattle.hp_base.specs.Pages.{pages_of}
use Rattle.hp_base.specs.PoolLines.{IsOtherPool}
use Rattle.hp_base.specs.declared.row.Row.{Row}
use Rattle.hp_base.specs.declared.row.Run.{Run}
use Rattle.hp_base.specs.declared.pool_line.PoolLine.{PoolLine}
use Rattle.hp_segs.specs.Laws.{GrantIsStep}
use Rattle.hp_segs.specs.Lists.{free_pages, pages_beside}
use Rattle.hp_segs.specs.Machine.{free_beside, unopened}
use Rattle.hp_segs.specs.Plan.{IsFirstFor}
use Rattle.hp_log.specs.Rows.{row_of, rows_of}
use Rattle.hp_segs.specs.SegsView.{SegsView, rows_in, is_opened}
use Rattle.hp_segs.specs.SoundRows.{IsGrowth, IsLogged, has_stamp}
use Rattle.hp_segs.specs.Steps.{segment_of, agreed_segment}
use Rattle.hp_segs.specs.declared.ask.Ask.{Ask}
use Rattle.hp_segs.specs.declared.growth.Growth.{Growth}
use Rattle.hp_segs.specs.declared.row_state.RowState.{RowState}
use Rattle.hp_segs.specs.declared.row_state.RowState.TheVariants.{Opened, Agreed}
use Rattle.hp_segs.specs.declared.row_state.Segment.{Segment}
use Rattle.hp_segs.proofs.SlotFacts.ListFacts.{filter_keeps, map_after, all_kept}
use Rattle.hp_segs.proofs.SlotFacts.ListsLemmas.{line_of_list}
use Rattle.hp_segs.proofs.MachineLemmas.{free_at}
use Rattle.hp_segs.proofs.SlotFacts.PoolCounts.{added_count, run_of_pool}
use Rattle.hp_log.proofs.RowLemmas.{all_rows_below}
use Rattle.hp_segs.proofs.RowTables.StateLemmas.{opened_rows}

map_alike : {X Y : Type 0} (f g : X → Y) (xs : List X) → All (λ x. f x ≡ g x) xs → map f xs ≡ map g xs
map_alike f g [] same = refl
map_alike f g (x ∷ xs) same =
    let here = All-head (λ x. f x ≡ g x) x xs same in
    let rest = map_alike f g xs (All-tail (λ x. f x ≡ g x) x xs same) in
    cc

-- numbers of pools, of which one has n less
less_at : (f g : PoolLine → ℕ) (pools : List PoolLine) (list n : ℕ) (line : PoolLine) → slice_get pools list ≡ Some line → g line ≡ f line - n
    → ((k : ℕ) (d : PoolLine) → k < length pools → (k ≡ list → ⊥) → g (get_or pools k d) ≡ f (get_or pools k d))
    → map g pools ≡ slice_set (map f pools) list (slice_index (map f pools) list - n)
less_at f g [] list n line here own others = cc
less_at f g (first ∷ pools) zero n line here own others =
    let same : first ≡ line = cc in
    let rest : map g pools ≡ map f pools =
    map_alike g f pools (λ k d within. others (suc k) d (omega (arith, within)) (λ is. omega (arith, is))) in
    let head : g first ≡ f first - n = ap g same ∙ (own ∙ ap (λ l. f l - n) (sym same)) in
    cc
less_at f g (first ∷ pools) (suc list) n line here own others =
    let rest = less_at f g pools list n line here own (λ k d within other. others (suc k) d (omega (arith, within)) (λ is. other (omega (arith, is)))) in
    let head : g first ≡ f first = others zero first (omega arith) (λ is. omega (arith, is)) in
    cc

line_at : (pools : List PoolLine) (list : ℕ) (line d : PoolLine) → slice_get pools list ≡ Some line → get_or pools list d ≡ line
line_at [] list line d here = cc
line_at (first ∷ pools) zero line d here = cc
line_at (first ∷ pools) (suc list) line d here = line_at pools list line d here

within_pools : (pools : List PoolLine) (list : ℕ) (line : PoolLine) → slice_get pools list ≡ Some line → list < length pools
within_pools [] list line here = cc
within_pools (first ∷ pools) zero line here = omega arith
within_pools (first ∷ pools) (suc list) line here = omega (arith, within_pools pools list line here)

-- the run of a list is of no pool but the list's
not_of_other : (pools : List PoolLine) (list k : ℕ) (line d : PoolLine) (run : Run) → AllPairs IsOtherPool pools → slice_get pools list ≡ Some line
    → run.socket ≡ line.socket → run.page ≡ line.page → k < length pools → (k ≡ list → ⊥) → run_of_pool (get_or pools k d) run ≡ false
not_of_other pools list k line d run distinct here socket page within other =
    let at : get_or pools list d ≡ line = line_at pools list line d here in
    let inside : list < length pools = within_pools pools list line here in
    false_from_ne_true (run_of_pool (get_or pools k d) run) (λ of.
    let parts = and_parts (run.socket == (get_or pools k d).socket) (run.page == (get_or pools k d).page) of in
    let same_socket : (get_or pools k d).socket ≡ (get_or pools list d).socket =
    sym (eqb-true run.socket (get_or pools k d).socket parts.0) ∙ (socket ∙ ap (λ l. l.socket) (sym at)) in
    let same_page : (get_or pools k d).page ≡ (get_or pools list d).page =
    sym (eqb-true run.page (get_or pools k d).page parts.1) ∙ (page ∙ ap (λ l. l.page) (sym at)) in
    elim (cases_lt k list) [
      | inl below ↦ distinct k list d below inside (same_socket, same_page)
      | inr above ↦ distinct list k d (omega (arith, above, other)) within (sym same_socket, sym same_page)
    ])

-- the free pages of a pool, as the rows of one run come
free_with : (rows : List Row) (run : Run) (generation : ℕ) (line : PoolLine) (of : Bool) → run_of_pool line run ≡ of
    → free_pages (rows ++ rows_of run generation) line ≡ free_pages rows line - cond of run.count 0
free_with rows run generation line of is =
    omega (arith, added_count line rows run generation, ap (λ b. cond {A = ℕ} b run.count 0) is)

closed_state : (opened : Bool) → not opened ≡ true → opened ≡ false
closed_state true settled = cc
closed_state false settled = refl

-- the rows of a growth that is granted
grant_rows : (segs : SegsView) (growth : Growth) → All (λ segment. is_opened segment.state ≡ has_stamp (Some growth) segment.row) segs.segments
    → segs.segments ≡ unopened segs.segments ++ map (segment_of Opened) (rows_of growth.run growth.generation)
    → unopened (map (agreed_segment growth.generation growth.ask.heap) segs.segments)
    ≡ unopened segs.segments ++ map (segment_of (Agreed growth.ask.heap)) (rows_of growth.run growth.generation)
grant_rows segs growth stamped behind =
    let generation : ℕ = growth.generation in
    let settled : Segment → Bool = λ segment. not (is_opened segment.state) in
    let agree : Segment → Segment = agreed_segment generation growth.ask.heap in
    let old : List Segment = unopened segs.segments in
    let fresh : List Row = rows_of growth.run generation in
    let agreed : List Segment = map (segment_of (Agreed growth.ask.heap)) fresh in
    let other : All (λ segment. (segment.row.generation == generation) ≡ false) old =
    all_kept settled (λ segment. is_opened segment.state ≡ has_stamp (Some growth) segment.row) (λ segment. (segment.row.generation == generation) ≡ false)
    (λ segment kept stamp. sym stamp ∙ closed_state (is_opened segment.state) kept) segs.segments stamped in
    let kept : map agree old ≡ old =
    map_fixed agree old (λ k d within. ap (λ b. cond b (segment_of (Agreed growth.ask.heap) (get_or old k d).row) (get_or old k d)) (other k d within)) in
    let changed : map agree (map (segment_of Opened) fresh) ≡ agreed =
    map_after agree (segment_of Opened) (segment_of (Agreed growth.ask.heap)) fresh
    (all_rows_below (λ row. agree (segment_of Opened row) ≡ segment_of (Agreed growth.ask.heap) row) growth.run generation growth.run.count
    (λ k below.
    ap (λ b. cond b (segment_of (Agreed growth.ask.heap) (row_of growth.run generation k)) (segment_of Opened (row_of growth.run generation k)))
    (eq-eqb generation generation refl))) in
    let whole : map agree segs.segments ≡ old ++ agreed =
    ap (map agree) behind ∙ (map-append agree old (map (segment_of Opened) fresh) ∙ (ap (λ xs. xs ++ map agree (map (segment_of Opened) fresh)) kept ∙ ap (λ xs. old ++ xs) changed)) in
    let old_stays : filter settled old ≡ old = filter_keeps settled old (filter_passes settled segs.segments) in
    let new_stays : filter settled agreed ≡ agreed =
    filter_keeps settled agreed
    (All-map (λ segment. settled segment ≡ true) (segment_of (Agreed growth.ask.heap)) fresh
    (all_rows_below (λ row. true ≡ true) growth.run generation growth.run.count (λ k below. refl))) in
    ap unopened whole
    ∙ (filter-append settled old agreed ∙ (ap (λ xs. xs ++ filter settled agreed) old_stays ∙ ap (λ xs. old ++ xs) new_stays))

-- the pages of a growth that is granted
grant_free : (pools : List PoolLine) (segments : List Segment) (state : RowState) (ask : Ask) (run : Run) (generation : ℕ) (first : IsFirstFor pools (rows_in segments) ask run)
    → AllPairs IsOtherPool pools
    → free_beside pools (segments ++ map (segment_of state) (rows_of run generation))
    ≡ slice_set (free_beside pools segments) first.list (slice_index (free_beside pools segments) first.list - run.count)
grant_free pools segments state ask run generation first distinct =
    let has = line_of_list pools first.list first.info first.its_info in
    let socket : run.socket ≡ has.line.socket = ap (λ r. r.socket) first.its_run ∙ has.alike.socket in
    let page : run.page ≡ has.line.page = ap (λ r. r.page) first.its_run ∙ has.alike.page in
    let own : run_of_pool has.line run ≡ true =
    and_from (run.socket == has.line.socket) (run.page == has.line.page) (eq-eqb run.socket has.line.socket socket) (eq-eqb run.page has.line.page page) in
    ap (λ rows. map (free_pages rows) pools) (opened_rows segments state (rows_of run generation))
    ∙ less_at (free_pages (rows_in segments)) (free_pages (rows_in segments ++ rows_of run generation)) pools first.list run.count has.line has.its_line
    (free_with (rows_in segments) run generation has.line true own)
    (λ k d within other.
    free_with (rows_in segments) run generation (get_or pools k d) false
    (not_of_other pools first.list k has.line d run distinct has.its_line socket page within other)
    ∙ omega arith)

pub grant_is_step : GrantIsStep
grant_is_step segs growth sound open_now =
    let logged : IsGrowth segs.pools segs.log segs.segments growth =
    subst (λ g. IsLogged segs.pools segs.log segs.segments g) open_now sound.rows.logged in
    let stamped : All (λ segment. is_opened segment.state ≡ has_stamp (Some growth) segment.row) segs.segments =
    subst (λ g. All (λ segment. is_opened segment.state ≡ has_stamp g segment.row) segs.segments) open_now sound.rows.stamped in
    let first = logged.first in
    let count : growth.run.count ≡ pages_of growth.ask.request growth.ask.page = ap (λ r. r.count) first.its_run in
    let has = line_of_list segs.pools first.list first.info first.its_info in
    let rows = grant_rows segs growth stamped logged.behind in
    record {
      list = first.list;
      info = first.info;
      first = first.first;
      its_list = first.its_list;
      its_info = first.its_info;
      is_first = first.is_first;
      enough =
          let at : slice_index (free_beside segs.pools (unopened segs.segments)) first.list ≡ free_pages (rows_in (unopened segs.segments)) has.line =
          free_at (rows_in (unopened segs.segments)) segs.pools first.list has.line has.its_line in
          let list : growth.run.list ≡ first.list = ap (λ r. r.list) first.its_run in
          let pages : growth.run.count ≤ pages_beside segs.pools (rows_in (unopened segs.segments)) first.list =
          subst (λ l. growth.run.count ≤ pages_beside segs.pools (rows_in (unopened segs.segments)) l) list logged.pages in
          let beside : pages_beside segs.pools (rows_in (unopened segs.segments)) first.list ≡ free_pages (rows_in (unopened segs.segments)) has.line =
          ap (λ o. option_map_or (free_pages (rows_in (unopened segs.segments))) o 0) has.its_line in
          omega (arith, at, count, pages, beside);
      rows =
          rows
          ∙ ap (λ r. unopened segs.segments ++ map (segment_of (Agreed growth.ask.heap)) (rows_of r growth.generation)) first.its_run;
      free =
          ap (free_beside segs.pools) rows
          ∙ (grant_free segs.pools (unopened segs.segments) (Agreed growth.ask.heap) growth.ask growth.run growth.generation first sound.rows.table.limits.distinct
          ∙ ap
          (λ n. slice_set (free_beside segs.pools (unopened segs.segments)) first.list (slice_index (free_beside segs.pools (unopened segs.segments)) first.list - n))
          count);
    }
