-- What is read off a laid out table.
use Rattle.std.proofs.Common.{◌≡◌, ℕ, zero, suc, ◌+◌, ◌^◌, ◌<◌, ◌≤◌, Bool, true, false, if◌then◌else◌, ◌==◌, ◌&&◌, List, [], ◌∷◌, length, get_or, take, Some, refl, ap, ◌∙◌, sym, subst, arith, sum_by}
use Rattle.std.specs.List.{All, slice_get}
use Rattle.std.specs.Option.{option_map, option_map_or, unwrap_or}
use Rattle.std.proofs.lemmas.List.Elements.{All-get_or, All-head, All-tail, All-cons, All-nil}
use Rattle.std.proofs.lemmas.List.Sums.{sum_by-cons, sum_by-le}
use Rattle.hp_base.specs.declared.row.Row.{Row}
use Rattle.hp_base.specs.declared.pool_line.PoolLine.{PoolLine}
use Rattle.hp_pool.specs.Pools.{pool_of, free_pages as free_of}
use Rattle.hp_pool.specs.declared.pool.Pool.{Pool}
use Rattle.hp_segs.specs.Lists.{lists_of, free_pages, pages_beside, slots_beside}
use Rattle.hp_log.specs.Rows.{slots_of}
use Rattle.hp_segs.specs.Table.{IsPlaced}
use Rattle.hp_segs.specs.SegsView.{counted_bytes, is_counted, rows_in}
use Rattle.hp_segs.specs.declared.row_state.Segment.{Segment}
use Rattle.hp_segs.proofs.SlotFacts.PageSizes.{page_small}
use Rattle.hp_segs.proofs.Pigeonhole.{rows_within, slots_of_lists}
use Rattle.hp_segs.proofs.RowTables.StateLemmas.{length_rows_in}
use Rattle.hp_segs.proofs.RowTables.TableUse.{at_place}
use Rattle.hp_segs.specs.TableLayout.{IsLaidOut, IsFitList, pool_beside}
use Rattle.hp_segs.specs.declared.list_info.ListInfo.{ListInfo}
use Rattle.hp_log.specs.declared.log_record.LogRecord.{LogRecord}
use Rattle.hp_segs.proofs.SlotFacts.MaskStepLemmas.{masks_from_at, length_masks_from}

-- a place within a list has an element
pub get_within : {X : Type 0} (xs : List X) (i : ℕ) (d : X) → i < length xs → slice_get xs i ≡ Some (get_or xs i d)
get_within [] i d within = absurd (omega (arith, within))
get_within (x ∷ xs) zero d within = refl
get_within (x ∷ xs) (suc i) d within = get_within xs i d (omega arith)

-- the sum of the first elements is at most that of all
pub sum_take : {X : Type 0} (f : X → ℕ) (xs : List X) (n : ℕ) → sum_by f (take n xs) ≤ sum_by f xs
sum_take f [] zero = omega arith
sum_take f [] (suc n) = omega arith
sum_take f (x ∷ xs) zero = omega arith
sum_take f (x ∷ xs) (suc n) = omega (arith, sum_by-cons f x (take n xs), sum_by-cons f x xs, sum_take f xs n)

bytes_by : (b : Bool) (page : ℕ) → page ≤ 2 ^ 34 → (if b then page else 0) ≤ 2 ^ 34
bytes_by true page small = small
bytes_by false page small = omega arith

small_segments : (lists : List ListInfo) (socket : ℕ) (segments : List Segment) → All IsFitList lists → All (IsPlaced lists) (rows_in segments)
    → All (λ segment. counted_bytes socket segment ≤ 2 ^ 34) segments
small_segments lists socket [] fit placed = All-nil (λ segment. counted_bytes socket segment ≤ 2 ^ 34)
small_segments lists socket (segment ∷ segments) fit placed =
    let here = All-head (IsPlaced lists) segment.row (rows_in segments) placed in
    let list : IsFitList here.info = at_place IsFitList lists segment.row.list here.info fit here.its_list in
    let small : segment.row.page ≤ 2 ^ 34 = omega (arith, here.page, page_small here.info.page list.page) in
    All-cons
    (λ segment. counted_bytes socket segment ≤ 2 ^ 34)
    segment
    segments
    (bytes_by ((segment.row.socket == socket) && is_counted segment.state) segment.row.page small)
    (small_segments lists socket segments fit (All-tail (IsPlaced lists) segment.row (rows_in segments) placed))

module _ {pools : List PoolLine} {lists : List ListInfo} {masks : List (List Bool)} {counts : List Pool} {log : List LogRecord} {rows : List Row}
    (old : IsLaidOut pools lists masks counts log rows) where
  -- the count of a pool line is what the rows leave
  pub count_at : (pool : ℕ) (d : PoolLine) → pool < length pools
      → unwrap_or (free_of counts (get_or pools pool d).socket (get_or pools pool d).page) 0 ≡ pages_beside pools rows pool
  count_at pool d within =
      let line : PoolLine = get_or pools pool d in
      let count : pool_of counts line.socket line.page ≡ Some (pool_beside rows line) =
      All-get_or (λ line. pool_of counts line.socket line.page ≡ Some (pool_beside rows line)) pools pool d within old.its_counts in
      ap (λ o. unwrap_or (option_map (λ pool. pool.free) o) 0) count
      ∙ ap (λ o. option_map_or (free_pages rows) o 0) (sym (get_within pools pool d within))

  -- the masks are as many as the lists
  pub masks_long : length masks ≡ length (lists_of pools)
  masks_long = ap length old.its_masks ∙ (length_masks_from 0 rows lists ∙ ap length old.its_lists)

  -- the mask of a list is its used slots
  pub mask_at : (list : ℕ) (d : List Bool) → list < length (lists_of pools)
      → get_or masks list d ≡ slots_beside pools rows list
  mask_at list d within =
      let none : ListInfo = record { socket = 0; page = 0; base = 0; slots = 0 } in
      let info : ListInfo = get_or (lists_of pools) list none in
      let here : slice_get (lists_of pools) list ≡ Some info = get_within (lists_of pools) list none within in
      let zero_more : 0 + list ≡ list = omega arith in
      ap (λ m. get_or m list d) old.its_masks
      ∙ (masks_from_at 0 rows lists list info d (ap (λ l. slice_get l list) old.its_lists ∙ here)
      ∙ (ap (λ l. slots_of rows l info.slots) zero_more
      ∙ ap (λ o. option_map_or (λ info. slots_of rows list info.slots) o []) (sym here)))

  -- no more segments than slots, each of a page at most
  pub total_fits : (segments : List Segment) (socket : ℕ) → rows_in segments ≡ rows → sum_by (counted_bytes socket) segments ≤ 2 ^ 48
  total_fits segments socket same =
      let few = rows_within (lists_of pools) rows old.table.placed old.table.once in
      let long : length segments ≡ length rows = sym (length_rows_in segments) ∙ ap length same in
      let fit : All IsFitList (lists_of pools) = subst (All IsFitList) old.its_lists old.fit in
      let each : All (λ segment. counted_bytes socket segment ≤ 2 ^ 34) segments =
      small_segments (lists_of pools) socket segments fit (subst (All (IsPlaced (lists_of pools))) (sym same) old.table.placed) in
      let sum = sum_by-le (counted_bytes socket) (2 ^ 34) segments each in
      omega (arith, few, long, slots_of_lists pools, old.table.limits.slots, sum)
