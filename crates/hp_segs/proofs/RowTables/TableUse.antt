-- What a laid out table gives to a run of its lists.
use Rattle.std.proofs.Common.{◌≡◌, ℕ, zero, suc, ◌+◌, ◌*◌, ◌^◌, ◌<◌, ◌≤◌, Bool, List, [], ◌∷◌, length, get_or, Some, IsSomeAnd, ap, ◌∙◌, sym, subst, arith, count_by}
use Rattle.std.proofs.Math.Nat.{add-mul, mul-le-mul_right}
use Rattle.std.specs.List.{All, slice_get}
use Rattle.std.specs.Option.{option_map_or}
use Rattle.std.proofs.lemmas.Option.{slice_get_within}
use Rattle.std.proofs.lemmas.List.Elements.{All-head, All-tail, All-weaker}
use Rattle.std.proofs.lemmas.List.FromFn.{length-map-range_with_len}
use Rattle.std.specs.List.{list_any}
use Rattle.hp_base.specs.declared.row.Row.{Row}
use Rattle.hp_base.specs.declared.row.Run.{Run}
use Rattle.hp_base.specs.declared.pool_line.PoolLine.{PoolLine}
use Rattle.hp_pool.specs.Pools.{pool_of, free_pages as free_of, HasOut}
use Rattle.hp_pool.specs.declared.pool.Pool.{Pool}
use Rattle.hp_segs.specs.Lists.{lists_of, is_of_pool, free_pages, pages_beside}
use Rattle.hp_log.specs.Rows.{at_slot, IsUsedRun}
use Rattle.hp_log.specs.Log.{run_in}
use Rattle.hp_segs.specs.Table.{IsListRun, HasPages}
use Rattle.hp_segs.specs.TableLayout.{IsLaidOut, IsFitList, pool_beside}
use Rattle.hp_log.specs.Rows.{IsSmallRun}
use Rattle.hp_segs.specs.declared.list_info.ListInfo.{ListInfo}
use Rattle.hp_log.specs.declared.log_record.LogRecord.{LogRecord}
use Rattle.hp_segs.proofs.SlotFacts.ListsLemmas.{line_of_list, HasLine}
use Rattle.hp_segs.proofs.SlotFacts.MaskStepLemmas.{masks_from_at, length_masks_from}
use Rattle.hp_segs.proofs.RetiredRuns.RemoveLemmas.{has_out}

-- what holds of all holds of the one at a place
pub at_place : {X : Type 0} (P : X → Type 0) (xs : List X) (i : ℕ) (x : X) → All P xs → slice_get xs i ≡ Some x → P x
at_place P [] i x all here = cc
at_place P (y ∷ xs) zero x all here =
    let same : y ≡ x = cc in
    subst P same (All-head P y xs all)
at_place P (y ∷ xs) (suc i) x all here = at_place P xs i x (All-tail P y xs all) here

-- the numbers of a list's run are within their types, and its places within the list's mask
pub record RunFits (masks : List (List Bool)) (run : Run) : Type 0 where
  pub list : run.list < length masks
  pub within : run.first + run.count ≤ length (get_or masks run.list [])
  pub slots : run.first + run.count < 2 ^ 32
  pub addr : run.addr + run.count * run.page < 2 ^ 64

-- the pool of a list's run
pub record RunPool (pools : List PoolLine) (counts : List Pool) (rows : List Row) (run : Run) : Type 0 where
  pub line : PoolLine
  pub its_line : slice_get pools run.list ≡ Some line
  pub socket : line.socket ≡ run.socket
  pub page : line.page ≡ run.page
  pub its_pool : pool_of counts line.socket line.page ≡ Some (pool_beside rows line)
  pub fits : count_by (is_of_pool line) rows ≤ line.pages

module _ {pools : List PoolLine} {lists : List ListInfo} {masks : List (List Bool)} {counts : List Pool} {log : List LogRecord} {rows : List Row}
    (old : IsLaidOut pools lists masks counts log rows) (run : Run) (listed : IsListRun (lists_of pools) run) where
  here : slice_get lists run.list ≡ Some listed.info
  here = ap (λ l. slice_get l run.list) old.its_lists ∙ listed.its_list

  pub run_fits : RunFits masks run
  run_fits =
      let long : length masks ≡ length lists = ap length old.its_masks ∙ length_masks_from 0 rows lists in
      let inside = slice_get_within lists run.list listed.info here in
      let fit : IsFitList listed.info = at_place IsFitList lists run.list listed.info old.fit here in
      let mask : length (get_or masks run.list []) ≡ listed.info.slots =
      ap (λ m. length (get_or m run.list [])) old.its_masks
      ∙ (ap length (masks_from_at 0 rows lists run.list listed.info [] here)
      ∙ length-map-range_with_len (λ slot. list_any (at_slot (0 + run.list) slot) rows) 0 listed.info.slots) in
      let base : run.addr ≡ listed.info.base + run.first * listed.info.page = ap (λ r. r.addr) listed.is_run in
      let bytes : run.count * run.page ≡ run.count * listed.info.page = ap (λ r. run.count * r.page) listed.is_run in
      let whole = add-mul run.first run.count listed.info.page in
      let most : (run.first + run.count) * listed.info.page ≤ listed.info.slots * listed.info.page =
      mul-le-mul_right listed.info.page listed.within in
      record {
        list = omega (arith, long, inside);
        within = omega (arith, mask, listed.within);
        slots = omega (arith, listed.within, fit.slots);
        addr = omega (arith, base, bytes, whole, most, fit.below);
      }

  pub run_pool : RunPool pools counts rows run
  run_pool =
      let found : HasLine pools run.list listed.info = line_of_list pools run.list listed.info listed.its_list in
      let socket : run.socket ≡ listed.info.socket = ap (λ r. r.socket) listed.is_run in
      let page : run.page ≡ listed.info.page = ap (λ r. r.page) listed.is_run in
      record {
        line = found.line;
        its_line = found.its_line;
        socket = sym (socket ∙ found.alike.socket);
        page = sym (page ∙ found.alike.page);
        its_pool =
            at_place
            (λ line. pool_of counts line.socket line.page ≡ Some (pool_beside rows line))
            pools
            run.list
            found.line
            old.its_counts
            found.its_line;
        fits = at_place (λ line. count_by (is_of_pool line) rows ≤ line.pages) pools run.list found.line old.table.paged found.its_line;
      }

  pub pool_of_run : pool_of counts run.socket run.page ≡ Some (pool_beside rows run_pool.line)
  pool_of_run =
      ap (λ s. pool_of counts s run.page) (sym run_pool.socket)
      ∙ (ap (λ p. pool_of counts run_pool.line.socket p) (sym run_pool.page) ∙ run_pool.its_pool)

  pub enough_pages : HasPages pools rows run → IsSomeAnd (free_of counts run.socket run.page) (λ have. run.count ≤ have)
  enough_pages pages =
      let left : pages_beside pools rows run.list ≡ free_pages rows run_pool.line =
      ap (λ o. option_map_or (free_pages rows) o 0) run_pool.its_line in
      rw pool_of_run (omega (arith, left, pages))

  pub pages_out : IsUsedRun rows run → HasOut counts run.socket run.page run.count
  pages_out used =
      has_out pools counts rows run run_pool.line listed used old.table.placed run_pool.socket run_pool.page run_pool.its_pool run_pool.fits

-- each run of the log is small
pub small_runs : {pools : List PoolLine} {lists : List ListInfo} {masks : List (List Bool)} {counts : List Pool} {log : List LogRecord} {rows : List Row}
    → IsLaidOut pools lists masks counts log rows → All (λ entry. IsSmallRun (run_in entry)) log
small_runs {pools} {log = log} old =
    All-weaker
    (λ entry. IsListRun (lists_of pools) (run_in entry))
    (λ entry. IsSmallRun (run_in entry))
    (λ entry listed.
    let fits = run_fits old (run_in entry) listed in
    record { slots = fits.slots; addr = fits.addr })
    log
    old.table.listed
