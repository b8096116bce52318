-- A run at slots of a list where a heap has no page may come to that heap.
use Rattle.std.proofs.Common.{◌≡◌, ◌⊎◌, ◌∙◌, ℕ, ◌+◌, ◌*◌, ◌/◌, ◌%◌, ◌<◌, ◌≤◌, false, List, [], ◌++◌, map, get_or, Some, IsTrue, IsSome, ap, sym, subst, count_by, append-nil, inl, inr, arith}
use Rattle.std.specs.Prelude.{Contains, slice_get}
use Rattle.std.specs.List.{All}
use Rattle.std.proofs.Math.Nat.{add-mul, mul-mod_left, mul-le-mul_right}
use Rattle.std.proofs.lemmas.Bool.{cases_lt}
use Rattle.std.proofs.lemmas.Grind.{common_steps}
use Rattle.std.proofs.lemmas.List.Elements.{All-contains_itself, All-map, recursion_from_All}
use Rattle.hp_base.specs.PoolLines.{ArePoolLines}
use Rattle.hp_base.specs.Pages.{is_page_size}
use Rattle.hp_base.specs.declared.pool_line.PoolLine.{PoolLine}
use Rattle.hp_base.specs.declared.row.Run.{Run}
use Rattle.hp_base.proofs.Rounding.{multiple_is}
use Rattle.hp_heap.specs.Growing.{CanGrow, IsAlike, run_bytes}
use Rattle.hp_heap.specs.PlainHeap.{HeapPage, PlainHeap, chunk_extent, is_within, page_extent}
use Rattle.hp_heap.specs.Tiling.{in_segment}
use Rattle.hp_log.proofs.Counts.{count_none}
use Rattle.hp_segs.specs.Lists.{end_of, lists_of}
use Rattle.hp_segs.specs.Table.{IsListRun}
use Rattle.hp_segs.specs.TableLayout.{IsFitList}
use Rattle.hp_segs.specs.declared.list_info.ListInfo.{ListInfo}
use Rattle.hp_segs.proofs.SlotFacts.ListsApart.{list_aligned, list_fits, lists_apart}

-- a page is a slot of its list, at that slot's place, and not one of the run's slots
pub record LiesBeside (pools : List PoolLine) (run : Run) (page : HeapPage) : Type 0 where
  pub info : ListInfo
  pub its_list : slice_get (lists_of pools) page.list ≡ Some info
  pub within : page.slot < info.slots
  pub addr : page.addr ≡ info.base + page.slot * info.page
  pub size : page.page ≡ info.page
  pub socket : page.socket ≡ info.socket
  pub outside : page.list ≡ run.list → (page.slot < run.first) ⊎ (run.first + run.count ≤ page.slot)

-- the page at a slot ends at or below the begin of each later one
slot_before : (base page slot later : ℕ) → slot < later → base + slot * page + page ≤ base + later * page
slot_before base page slot later before =
    let most : (slot + 1) * page ≤ later * page = mul-le-mul_right page (omega (arith, before)) in
    omega (arith, most, add-mul slot 1 page)

-- a byte below a stretch, or at or behind its end, is not in it
not_below : (start len byte : ℕ) → byte < start → is_within start len byte ≡ false
not_below start len byte below = grind (arith, common_steps, below)

not_behind : (start len byte : ℕ) → start + len ≤ byte → is_within start len byte ≡ false
not_behind start len byte behind = grind (arith, common_steps, behind)

module _ (pools : List PoolLine) (run : Run) (limits : ArePoolLines pools) (lies : IsListRun (lists_of pools) run) where
  run_page : run.page ≡ lies.info.page
  run_page = ap (λ (run : Run). run.page) lies.is_run

  run_addr : run.addr ≡ lies.info.base + run.first * lies.info.page
  run_addr = ap (λ (run : Run). run.addr) lies.is_run

  run_socket : run.socket ≡ lies.info.socket
  run_socket = ap (λ (run : Run). run.socket) lies.is_run

  -- the bytes of the run end where its slots end
  run_ends : run.addr + run_bytes run ≡ lies.info.base + (run.first + run.count) * lies.info.page
  run_ends =
      let bytes : run.count * run.page ≡ run.count * lies.info.page = ap (λ p. run.count * p) run_page in
      omega (arith, bytes, run_addr, add-mul run.first run.count lies.info.page)

  run_in_list : run.addr + run_bytes run ≤ end_of lies.info
  run_in_list =
      let most : (run.first + run.count) * lies.info.page ≤ lies.info.slots * lies.info.page =
      mul-le-mul_right lies.info.page lies.within in
      omega (arith, run_ends, most)

  module _ (page : HeapPage) (beside : LiesBeside pools run page) where
    -- a page of the run's list was taken from the same list
    same_list : page.list ≡ run.list → beside.info ≡ lies.info
    same_list same =
        let here : slice_get (lists_of pools) page.list ≡ slice_get (lists_of pools) run.list = ap (slice_get (lists_of pools)) same in
        let one : Some beside.info ≡ Some lies.info = sym beside.its_list ∙ (here ∙ lies.its_list) in
        cc

    same_addr : page.list ≡ run.list → page.addr ≡ lies.info.base + page.slot * lies.info.page
    same_addr same = beside.addr ∙ ap (λ (i : ListInfo). i.base + page.slot * i.page) (same_list same)

    same_size : page.list ≡ run.list → page.page ≡ lies.info.page
    same_size same = beside.size ∙ ap (λ (i : ListInfo). i.page) (same_list same)

    is_alike : page.list ≡ run.list → IsAlike run page
    is_alike same =
        let first_bytes : run.first * run.page ≡ run.first * lies.info.page = ap (λ p. run.first * p) run_page in
        let slot_bytes : page.slot * run.page ≡ page.slot * lies.info.page = ap (λ p. page.slot * p) run_page in
        record {
          size = same_size same ∙ sym run_page;
          socket = beside.socket ∙ (ap (λ (i : ListInfo). i.socket) (same_list same) ∙ sym run_socket);
          base = omega (arith, same_addr same, run_addr, first_bytes, slot_bytes);
        }

    module _ (byte : ℕ) (from : run.addr ≤ byte) (to : byte < run.addr + run_bytes run) where
      -- no byte of the run is in the page: where that is of the run's list, it is at another slot
      apart_on_list : page.list ≡ run.list → in_segment byte (page_extent page) ≡ false
      apart_on_list same =
          let addr = same_addr same in
          let size = same_size same in
          elim (beside.outside same) [
            | inl before ↦ not_behind page.addr page.page byte
                (omega (arith, addr, size, slot_before lies.info.base lies.info.page page.slot run.first before, run_addr, from))
            | inr behind ↦
                let most : (run.first + run.count) * lies.info.page ≤ page.slot * lies.info.page = mul-le-mul_right lies.info.page behind in
                not_below page.addr page.page byte (omega (arith, addr, most, run_ends, to))
          ]

      -- and where it is of another list, that lies apart
      apart_from_run : in_segment byte (page_extent page) ≡ false
      apart_from_run = elim (cases_lt page.list run.list) [
        | inl earlier ↦
            let apart = lists_apart pools page.list run.list beside.info lies.info limits earlier beside.its_list lies.its_list in
            let ends = slot_before beside.info.base beside.info.page page.slot beside.info.slots beside.within in
            not_behind page.addr page.page byte (omega (arith, beside.addr, beside.size, ends, apart, run_addr, from))
        | inr not_earlier ↦ elim (cases_lt run.list page.list) [
          | inl later ↦
              let apart = lists_apart pools run.list page.list lies.info beside.info limits later lies.its_list beside.its_list in
              not_below page.addr page.page byte (omega (arith, beside.addr, apart, run_in_list, to))
          | inr not_later ↦ apart_on_list (omega (arith, not_earlier, not_later))
        ]
      ]

  is_aligned : run.addr % run.page ≡ 0
  is_aligned =
      let info : ListInfo = lies.info in
      let whole = multiple_is info.base info.page (list_aligned pools run.list info lies.its_list) in
      let place : (info.base / info.page + run.first) * info.page ≡ run.addr =
      omega (arith, whole, run_addr, add-mul (info.base / info.page) run.first info.page) in
      subst (λ (page : ℕ). run.addr % page ≡ 0) (sym run_page)
      (subst (λ (addr : ℕ). addr % info.page ≡ 0) place (mul-mod_left (info.base / info.page + run.first) info.page))

  -- the run may come to a heap whose pages lie beside it
  pub beside_can_grow : (heap : PlainHeap) → IsSome heap.serves → heap.chunks ≡ []
      → ((page : HeapPage) → Contains heap.pages page → LiesBeside pools run page) → CanGrow run heap
  beside_can_grow heap serves no_chunks beside =
      let fit : IsFitList lies.info = list_fits pools run.list lies.info limits lies.its_list in
      let first_bytes : run.first * run.page ≡ run.first * lies.info.page = ap (λ p. run.first * p) run_page in
      let each : All (LiesBeside pools run) heap.pages =
      λ k d within. beside (get_or heap.pages k d) (All-contains_itself heap.pages k d within) in
      record {
        serves = serves;
        some = lies.some;
        size = subst (λ p. IsTrue (is_page_size p)) (sym run_page) fit.page;
        alike =
            recursion_from_All (λ page. page.list ≡ run.list → IsAlike run page) heap.pages
            (λ k d within. is_alike (get_or heap.pages k d) (each k d within));
        aligned = is_aligned;
        base = omega (arith, run_addr, first_bytes);
        slots = omega (arith, lies.within, fit.slots);
        end = omega (arith, run_in_list, fit.below);
        fresh = λ byte from to.
            ap (λ chunks. count_by (in_segment byte) (map page_extent heap.pages ++ map chunk_extent chunks)) no_chunks
            ∙ (ap (count_by (in_segment byte)) (append-nil (map page_extent heap.pages))
            ∙ count_none (in_segment byte) (map page_extent heap.pages)
            (All-map (λ segment. in_segment byte segment ≡ false) page_extent heap.pages
            (λ k d within. apart_from_run (get_or heap.pages k d) (each k d within) byte from to)));
      }
