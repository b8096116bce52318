-- When a table may attach a chunk: the participant has it attached, or no row begins in its memory.
use Rattle.std.proofs.Common.{◌≡◌, ℕ, ◌+◌, ◌*◌, ◌/◌, ◌^◌, ◌<◌, ◌≤◌, Bool, true, false, not, ◌&&◌, List, length, Some, refl, sym, ap, subst, ◌∙◌, arith, eqb, eq-eqb, leb, ltb, mul_comm}
use Rattle.std.specs.List.{AllByRecursion, list_any}
use Rattle.std.proofs.Math.Nat.{div-mul-le_self, mul-le-mul_left}
use Rattle.std.proofs.lemmas.Bool.{and_from, eqb-true, false_from_ne_true, le-leb, lt-ltb}
use Rattle.std.proofs.lemmas.List.Folds.{list_any_none}
use Rattle.hp_base.specs.ExternalMemory.{IsExternalMemory}
use Rattle.hp_base.specs.Flags.{has_bit}
use Rattle.hp_base.specs.Mapping.{has_addr}
use Rattle.hp_base.specs.declared.chunk.Chunk.{Chunk}
use Rattle.hp_base.specs.declared.row.Row.{Row}
use Rattle.hp_heap.specs.Chunks.{chunk_at, is_chunk_at}
use Rattle.hp_heap.specs.PlainHeap.{PlainHeap}
use Rattle.hp_heap.specs.Tiling.{IsTiled}
use Rattle.hp_heap.proofs.Members.{AllByRecursion-each}
use Rattle.hp_heap.proofs.AllocFacts.ChoiceLaw.{AllByRecursion-contains}
use Rattle.hp_log.proofs.RowLemmas.{all_rows_below}
use Rattle.hp_maps.specs.Chunks.{rows_of_chunk, run_of_chunk}
use Rattle.hp_maps.specs.MapsView.{AreClearOf, MapsView, calls_of}
use Rattle.hp_segs.proofs.SlotFacts.PlaceLemmas.{slot_behind}
use Rattle.hp_external.specs.Attaching.{HasRoomFor, MayAttach}
use Rattle.hp_external.proofs.ChunkLemmas.{among_chunks, its_addr, its_len, its_memory}
use Rattle.hp_external.proofs.ListLemmas.{all_of_each, any_there, each_fails}
use Rattle.test_maps.specs.World.{is_in, is_unmarked_at}

-- where no chunk without its mark has that address and length, it has the chunk attached
pub may_attach_marked : (participant addr len : ℕ) (heap : PlainHeap) (maps : MapsView)
    → list_any (is_unmarked_at participant addr len) heap.chunks ≡ false → MayAttach participant addr len heap maps
may_attach_marked participant addr len heap maps none chunk there unmarked =
    let has = among_chunks heap addr len chunk there in
    let at : is_chunk_at addr len chunk ≡ true =
    and_from _ _ (eq-eqb chunk.addr addr (its_addr heap addr len chunk there)) (eq-eqb chunk.len len (its_len heap addr len chunk there)) in
    let wrong : true ≡ false =
    sym (any_there (is_unmarked_at participant addr len) heap.chunks chunk has (and_from _ _ at (ap not unmarked))) ∙ none in
    cc

-- pages of at least 4,096 bytes
few_pages : (len page : ℕ) → 4096 ≤ page → len ≤ 4194304 → len / page ≤ 1024
few_pages len page least most =
    let whole = div-mul-le_self len page in
    let lower = mul-le-mul_left (len / page) least in
    omega (arith, whole, lower, most)

-- no row has the address of a row of a chunk where none begins in its memory
clear_of_away : (chunk : Chunk) (rows : List Row) → IsExternalMemory chunk.addr chunk.len chunk.page
    → list_any (is_in chunk.addr (chunk.addr + chunk.len)) rows ≡ false → AreClearOf rows (rows_of_chunk chunk)
clear_of_away chunk rows memory away =
    all_rows_below (λ row. list_any (has_addr row.addr) rows ≡ false) (run_of_chunk chunk) 0 (chunk.len / chunk.page)
    (λ k below.
    (let whole : chunk.len / chunk.page * chunk.page ≡ chunk.len =
    omega (arith, memory.least, memory.whole, mul_comm (chunk.len / chunk.page) chunk.page) in
    let end = slot_behind k (chunk.len / chunk.page) chunk.page below in
    list_any_none (has_addr (chunk.addr + k * chunk.page)) rows
    (all_of_each (λ (row : Row). has_addr (chunk.addr + k * chunk.page) row ≡ false) rows
    (λ row there. false_from_ne_true (has_addr (chunk.addr + k * chunk.page) row)
    (λ same.
    (let is : row.addr ≡ chunk.addr + k * chunk.page = eqb-true row.addr (chunk.addr + k * chunk.page) same in
    let inside : is_in chunk.addr (chunk.addr + chunk.len) row ≡ true =
    and_from _ _ (le-leb chunk.addr row.addr (omega (arith, is)))
    (lt-ltb row.addr (chunk.addr + chunk.len) (omega (arith, is, end, whole, memory.least))) in
    let wrong : true ≡ false = sym inside
    ∙ AllByRecursion-contains (λ (r : Row). is_in chunk.addr (chunk.addr + chunk.len) r ≡ false) rows row
    (each_fails (is_in chunk.addr (chunk.addr + chunk.len)) rows away) there in
    cc))))))

-- where no row begins in its memory, there is room for it
pub may_attach_clear : (participant addr len : ℕ) (heap : PlainHeap) (maps : MapsView) → IsTiled heap → maps.capacity ≡ 2048
    → calls_of maps ≤ 2 ^ 63 → length maps.rows ≤ 1024 → len ≤ 4194304 → list_any (is_in addr (addr + len)) maps.rows ≡ false
    → MayAttach participant addr len heap maps
may_attach_clear participant addr len heap maps tiled capacity calls rows few away chunk there unmarked =
    let memory = its_memory heap tiled chunk (among_chunks heap addr len chunk there) in
    let pages = few_pages chunk.len chunk.page memory.least (omega (arith, its_len heap addr len chunk there, few)) in
    let same : list_any (is_in chunk.addr (chunk.addr + chunk.len)) maps.rows ≡ false =
    subst (λ (a : ℕ). list_any (is_in a (a + chunk.len)) maps.rows ≡ false) (sym (its_addr heap addr len chunk there))
    (subst (λ (l : ℕ). list_any (is_in addr (addr + l)) maps.rows ≡ false) (sym (its_len heap addr len chunk there)) away) in
    record {
      pages = omega (arith, pages);
      clear = clear_of_away chunk maps.rows memory same;
      room = omega (arith, pages, rows, capacity);
      calls = calls;
    }
