-- Heaps that grow run after run: each next run may come.
use Rattle.std.proofs.Common.{◌≡◌, ℕ, zero, suc, ◌+◌, ◌*◌, ◌≤◌, cond, [], ◌∷◌, ◌++◌, map, refl, sym, ap, subst, ◌∙◌, arith, count_by, Option, Some, IsSome}
use Rattle.std.proofs.lemmas.Bool.Decides.{nat_tests}
use Rattle.std.specs.List.{AllByRecursion, range_with_len}
use Rattle.hp_base.specs.declared.row.Run.{Run}
use Rattle.hp_base.specs.declared.tag.Tag.{Tag}
use Rattle.hp_base.specs.declared.request.Request.{Request}
use Rattle.hp_heap.specs.PlainHeap.{PlainHeap, HeapPage, opening_heap, segments_of, page_extent, chunk_extent, is_within}
use Rattle.hp_heap.specs.Tiling.{in_segment}
use Rattle.hp_heap.specs.Choice.{chosen}
use Rattle.hp_heap.specs.Joining.{after_insertion}
use Rattle.hp_heap.specs.Placing.{after_alloc}
use Rattle.hp_heap.specs.Growing.{run_bytes, run_page, run_pages, after_grow, IsAlike, CanGrow, IsGrownTo, IsNextRun, IsRun, run_with}
use Rattle.hp_heap.proofs.HistoryFacts.Counting.{count_by-append, count_pages}
use Rattle.hp_heap.proofs.AllocFacts.AllocKept.{after_alloc-kept}

-- the pages of a run are of its size, socket and base
alike_from : (run next : Run) (i n : ℕ) → next.page ≡ run.page → next.socket ≡ run.socket → next.addr + run.first * run.page ≡ run.addr + next.first * run.page
    → AllByRecursion (λ page. page.list ≡ next.list → IsAlike next page) (map (run_page run) (range_with_len i n))
alike_from run next i zero page socket base = tt
alike_from run next i (suc n) page socket base = (λ _. record { size = sym page; socket = sym socket; base = base_of }, alike_from run next (i + 1) n page socket base)
  where
    base_of : run.addr + i * run.page + next.first * next.page ≡ next.addr + (run.first + i) * next.page
    base_of = subst (λ (p : ℕ). run.addr + i * run.page + next.first * p ≡ next.addr + (run.first + i) * p) (sym page) (omega arith)

pages_alike : (run next : Run) → IsNextRun run next → AllByRecursion (λ (page : HeapPage). page.list ≡ next.list → IsAlike next page) (run_pages run)
unfolding run_pages
pages_alike run next behind = alike_from run next 0 run.count behind.page behind.socket
    (omega (arith, behind.addr, ap (λ (n : ℕ). n * run.page) behind.first))

-- no byte above the pages of a heap is in it
outside : (start len byte : ℕ) → start + len ≤ byte → cond {A = ℕ} (is_within start len byte) 1 0 ≡ 0
outside start len byte above = grind (arith, nat_tests)

fresh_above : (heap : PlainHeap) (run : Run) → IsGrownTo run heap → (byte : ℕ) → run.addr + run_bytes run ≤ byte → count_by (in_segment byte) (segments_of heap) ≡ 0
fresh_above heap run grown byte above = omega (
  arith,
  ap (λ pages. count_by (in_segment byte) (map page_extent pages ++ map chunk_extent heap.chunks)) grown.pages,
  ap (λ chunks. count_by (in_segment byte) (map page_extent (run_pages run) ++ map chunk_extent chunks)) grown.chunks,
  count_by-append (in_segment byte) (map page_extent (run_pages run)) [],
  count_pages run byte,
  outside run.addr (run_bytes run) byte above,
)

-- a run above the pages of a heap may come, where it is like those of its list
can_grow_above : (heap : PlainHeap) (run next : Run) → IsGrownTo run heap → run.addr + run_bytes run ≤ next.addr → AllByRecursion (λ (page : HeapPage). page.list ≡ next.list → IsAlike next page) (run_pages run)
    → IsRun next → CanGrow next heap
can_grow_above heap run next grown above alike is = record {
  serves = grown.serves;
  some = is.some;
  size = is.size;
  aligned = is.aligned;
  base = is.base;
  slots = is.slots;
  end = is.end;
  alike = subst (λ pages. AllByRecursion (λ (page : HeapPage). page.list ≡ next.list → IsAlike next page) pages) (sym grown.pages) alike;
  fresh = λ byte from to. fresh_above heap run grown byte (omega (arith, above, from));
}

-- one right behind them may
pub next_can_grow : (heap : PlainHeap) (run next : Run) → IsGrownTo run heap → IsNextRun run next → IsRun next → CanGrow next heap
next_can_grow heap run next grown behind is = can_grow_above heap run next grown (omega (arith, behind.addr)) (pages_alike run next behind) is

-- and one of another list
other_from : (run next : Run) (i n : ℕ) → (run.list ≡ next.list → ⊥) → AllByRecursion (λ page. page.list ≡ next.list → IsAlike next page) (map (run_page run) (range_with_len i n))
other_from run next i zero other = tt
other_from run next i (suc n) other = (λ same. absurd (other same), other_from run next (i + 1) n other)

pub other_can_grow : (heap : PlainHeap) (run next : Run) → IsGrownTo run heap → run.addr + run_bytes run ≤ next.addr → (run.list ≡ next.list → ⊥) → IsRun next → CanGrow next heap
unfolding run_pages
other_can_grow heap run next grown above other is = can_grow_above heap run next grown above (other_from run next 0 run.count other) is

-- pages in a row are those of two rows
pages_in_row : (run : Run) (i n m : ℕ) → map (run_page run) (range_with_len i n) ++ map (run_page run) (range_with_len (i + n) m) ≡ map (run_page run) (range_with_len i (n + m))
pages_in_row run i zero m =
    ap (λ (j : ℕ). map (run_page run) (range_with_len j m)) (let same : i + 0 ≡ i = omega arith in same) ∙ ap (λ (k : ℕ). map (run_page run) (range_with_len i k)) (let same : m ≡ 0 + m = omega arith in same)
pages_in_row run i (suc n) m =
    ap (λ (j : ℕ). run_page run i ∷ (map (run_page run) (range_with_len (i + 1) n) ++ map (run_page run) (range_with_len j m))) (let same : i + suc n ≡ i + 1 + n = omega arith in same)
    ∙ ap (λ zs. run_page run i ∷ zs) (pages_in_row run (i + 1) n m)
    ∙ ap (λ (k : ℕ). map (run_page run) (range_with_len i k)) (let same : suc (n + m) ≡ suc n + m = omega arith in same)

abbrev page_with : ℕ → ℕ → ℕ → ℕ → ℕ → HeapPage
page_with addr page list slot socket = record { addr = addr; page = page; list = list; slot = slot; socket = socket }

pub same_page : (a a' p p' l l' s s' k k' : ℕ) → a ≡ a' → p ≡ p' → l ≡ l' → s ≡ s' → k ≡ k' → page_with a p l s k ≡ page_with a' p' l' s' k'
same_page a a' p p' l l' s s' k k' addr page list slot socket =
    ap (λ (x : ℕ). page_with x p l s k) addr ∙ ap (λ (x : ℕ). page_with a' x l s k) page ∙ ap (λ (x : ℕ). page_with a' p' x s k) list
    ∙ ap (λ (x : ℕ). page_with a' p' l' x k) slot ∙ ap (λ (x : ℕ). page_with a' p' l' s' x) socket

-- the pages of the next run are later pages of the one before it
next_page : (run next : Run) (k : ℕ) → IsNextRun run next → run_page next k ≡ run_page run (run.count + k)
next_page run next k behind = same_page (next.addr + k * next.page) (run.addr + (run.count + k) * run.page) next.page run.page next.list run.list (next.first + k) (run.first + (run.count + k)) next.socket run.socket addr behind.page behind.list slot behind.socket
  where
    addr : next.addr + k * next.page ≡ run.addr + (run.count + k) * run.page
    addr = subst (λ (p : ℕ). next.addr + k * p ≡ run.addr + (run.count + k) * run.page) (sym behind.page) (omega (arith, behind.addr))

    slot : next.first + k ≡ run.first + (run.count + k)
    slot = omega (arith, behind.first)

next_pages : (run next : Run) (j m : ℕ) → IsNextRun run next → map (run_page next) (range_with_len j m) ≡ map (run_page run) (range_with_len (run.count + j) m)
next_pages run next j zero behind = refl
next_pages run next j (suc m) behind =
    ap (λ page. page ∷ map (run_page next) (range_with_len (j + 1) m)) (next_page run next j behind)
    ∙ ap (λ zs. run_page run (run.count + j) ∷ zs) (next_pages run next (j + 1) m behind ∙ ap (λ (i : ℕ). map (run_page run) (range_with_len i m)) (let same : run.count + (j + 1) ≡ run.count + j + 1 = omega arith in same))

-- the pages of two runs, one after the other, are those of both as one
pages_with : (run next : Run) → IsNextRun run next → run_pages run ++ run_pages next ≡ run_pages (run_with run next)
unfolding run_pages
pages_with run next behind =
    ap (λ zs. map (run_page run) (range_with_len 0 run.count) ++ zs) (next_pages run next 0 next.count behind ∙ ap (λ (i : ℕ). map (run_page run) (range_with_len i next.count)) (let same : run.count + 0 ≡ 0 + run.count = omega arith in same))
    ∙ pages_in_row run 0 run.count next.count

-- the heap that a run right behind its pages leaves
pub grown_next : (heap : PlainHeap) (run next : Run) → IsGrownTo run heap → IsNextRun run next → IsGrownTo (run_with run next) (after_grow next heap)
unfolding after_grow after_insertion
grown_next heap run next grown behind = record { serves = grown.serves; pages = ap (λ pages. pages ++ run_pages next) grown.pages ∙ pages_with run next behind; chunks = grown.chunks }

-- an allocation leaves the pages
pub grown_alloc : (heap : PlainHeap) (run : Run) (participant : ℕ) (request : Request) (tag : Tag) → IsGrownTo run heap → IsGrownTo run (after_alloc participant request tag heap)
unfolding after_alloc
grown_alloc heap run participant request tag grown =
    let kept = after_alloc-kept heap request tag (chosen participant request heap) in
    record { serves = subst (λ (o : Option ℕ). IsSome o) (sym kept.serves) grown.serves; pages = kept.pages ∙ grown.pages; chunks = kept.chunks ∙ grown.chunks }

-- the heap of a socket opens with the pages of a run without pages
pub grown_opening : (index socket : ℕ) (run : Run) → run.count ≡ 0 → IsGrownTo run (opening_heap index (Some socket))
unfolding run_pages
grown_opening index socket run none = record { serves = refl; pages = ap (λ (n : ℕ). map (run_page run) (range_with_len 0 n)) (sym none); chunks = refl }
