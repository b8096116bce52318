-- How a run of pages comes to the heap of a socket: the rule "Joining" of docs/HEAP.md.
use Rattle.std.specs.Prelude.{◌≡◌, ℕ, ◌+◌, ◌*◌, ◌%◌, ◌^◌, ◌<◌, ◌≤◌, List, [], ◌++◌, map, count_by, IsTrue, IsSome}
use Rattle.std.specs.List.{range_with_len, AllByRecursion}
use Rattle.hp_base.specs.Pages.{is_page_size}
use Rattle.hp_base.specs.declared.span.Span.{Span}
use Rattle.hp_base.specs.declared.row.Run.{Run}
use Rattle.hp_heap.specs.PlainHeap.{PlainHeap, HeapPage, free_range, segments_of}
use Rattle.hp_heap.specs.Tiling.{in_segment}
use Rattle.hp_heap.specs.Joining.{after_insertion}

-- the bytes of a run
abbrev pub run_bytes : Run → ℕ
run_bytes run = run.count * run.page

-- the page at a place of a run
abbrev pub run_page : Run → ℕ → HeapPage
run_page run i = record {
  addr = run.addr + i * run.page;
  page = run.page;
  list = run.list;
  slot = run.first + i;
  socket = run.socket;
}

-- the pages of a run
unfoldable pub run_pages : Run → List HeapPage
run_pages run = map (run_page run) (range_with_len 0 run.count)

-- the bytes of a run as an element
abbrev pub run_range : Run → Span
run_range run = free_range run.addr (run_bytes run) run.list run.page 0

-- the heap after a growth: the run's pages are segments, and its bytes are free
unfoldable pub after_grow : Run → PlainHeap → PlainHeap
after_grow run heap =
    record (after_insertion (run_range run) heap) { pages = heap.pages ++ run_pages run }

-- a page of a run's list came with the size of its pages, its socket and its base: the address less the slots before it
pub record IsAlike (run : Run) (page : HeapPage) : Type 0 where
  pub size : page.page ≡ run.page
  pub socket : page.socket ≡ run.socket
  pub base : page.addr + run.first * run.page ≡ run.addr + page.slot * run.page

-- a run may come to a heap
pub record CanGrow (run : Run) (heap : PlainHeap) : Type 0 where
  -- a heap of a socket takes runs of at least one slot, with pages of a hugepage size
  pub serves : IsSome heap.serves
  pub some : 0 < run.count
  pub size : IsTrue (is_page_size run.page)
  -- each list has pages of one size and socket from one base on
  pub alike : AllByRecursion (λ page. page.list ≡ run.list → IsAlike run page) heap.pages
  -- the pages are aligned, and the numbers are in their limits
  pub aligned : run.addr % run.page ≡ 0
  pub base : run.first * run.page ≤ run.addr
  pub slots : run.first + run.count < 2 ^ 32
  pub end : run.addr + run_bytes run ≤ 2 ^ 63
  -- no byte of the run is in the heap
  pub fresh : (byte : ℕ) → run.addr ≤ byte → byte < run.addr + run_bytes run
      → count_by (in_segment byte) (segments_of heap) ≡ 0

-- the heap of a socket whose pages are those of one run, which may have none
pub record IsGrownTo (run : Run) (heap : PlainHeap) : Type 0 where
  pub serves : IsSome heap.serves
  pub pages : heap.pages ≡ run_pages run
  pub chunks : heap.chunks ≡ []

-- a run begins right behind another, in its list
pub record IsNextRun (run next : Run) : Type 0 where
  pub list : next.list ≡ run.list
  pub page : next.page ≡ run.page
  pub socket : next.socket ≡ run.socket
  pub first : next.first ≡ run.first + run.count
  pub addr : next.addr ≡ run.addr + run_bytes run

-- a run by itself: some pages of a hugepage size, aligned, with its numbers in their limits
pub record IsRun (run : Run) : Type 0 where
  pub some : 0 < run.count
  pub size : IsTrue (is_page_size run.page)
  pub aligned : run.addr % run.page ≡ 0
  pub base : run.first * run.page ≤ run.addr
  pub slots : run.first + run.count < 2 ^ 32
  pub end : run.addr + run_bytes run ≤ 2 ^ 63

-- two runs as one
abbrev pub run_with : Run → Run → Run
run_with run next = record run { count = run.count + next.count }
