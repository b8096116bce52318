-- How the segments of a heap are laid out: the rule "Segments" of docs/HEAP.md.
use Rattle.std.specs.Prelude.{◌≡◌, ℕ, ◌+◌, ◌*◌, ◌%◌, ◌^◌, ◌<◌, ◌≤◌, ◌==◌, List, Contains, count_by, IsTrue}
use Rattle.std.specs.List.{AllByRecursion}
use Rattle.hp_base.specs.Pages.{is_page_size}
use Rattle.hp_base.specs.ExternalMemory.{IsExternalMemory}
use Rattle.hp_base.specs.declared.chunk.Chunk.{Chunk}
use Rattle.hp_heap.specs.PlainHeap.{HeapPage}

-- a page by itself: of a hugepage size, at a multiple of it, with its numbers in their limits
pub record IsPage (page : HeapPage) : Type 0 where
  pub size : IsTrue (is_page_size page.page)
  pub aligned : page.addr % page.page ≡ 0
  pub base : page.slot * page.page ≤ page.addr
  pub slot : page.slot + 1 < 2 ^ 32
  pub end : page.addr + page.page ≤ 2 ^ 63

-- two pages have one size, one socket and one base: the address less the slots before it
pub record AreAlike (page other : HeapPage) : Type 0 where
  pub size : other.page ≡ page.page
  pub socket : other.socket ≡ page.socket
  pub base : other.addr + page.slot * page.page ≡ page.addr + other.slot * page.page

-- a chunk by itself is memory that may be external memory
abbrev pub IsChunk : Chunk → Type 0
IsChunk chunk = IsExternalMemory chunk.addr chunk.len chunk.page

-- pages and chunks are laid out by their segment lists
pub record IsLaidOut (pages : List HeapPage) (chunks : List Chunk) : Type 0 where
  pub each_page : AllByRecursion IsPage pages
  -- pages of one list are alike
  pub alike : (page other : HeapPage) → Contains pages page → Contains pages other → other.list ≡ page.list → AreAlike page other
  pub each_chunk : AllByRecursion IsChunk chunks
  -- each chunk has a list of its own
  pub own_lists : (list : ℕ) → count_by (λ chunk. chunk.list == list) chunks ≤ 1
