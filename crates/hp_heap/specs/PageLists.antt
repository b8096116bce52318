-- Of which segment lists a heap has pages, as its cut of pages looks them up. No public clause cites this module.
use Rattle.std.specs.Prelude.{◌≡◌, ◌≢◌, ℕ, ◌+◌, ◌-◌, ◌*◌, ◌<◌, ◌≤◌, ◌^◌, ◌==◌, Bool, List, Option, Some, IsSomeAnd, IsTrue, length, slice_get}
use Rattle.std.specs.List.{find, position_or_len, AllByRecursion}
use Rattle.hp_base.specs.Pages.{is_page_size}
use Rattle.hp_base.specs.declared.span.Span.{Span}
use Rattle.hp_base.specs.declared.row.Run.{Run}
use Rattle.hp_heap.specs.declared.page_list.PageList.{PageList}
use Rattle.hp_heap.specs.PlainHeap.{HeapPage, end_of}

-- whether an entry is that of a segment list, and the entry of one
abbrev pub is_of : ℕ → PageList → Bool
is_of list entry = entry.list == list

abbrev pub list_at : ℕ → List PageList → Option PageList
list_at list lists = find (is_of list) lists

-- where the first entry of a segment list stands
pub record IsPlaceOf (lists : List PageList) (list place : ℕ) : Type 0 where
  pub within : place < length lists
  pub first : place ≡ position_or_len (is_of list) lists
  pub here : list_at list lists ≡ slice_get lists place

-- what a run tells of its segment list
abbrev pub list_of_run : Run → PageList
list_of_run run = record { page = run.page; base = run.addr - run.first * run.page; list = run.list; socket = run.socket }

-- the list of a run was noted, and all others are as they were
pub record IsNoted (run : Run) (old new : List PageList) : Type 0 where
  pub own : list_at run.list new ≡ Some (list_of_run run)
  pub others : (list : ℕ) → list ≢ run.list → list_at list new ≡ list_at list old

-- a page lies on a list: it has the size and the socket of its pages, and its slot's place from the base on
pub record LiesOn (page : HeapPage) (entry : PageList) : Type 0 where
  pub size : page.page ≡ entry.page
  pub socket : page.socket ≡ entry.socket
  pub place : page.addr ≡ entry.base + page.slot * entry.page

-- each page lies on the list that is noted under its number
abbrev pub AreNoted : List HeapPage → List PageList → Type 0
AreNoted pages lists = AllByRecursion (λ page. IsSomeAnd (list_at page.list lists) (LiesOn page)) pages

-- an element lies within the slots of a list
pub record LiesWithin (range : Span) (entry : PageList) : Type 0 where
  pub size : IsTrue (is_page_size range.page)
  pub base : entry.base ≤ range.addr
  pub slots : end_of range < entry.base + 2 ^ 32 * range.page

-- each element lies within the slots of the list that is noted under its number
abbrev pub AreListed : List Span → List PageList → Type 0
AreListed ranges lists = AllByRecursion (λ range. IsSomeAnd (list_at range.list lists) (LiesWithin range)) ranges
