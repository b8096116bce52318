-- The limits of pools and of their segment lists: the rule "Lists and rows" of docs/GROWTH.md.
use Rattle.std.specs.Prelude.{◌≡◌, ◌<◌, ◌≤◌, List, length, sum_by, All, AllPairs, IsTrue}
use Rattle.hp_base.specs.Pages.{is_page_size}
use Rattle.hp_base.specs.declared.limits.TheConstants.{MAX_LISTS, MAX_LIST_SEGMENTS, MAX_SEGMENTS, MAX_SOCKETS}
use Rattle.hp_base.specs.declared.pool_line.PoolLine.{PoolLine}

-- the numbers of a pool line: a socket below 32, one of the page sizes, at most 8,192 pages, and 1 to 8,192 slots ("Lists and rows")
pub record IsPoolLine (pool : PoolLine) : Type 0 where
  pub socket : pool.socket < MAX_SOCKETS
  pub page : IsTrue (is_page_size pool.page)
  pub pages : pool.pages ≤ MAX_LIST_SEGMENTS
  pub some : 0 < pool.slots
  pub slots : pool.slots ≤ MAX_LIST_SEGMENTS

-- two pools differ in socket or page size ("Lists and rows")
abbrev pub IsOtherPool : PoolLine → PoolLine → Type 0
IsOtherPool pool other = ¬ ((pool.socket ≡ other.socket) × (pool.page ≡ other.page))

-- at most 128 pools with at most 16,384 slots in all, no two of the same socket and page size ("Lists and rows")
pub record ArePoolLines (pools : List PoolLine) : Type 0 where
  pub few : length pools ≤ MAX_LISTS
  pub lines : All IsPoolLine pools
  pub distinct : AllPairs IsOtherPool pools
  pub slots : sum_by (λ pool. pool.slots) pools ≤ MAX_SEGMENTS
