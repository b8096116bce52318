-- Where the runs and the rows of a log lie, where each list has a place of its own: "Lists and rows" of docs/GROWTH.md.
use Rattle.std.specs.Prelude.{◌≡◌, ◌≢◌, ◌⊎◌, ℕ, ◌+◌, ◌*◌, ◌^◌, ◌<◌, ◌≤◌, List, Some, slice_get, length, sum_by}
use Rattle.std.specs.List.{All}
use Rattle.hp_base.specs.declared.row.Row.{Row}
use Rattle.hp_base.specs.declared.row.Run.{Run}
use Rattle.hp_log.specs.Log.{IsWellFormed, run_in, table_at}
use Rattle.hp_log.specs.declared.log_record.LogRecord.{LogRecord}

-- where a list lies: so many slots, each a page long, one after the other from its base on
pub record ListPlace : Type 0 where
  pub base : ℕ
  pub page : ℕ
  pub slots : ℕ

-- where a list ends
abbrev pub place_end : ListPlace → ℕ
place_end place = place.base + place.slots * place.page

-- the list has pages, and its numbers are within their types, also one page behind its end
pub record IsSmallPlace (place : ListPlace) : Type 0 where
  pub paged : 0 < place.page
  pub few : place.slots < 2 ^ 32
  pub beyond : place_end place + place.page < 2 ^ 64

-- no two of the lists share a byte
abbrev pub ArePlacesApart : List ListPlace → Type 0
ArePlacesApart lists = (list other : ℕ) (place place' : ListPlace) → list ≢ other → slice_get lists list ≡ Some place
    → slice_get lists other ≡ Some place' → (place_end place ≤ place'.base) ⊎ (place_end place' ≤ place.base)

-- the run has slots of its list alone, and begins where the first of them does
pub record IsRunOf (lists : List ListPlace) (run : Run) : Type 0 where
  pub place : ListPlace
  pub its_list : slice_get lists run.list ≡ Some place
  pub within : run.first + run.count ≤ place.slots
  pub addr : run.addr ≡ place.base + run.first * place.page
  pub size : run.page ≡ place.page

-- the row is the page at its slot of its list
pub record IsRowOf (lists : List ListPlace) (row : Row) : Type 0 where
  pub place : ListPlace
  pub its_list : slice_get lists row.list ≡ Some place
  pub within : row.slot < place.slots
  pub addr : row.addr ≡ place.base + row.slot * place.page
  pub size : row.page ≡ place.page

-- an address is in none of the lists
abbrev pub IsOutside : List ListPlace → ℕ → Type 0
IsOutside lists addr = All (λ place. (addr < place.base) ⊎ (place_end place ≤ addr)) lists

-- how many slots lists have
abbrev pub slots_in : List ListPlace → ℕ
slots_in lists = sum_by (λ place. place.slots) lists

-- what the keeper of a log knows of it: it is well formed, each of its runs is of slots of these lists, which lie apart, and no table of
-- it has more rows than there are slots
pub record IsLogOf (lists : List ListPlace) (records : List LogRecord) : Type 0 where
  pub formed : IsWellFormed records
  pub runs : All (λ entry. IsRunOf lists (run_in entry)) records
  pub small : All IsSmallPlace lists
  pub apart : ArePlacesApart lists
  pub fits : (n : ℕ) → length (table_at records n) ≤ slots_in lists
