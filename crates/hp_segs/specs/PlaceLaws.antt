-- Laws on where lists and slots lie.
use Rattle.std.specs.Prelude.{◌≡◌, ◌≢◌, ◌⊎◌, ℕ, ◌+◌, ◌*◌, ◌≤◌, ◌<◌, false, List, Option, Some, None, slice_get}
use Rattle.hp_base.specs.PoolLines.{ArePoolLines}
use Rattle.hp_base.specs.declared.row.Row.{Row}
use Rattle.hp_base.specs.declared.pool_line.PoolLine.{PoolLine}
use Rattle.hp_log.specs.Rows.{at_slot}
use Rattle.hp_segs.specs.Lists.{lists_of, end_of}
use Rattle.hp_segs.specs.Ranges.{all_lists, overlap_of, row_at}
use Rattle.hp_segs.specs.SegsView.{SegsView, rows_in}
use Rattle.hp_segs.specs.Sound.{IsSound}
use Rattle.hp_segs.specs.Table.{IsPlaced}
use Rattle.hp_segs.specs.declared.list_info.ListInfo.{ListInfo}

-- two lists of pools share no byte
abbrev pub ListsApart : Type 0
ListsApart = (pools : List PoolLine) (list other : ℕ) (info info' : ListInfo) → ArePoolLines pools → list ≢ other
    → slice_get (lists_of pools) list ≡ Some info → slice_get (lists_of pools) other ≡ Some info'
    → (end_of info ≤ info'.base) ⊎ (end_of info' ≤ info.base)

-- rows of a sound value at different slots have different addresses
abbrev pub SlotsApart : Type 0
SlotsApart = (pools : List PoolLine) (row other : Row) → ArePoolLines pools → IsPlaced (lists_of pools) row → IsPlaced (lists_of pools) other
    → at_slot row.list row.slot other ≡ false → row.addr ≢ other.addr

-- the slot of a list shares a byte with `len` bytes from `addr` on
abbrev pub SharesByte : ℕ → ℕ → ListInfo → ℕ → Type 0
SharesByte addr len info slot = (slot < info.slots) × (info.base + slot * info.page < addr + len) × (addr < info.base + slot * info.page + info.page)

-- the row is that of a slot of a list, mapped or not, which shares a byte with the range
pub record IsOverlap (segs : SegsView) (addr len : ℕ) (row : Row) : Type 0 where
  pub place : ℕ
  pub list : ℕ
  pub info : ListInfo
  pub slot : ℕ
  pub its_list : slice_get (all_lists segs) place ≡ Some (list, info)
  pub shares : SharesByte addr len info slot
  pub its_row : row ≡ row_at (rows_in segs.segments) list info slot
  pub its_addr : row.addr ≡ info.base + slot * info.page

-- the row is an overlap, and each slot of any list that shares a byte with the range lies at its address or above; where there is none,
-- no slot does
abbrev pub IsLowestOverlap : SegsView → ℕ → ℕ → Option Row → Type 0
IsLowestOverlap segs addr len None =
    (place list slot : ℕ) (info : ListInfo) → slice_get (all_lists segs) place ≡ Some (list, info) → ¬ (SharesByte addr len info slot)
IsLowestOverlap segs addr len (Some row) = IsOverlap segs addr len row
    × ((place list slot : ℕ) (info : ListInfo) → slice_get (all_lists segs) place ≡ Some (list, info) → SharesByte addr len info slot
    → row.addr ≤ info.base + slot * info.page)

-- the overlap that is named is the lowest one
abbrev pub OverlapIsLowest : Type 0
OverlapIsLowest = (segs : SegsView) (addr len : ℕ) → IsSound segs → 0 < len → IsLowestOverlap segs addr len (overlap_of segs addr len)
