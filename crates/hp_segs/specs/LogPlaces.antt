-- The log of a sound value, in the words of those who follow it: where its lists lie, and that external memory lies outside of them.
use Rattle.std.specs.Prelude.{ℕ, ◌+◌, ◌<◌, ◌≤◌, List, map, sum_by}
use Rattle.std.specs.List.{All}
use Rattle.hp_base.specs.declared.pool_line.PoolLine.{PoolLine}
use Rattle.hp_log.specs.Places.{IsLogOf, IsOutside, ListPlace, slots_in}
use Rattle.hp_segs.specs.Lists.{lists_of}
use Rattle.hp_segs.specs.Ranges.{range_segments}
use Rattle.hp_segs.specs.SegsView.{SegsView}
use Rattle.hp_segs.specs.Sound.{IsSound}
use Rattle.hp_segs.specs.declared.list_info.ListInfo.{ListInfo}

-- where a list lies
abbrev pub place_of : ListInfo → ListPlace
place_of info = record { base = info.base; page = info.page; slots = info.slots }

-- where the lists of pools lie, in their order
abbrev pub places_of : List PoolLine → List ListPlace
places_of pools = map place_of (lists_of pools)

-- the log of a sound value is one of its pools' lists
abbrev pub LogIsPlaced : Type 0
LogIsPlaced = (segs : SegsView) → IsSound segs → IsLogOf (places_of segs.pools) segs.log

-- no byte of its external memory is in these lists
abbrev pub RangesAreOutside : Type 0
RangesAreOutside = (segs : SegsView) → IsSound segs
    → All (λ range. (addr : ℕ) → range.addr ≤ addr → addr < range.addr + range.len → IsOutside (places_of segs.pools) addr) segs.ranges

-- its lists have at most 16,384 slots, with the pages of its external memory
abbrev pub SlotsAreFew : Type 0
SlotsAreFew = (segs : SegsView) → IsSound segs → slots_in (places_of segs.pools) + sum_by range_segments segs.ranges ≤ 16384
