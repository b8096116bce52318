-- What holds of the roster, the armed asks and external memory of every segment value.
use Rattle.std.specs.Prelude.{◌≡◌, ℕ, ◌+◌, ◌/◌, ◌<◌, ◌≤◌, Bool, false, ◌==◌, List, length, Option, Some, IsTrue, slice_get, count_by, sum_by}
use Rattle.std.specs.List.{All}
use Rattle.hp_base.specs.ExternalMemory.{is_bad_range}
use Rattle.hp_base.specs.declared.pool_line.PoolLine.{PoolLine}
use Rattle.hp_segs.specs.Lists.{lists_of}
use Rattle.hp_segs.specs.Ranges.{range_contains, range_segments, shares_byte}
use Rattle.hp_segs.specs.SegsView.{is_member}
use Rattle.hp_segs.specs.declared.ask.Ask.{Ask}
use Rattle.hp_segs.specs.declared.external_range.ExternalRange.{ExternalRange}

-- external memory is within its limits
pub record IsRange (range : ExternalRange) : Type 0 where
  pub good : is_bad_range range.addr range.len range.page ≡ false
  pub list : range.list < 128
  pub segments : range.len / range.page ≤ 8192

-- external memory has a list number after those of the pools' lists, and shares no byte with these
pub record IsBeside (pools : List PoolLine) (range : ExternalRange) : Type 0 where
  pub behind : length pools ≤ range.list
  pub apart : All (λ info. shares_byte range.addr range.len info ≡ false) (lists_of pools)

-- all external memory, with the lists of the pools, is within its limits; no two ranges have a number or a byte in common
pub record AreRanges (pools : List PoolLine) (ranges : List ExternalRange) : Type 0 where
  pub each : All IsRange ranges
  pub segments : sum_by (λ line. line.slots) pools + sum_by range_segments ranges ≤ 16384
  pub beside : All (IsBeside pools) ranges
  pub distinct : (list : ℕ) → count_by (λ range. range.list == list) ranges ≤ 1
  pub apart : (byte : ℕ) → count_by (range_contains byte) ranges ≤ 1

-- the places of the participants 0 to 15 and external memory are sound
pub record ArePlaces (pools : List PoolLine) (roster : List Bool) (armed : List (Option Ask)) (ranges : List ExternalRange) : Type 0 where
  pub roster_places : length roster ≡ 16
  pub armed_places : length armed ≡ 16
  -- the primary is in the roster
  pub primary : IsTrue (is_member roster 0)
  -- each is armed with an ask of its own
  pub own : (place : ℕ) (ask : Ask) → slice_get armed place ≡ Some (Some ask) → ask.from ≡ place
  pub external : AreRanges pools ranges
