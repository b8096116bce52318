-- External memory: which ranges get a list, and which rows they have.
use Rattle.std.specs.Prelude.{◌≡◌, ◌⊎◌, ℕ, ◌+◌, ◌-◌, ◌*◌, ◌/◌, max, Bool, not, ◌&&◌, ◌||◌, ◌==◌, nat_lt, nat_le, List, [], ◌∷◌, ◌++◌, map, length, filter, find, Option, Some, None, Result, Ok, Err, if◌then◌else◌, sum_by, unwrap_or}
use Rattle.std.specs.List.{fold, list_any, range_with_len, enumerate_from}
use Rattle.std.specs.Option.{option_map, option_or}
use Rattle.hp_base.specs.ExternalMemory.{is_bad_range}
use Rattle.hp_base.specs.declared.row.Row.{Row}
use Rattle.hp_log.specs.Rows.{row_contains, at_slot}
use Rattle.hp_segs.specs.Lists.{lists_of}
use Rattle.hp_segs.specs.SegsView.{SegsView, rows_in}
use Rattle.hp_segs.specs.declared.list_info.ListInfo.{ListInfo}
use Rattle.hp_segs.specs.declared.external_range.ExternalRange.{ExternalRange}
use Rattle.hp_segs.specs.declared.fault.RangeFault.{RangeFault}
use Rattle.hp_segs.specs.declared.fault.RangeFault.TheVariants.{BadRange, Overlaps, NoSpace, OutOfMemory}

-- the list of a range
abbrev pub info_of : ExternalRange → ListInfo
info_of range = record { socket = range.socket; page = range.page; base = range.addr; slots = range.len / range.page }

-- the list of a range with its number
abbrev pub range_entry : ExternalRange → ℕ × ListInfo
range_entry range = (range.list, info_of range)

-- the segments of a range
abbrev pub range_segments : ExternalRange → ℕ
range_segments range = range.len / range.page

-- all lists with their numbers: those of the pools, then those of external memory
abbrev pub all_lists : SegsView → List (ℕ × ListInfo)
all_lists segs = enumerate_from 0 (lists_of segs.pools) ++ map range_entry segs.ranges

-- the row of a slot of a list that is not in the log
abbrev pub unlogged_row : ℕ → ListInfo → ℕ → Row
unlogged_row list info slot = record {
  addr = info.base + slot * info.page;
  page = info.page;
  socket = info.socket;
  list = list;
  slot = slot;
  generation = 0;
}

-- the row at a slot: that of the table, or else one of generation 0
abbrev pub row_at : List Row → ℕ → ListInfo → ℕ → Row
row_at rows list info slot = unwrap_or (find (at_slot list slot) rows) (unlogged_row list info slot)

-- a list shares a byte with the range
abbrev pub shares_byte : ℕ → ℕ → ListInfo → Bool
shares_byte addr len info = nat_lt info.base (addr + len) && nat_lt addr (info.base + info.slots * info.page)

-- the lowest slot of a list that shares a byte with the range
abbrev pub first_shared : List Row → ℕ → ℕ → ℕ × ListInfo → Option Row
first_shared rows addr len (list, info) =
    if shares_byte addr len info then Some (row_at rows list info ((max addr info.base - info.base) / info.page)) else None

-- the lower of two rows, where there are such
abbrev pub lower_of : Option Row → Option Row → Option Row
lower_of None row = row
lower_of (Some lowest) None = Some lowest
lower_of (Some lowest) (Some row) = if nat_lt row.addr lowest.addr then Some row else Some lowest

-- the lower of a row and a list's lowest slot that shares a byte with the range
abbrev pub lower_shared : List Row → ℕ → ℕ → Option Row → ℕ × ListInfo → Option Row
lower_shared rows addr len lowest list = lower_of lowest (first_shared rows addr len list)

-- the lowest slot of any list, mapped or not, that shares a byte with the range
abbrev pub overlap_of : SegsView → ℕ → ℕ → Option Row
overlap_of segs addr len = fold (lower_shared (rows_in segs.segments) addr len) None (all_lists segs)

-- the segments of all lists
abbrev pub segment_count : SegsView → ℕ
segment_count segs = sum_by (λ line. line.slots) segs.pools + sum_by range_segments segs.ranges

-- the list number is neither one of the first lists nor one of external memory
abbrev pub is_free_number : ℕ → List ExternalRange → ℕ → Bool
is_free_number pools ranges list = nat_le pools list && not (list_any (λ range. range.list == list) ranges)

-- the lowest free of the 128 list numbers
abbrev pub free_number : ℕ → List ExternalRange → Option ℕ
free_number pools ranges = find (is_free_number pools ranges) (range_with_len 0 128)

-- a list has more than 8,192 segments, or all have more than 16,384
abbrev pub is_too_much : ℕ → ℕ → ℕ → Bool
is_too_much segments len page = nat_lt 8192 (len / page) || nat_lt 16384 (segments + len / page)

abbrev pub range_list : SegsView → ℕ → ℕ → Option ℕ → Result ℕ RangeFault
range_list segs len page None = Err NoSpace
range_list segs len page (Some list) = if is_too_much (segment_count segs) len page then Err NoSpace else Ok list

abbrev pub range_apart : SegsView → ℕ → ℕ → Option Row → Result ℕ RangeFault
range_apart segs len page None = range_list segs len page (free_number (length segs.pools) segs.ranges)
range_apart segs len page (Some row) = Err (Overlaps row)

-- the list that a range would get, or the first refusal in order: bad range, overlap, no space
abbrev pub range_plan : ℕ → ℕ → ℕ → SegsView → Result ℕ RangeFault
range_plan addr len page segs =
    if is_bad_range addr len page then Err BadRange else range_apart segs len page (overlap_of segs addr len)

-- the plan of a range is its answer, but for running out of memory
abbrev pub IsRangeAnswer : Result ℕ RangeFault → Result ℕ RangeFault → Type 0
IsRangeAnswer (Ok list) answer = (answer ≡ Ok list) ⊎ (answer ≡ Err OutOfMemory)
IsRangeAnswer (Err fault) answer = answer ≡ Err fault

-- `claim_range`: the range has that list
abbrev pub after_claim_range : ℕ → ℕ → ℕ → ℕ → ℕ → SegsView → SegsView
after_claim_range list addr len page socket segs =
    record segs { ranges = segs.ranges ++ record { list = list; addr = addr; len = len; page = page; socket = socket } ∷ [] }

-- the list is that of external memory
abbrev pub is_claimed : SegsView → ℕ → Bool
is_claimed segs list = list_any (λ range. range.list == list) segs.ranges

-- `release_range`: the list and its memory are no longer there
abbrev pub after_release_range : ℕ → SegsView → SegsView
after_release_range list segs = record segs { ranges = filter (λ range. not (range.list == list)) segs.ranges }

-- the bytes of a range contain an address
abbrev pub range_contains : ℕ → ExternalRange → Bool
range_contains addr range = nat_le range.addr addr && nat_lt addr (range.addr + range.len)

-- the row of a range that contains an address
abbrev pub range_row : ℕ → ExternalRange → Row
range_row addr range = unlogged_row range.list (info_of range) ((addr - range.addr) / range.page)

-- the row of the log's table or of external memory that contains an address
abbrev pub row_containing : SegsView → ℕ → Option Row
row_containing segs addr =
    option_or (find (row_contains addr) (rows_in segs.segments)) (option_map (range_row addr) (find (range_contains addr) segs.ranges))
