-- Pools, segment lists and segments as the report shows them.
use Rattle.std.specs.Prelude.{ℕ, ◌+◌, ◌*◌, List, [], ◌++◌, codes}
use Rattle.std.specs.List.{flat_map, range_with_len}
use Rattle.std.specs.Option.{option_map_or}
use Rattle.hp_base.specs.declared.pool_line.PoolLine.{PoolLine}
use Rattle.hp_script.specs.Answers.{address_text, number_text}
use Rattle.hp_segs.specs.Lists.{lists_of}
use Rattle.hp_segs.specs.SegsView.{SegsView, pages_left, state_at}
use Rattle.hp_segs.specs.declared.list_info.ListInfo.{ListInfo}
use Rattle.hp_segs.specs.declared.row_state.RowState.{RowState}
use Rattle.hp_segs.specs.declared.row_state.RowState.TheVariants.{Opened, Agreed, Owned, Retiring}
use Rattle.hp_segs.specs.declared.row_state.Segment.{Segment}
use Rattle.hp_report.specs.Numbered.{numbered}

-- a pool: its socket, the size of its pages, and the pages left
abbrev pub pool_line : SegsView → ℕ → PoolLine → List ℕ
pool_line segs number line = codes "pool" ++ number_text line.socket ++ number_text line.page ++ number_text (pages_left segs number) ++ codes "\n"

-- a segment list: its number, its socket, the size of its pages, its base and its slots
abbrev pub list_line : ℕ → ListInfo → List ℕ
list_line number info =
    codes "list" ++ number_text number ++ number_text info.socket ++ number_text info.page ++ address_text info.base ++ number_text info.slots ++ codes "\n"

-- what a segment is to the heaps
abbrev pub state_text : RowState → List ℕ
state_text Opened = codes " opened"
state_text (Agreed heap) = codes " agreed" ++ number_text heap
state_text (Owned heap) = codes " owned" ++ number_text heap
state_text Retiring = codes " retiring"

-- a used segment: its address and its state
abbrev pub segment_line : ℕ → RowState → List ℕ
segment_line addr state = codes "seg" ++ address_text addr ++ state_text state ++ codes "\n"

-- the segment at a slot of a list, where it is used
abbrev pub slot_line : List Segment → ℕ → ListInfo → ℕ → List ℕ
slot_line segments list info slot = option_map_or (segment_line (info.base + slot * info.page)) (state_at segments list slot) []

-- the used segments of a list, by address
abbrev pub used_text : List Segment → ℕ → ListInfo → List ℕ
used_text segments list info = flat_map (slot_line segments list info) (range_with_len 0 info.slots)

-- the pools, in their order
abbrev pub pools_text : SegsView → List ℕ
pools_text segs = numbered (pool_line segs) 0 segs.pools

-- the segment lists of the pools, from list 0 on
abbrev pub lists_text : SegsView → List ℕ
lists_text segs = numbered list_line 0 (lists_of segs.pools)

-- the used segments by address, which is list by list, since each list lies above the one before it
abbrev pub all_used_text : SegsView → List ℕ
all_used_text segs = numbered (used_text segs.segments) 0 (lists_of segs.pools)

-- pools, lists, and used segments
abbrev pub segments_text : SegsView → List ℕ
segments_text segs = pools_text segs ++ lists_text segs ++ all_used_text segs
