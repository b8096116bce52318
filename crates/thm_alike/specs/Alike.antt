-- What agreement gives: each segment that is in use is mapped alike by every attached participant. The rule "What agreement gives" of
-- docs/GROWTH.md.
use Rattle.std.specs.Prelude.{◌≡◌, ℕ, ◌≤◌, true, false, List, Contains, Some, slice_get}
use Rattle.hp_base.specs.declared.limits.TheConstants.{MAX_HEAPS}
use Rattle.hp_base.specs.declared.row.Row.{Row}
use Rattle.hp_heap.specs.History.{HeapView}
use Rattle.hp_heap.specs.PlainHeap.{HeapPage}
use Rattle.hp_hall.specs.Views.{HeldHeap}
use Rattle.hp_plain.specs.HallView.{HallView, IsHall, IsHeapAtHome, segs_in, slot_at}
use Rattle.hp_hall.specs.Holding.{is_page_of}
use Rattle.hp_segs.specs.Standing.{owned_by}
use Rattle.hp_maps.specs.declared.table.Table.{Table}
use Rattle.hp_script.specs.declared.answer.Answer.{Answer}
use Rattle.hp_script.specs.declared.workload.Workload.{Workload}
use Rattle.hp_segs.specs.SegsView.{SegsView, is_opened}
use Rattle.hp_segs.specs.declared.row_state.Segment.{Segment}
use Rattle.hp_proc.specs.Ends.{IsEnd}
use Rattle.hp_proc.specs.LinesDone.{Course}
use Rattle.hp_serve.specs.Party.{Party}
use Rattle.thm_run.specs.EndLaws.{IsGiven}
use Rattle.thm_run.specs.SoFar.{SoFar}

-- a segment is in use: its growth was granted, and it is not yet dropped
abbrev pub IsInUse : Segment → Type 0
IsInUse segment = is_opened segment.state ≡ false

-- a table has the segment: at its address, with its page size and its socket, by the record that brought it
abbrev pub HasSegment : List Row → Segment → Type 0
HasSegment rows segment = Contains rows segment.row

-- a participant has taken in the record of each segment in use, and its table has the segment
pub record HasAllInUse (segs : SegsView) (party : Party) : Type 0 where
  pub taken_in : (segment : Segment) → Contains segs.segments segment → IsInUse segment → segment.row.generation ≤ party.maps.number
  pub mapped : (segment : Segment) → Contains segs.segments segment → IsInUse segment → HasSegment party.maps.rows segment

-- between two lines each attached participant has all segments in use
abbrev pub AttachedMapAlike : Type 0
AttachedMapAlike = (workload : Workload) (courses : List Course) (parties : List Party) (hall : HallView) (segs : SegsView) (who : ℕ)
    (party : Party) → IsGiven workload → SoFar workload courses parties hall → segs_in (slot_at hall MAX_HEAPS) ≡ Some segs
    → slice_get parties who ≡ Some party → party.joined ≡ true → HasAllInUse segs party

-- each table of an attached participant has every segment in use
abbrev pub TablesAlike : SegsView → List Table → Type 0
TablesAlike segs tables = (who : ℕ) (table : Table) (segment : Segment) → slice_get tables who ≡ Some table → table.joined ≡ true
    → Contains segs.segments segment → IsInUse segment → HasSegment table.rows.items segment

-- at the end of a run each table of an attached participant has every segment in use
abbrev pub EndsAlike : Type 0
EndsAlike = (workload : Workload) (answers : List Answer) (heaps : List HeapView) (segs : SegsView) (tables : List Table)
    → IsEnd workload answers heaps segs tables → TablesAlike segs tables

-- a page of a heap is mapped alike: it is that of one of the heap's own segments, by list and slot, address, page size and socket, and all
-- who are attached have this one segment
pub record IsMappedAlike (segs : SegsView) (heap : ℕ) (page : HeapPage) (HaveAll : Segment → Type 0) : Type 0 where
  pub segment : Segment
  pub own : Contains (owned_by heap segs) segment
  pub its_page : is_page_of segment.row page ≡ true
  pub mapped : HaveAll segment

-- each attached participant's table has the segment
abbrev pub AttachedHave : List Party → Segment → Type 0
AttachedHave parties segment = (who : ℕ) (party : Party) → slice_get parties who ≡ Some party → party.joined ≡ true
    → HasSegment party.maps.rows segment

abbrev pub TablesHave : List Table → Segment → Type 0
TablesHave tables segment = (who : ℕ) (table : Table) → slice_get tables who ≡ Some table → table.joined ≡ true
    → HasSegment table.rows.items segment

-- between two lines each page of each heap that nobody holds is mapped alike: an address that a heap hands out means the same memory for
-- all who are attached
abbrev pub AttachedPagesAlike : Type 0
AttachedPagesAlike = (workload : Workload) (courses : List Course) (parties : List Party) (hall : HallView) (segs : SegsView) (index : ℕ)
    (held : HeldHeap) (page : HeapPage) → IsGiven workload → SoFar workload courses parties hall → IsHall hall
    → segs_in (slot_at hall MAX_HEAPS) ≡ Some segs → IsHeapAtHome hall index held → Contains held.heap.plain.pages page
    → IsMappedAlike segs index page (AttachedHave parties)

-- each page of each of these heaps is mapped alike, by the tables that a run leaves
abbrev pub PagesAlike : List HeapView → SegsView → List Table → Type 0
PagesAlike heaps segs tables = (index : ℕ) (heap : HeapView) (page : HeapPage) → slice_get heaps index ≡ Some heap
    → Contains heap.plain.pages page → IsMappedAlike segs heap.plain.index page (TablesHave tables)

abbrev pub EndPagesAlike : Type 0
EndPagesAlike = (workload : Workload) (answers : List Answer) (heaps : List HeapView) (segs : SegsView) (tables : List Table)
    → IsEnd workload answers heaps segs tables → PagesAlike heaps segs tables
