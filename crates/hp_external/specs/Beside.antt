-- What the calls on one external heap leave of the tie of another: the rule "The tie" of docs/HEAP.md.
use Rattle.std.specs.Prelude.{◌≢◌, ℕ, List}
use Rattle.std.specs.List.{AllByRecursion}
use Rattle.hp_base.specs.declared.row.Row.{Row}
use Rattle.hp_base.specs.declared.tag.Caller.{Caller}
use Rattle.hp_heap.specs.History.{HeapView}
use Rattle.hp_heap.specs.PlainHeap.{PlainHeap}
use Rattle.hp_heap.specs.Tiling.{IsTiled}
use Rattle.hp_maps.specs.MapsView.{MapsView}
use Rattle.hp_segs.specs.SegsView.{SegsView}
use Rattle.hp_segs.specs.declared.external_range.ExternalRange.{ExternalRange}
use Rattle.hp_zone.specs.declared.names.Names.{Names}
use Rattle.hp_external.specs.Adding.{Adds}
use Rattle.hp_external.specs.Attaching.{Attaches, Detaches}
use Rattle.hp_external.specs.Creating.{Destroys}
use Rattle.hp_external.specs.Removing.{Removes}
use Rattle.hp_external.specs.Tie.{IsTiedHeap}

-- another heap stands beside a heap: their indexes differ, and no chunk of the one has the list of a chunk of the other
pub record IsBeside (heap other : PlainHeap) : Type 0 where
  pub index : other.index ≢ heap.index
  pub lists : AllByRecursion (λ chunk. AllByRecursion (λ its. its.list ≢ chunk.list) other.chunks) heap.chunks

-- where a heap is destroyed, another one stays tied, and beside it
abbrev pub DestroysLeaveOthers : Type 0
DestroysLeaveOthers = (caller : Caller) (text : List ℕ) (names names' : Names) (heap heap' : HeapView) (other : PlainHeap)
    (claims : List ExternalRange) (participant : ℕ) (rows : List Row) → Destroys caller text names names' heap heap'
    → IsBeside heap.plain other → IsTiedHeap names.heaps.plain.ranges claims participant rows other
    → IsBeside heap'.plain other × IsTiedHeap names'.heaps.plain.ranges claims participant rows other

-- where memory comes to a heap, another one stays tied, and beside it
abbrev pub AddsLeaveOthers : Type 0
AddsLeaveOthers = (caller : Caller) (text : List ℕ) (addr len page : ℕ) (names names' : Names) (segs segs' : SegsView)
    (heap heap' : HeapView) (other : PlainHeap) (participant : ℕ) (rows : List Row)
    → Adds caller text addr len page names names' segs segs' heap heap' → IsBeside heap.plain other
    → IsTiedHeap names.heaps.plain.ranges segs.ranges participant rows other
    → IsBeside heap'.plain other × IsTiedHeap names'.heaps.plain.ranges segs'.ranges participant rows other

-- where memory goes from a heap that is tied to a table, another one that is tied to that table stays tied, and beside it
abbrev pub RemovesLeaveOthers : Type 0
RemovesLeaveOthers = (caller : Caller) (text : List ℕ) (addr len : ℕ) (names names' : Names) (segs segs' : SegsView)
    (heap heap' : HeapView) (other : PlainHeap) (participant : ℕ) (rows : List Row)
    → Removes caller text addr len names names' segs segs' heap heap' → IsTiled heap.plain → IsBeside heap.plain other
    → IsTiedHeap names.heaps.plain.ranges segs.ranges participant rows heap.plain
    → IsTiedHeap names.heaps.plain.ranges segs.ranges participant rows other
    → IsBeside heap'.plain other × IsTiedHeap names'.heaps.plain.ranges segs'.ranges participant rows other

-- where a participant attaches a chunk of a heap, or leaves it, another heap is tied to the table that this leaves
abbrev pub AttachesLeaveOthers : Type 0
AttachesLeaveOthers = (caller : Caller) (text : List ℕ) (addr len : ℕ) (names : Names) (claims : List ExternalRange)
    (heap heap' : HeapView) (maps maps' : MapsView) (other : PlainHeap)
    → Attaches caller names.heaps.plain text addr len heap heap' maps maps' → IsTiled heap.plain → IsBeside heap.plain other
    → IsTiedHeap names.heaps.plain.ranges claims caller.participant maps.rows heap.plain
    → IsTiedHeap names.heaps.plain.ranges claims caller.participant maps.rows other
    → IsBeside heap'.plain other × IsTiedHeap names.heaps.plain.ranges claims caller.participant maps'.rows other

abbrev pub DetachesLeaveOthers : Type 0
DetachesLeaveOthers = (caller : Caller) (text : List ℕ) (addr len : ℕ) (names : Names) (claims : List ExternalRange)
    (heap heap' : HeapView) (maps maps' : MapsView) (other : PlainHeap)
    → Detaches caller names.heaps.plain text addr len heap heap' maps maps' → IsBeside heap.plain other
    → IsTiedHeap names.heaps.plain.ranges claims caller.participant maps.rows other
    → IsBeside heap'.plain other × IsTiedHeap names.heaps.plain.ranges claims caller.participant maps'.rows other
