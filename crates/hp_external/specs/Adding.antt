-- How memory comes to an external heap: the rule "External heaps" of docs/HEAP.md.
use Rattle.std.specs.Prelude.{◌≡◌, ℕ, List, Result, Ok, Err}
use Rattle.hp_base.specs.declared.tag.Caller.{Caller}
use Rattle.hp_heap.specs.declared.entry.HeapCall.TheVariants as call
use Rattle.hp_heap.specs.declared.entry.HeapAnswer.TheVariants as answer
use Rattle.hp_heap.specs.History.{HeapView, IsCall}
use Rattle.hp_segs.specs.Ranges.{after_claim_range, range_plan}
use Rattle.hp_segs.specs.SegsView.{SegsView}
use Rattle.hp_segs.specs.declared.fault.RangeFault.{RangeFault}
use Rattle.hp_segs.specs.declared.fault.RangeFault.TheVariants as range
use Rattle.hp_zone.specs.Directory.{PlainDirectory, with_more, with_room}
use Rattle.hp_zone.specs.Zones.{IsZoneName}
use Rattle.hp_zone.specs.declared.name_change.NameChange.TheVariants.{Range}
use Rattle.hp_zone.specs.declared.names.Names.{Names}
use Rattle.hp_external.specs.Naming.{IsExternal, IsExternalName, IsNameFault}
use Rattle.hp_external.specs.declared.fault.AddFault.{AddFault}
use Rattle.hp_external.specs.declared.fault.AddFault.TheVariants as add
use Rattle.hp_external.specs.declared.fault.NameFault.TheVariants as name

-- memory comes to a heap: the segment value gives it the list that it has for it, the directory has its range, and the heap has the chunk,
-- which nobody has attached, by one call
pub record Adds (caller : Caller) (text : List ℕ) (addr len page : ℕ) (names names' : Names) (segs segs' : SegsView) (heap heap' : HeapView)
    : Type 0 where
  pub name : IsZoneName text
  pub list : ℕ
  pub socket : ℕ
  pub named : IsExternalName names.heaps.plain text heap.plain.index socket
  pub planned : range_plan addr len page segs ≡ Ok list
  pub claimed : segs' ≡ after_claim_range list addr len page socket segs
  pub listed : names'.heaps ≡ with_more (with_room names.heaps) (Range heap.plain.index addr len page)
  pub zones : names'.zones ≡ names.zones
  pub came : IsCall caller
      (call.Chunk (record { list = list; addr = addr; len = len; page = page; socket = socket; attached = 0 })) answer.Done heap heap'

-- a refusal of the segment value as one of this call
abbrev pub range_fault : RangeFault → AddFault
range_fault range.BadRange = add.BadRange
range_fault (range.Overlaps row) = add.Overlaps row
range_fault range.NoSpace = add.NoSpace
range_fault range.OutOfMemory = add.OutOfMemory

-- the plan of a range is refused so, where the name is an external heap's
pub record IsPlanFault (plain : PlainDirectory) (text : List ℕ) (plan answer : Result ℕ RangeFault) : Type 0 where
  pub name : IsZoneName text
  pub named : IsExternal plain text
  pub planned : plan ≡ answer

-- why no memory comes, in the order in which it is judged: by the name, and then by the plan of the range. Memory runs out only where
-- nothing stands against the range
abbrev pub IsAddFault : PlainDirectory → List ℕ → Result ℕ RangeFault → AddFault → Type 0
IsAddFault plain text plan add.BadName = IsNameFault plain text name.BadName
IsAddFault plain text plan add.NotFound = IsNameFault plain text name.NotFound
IsAddFault plain text plan add.SocketHeap = IsNameFault plain text name.SocketHeap
IsAddFault plain text plan add.BadRange = IsPlanFault plain text plan (Err range.BadRange)
IsAddFault plain text plan (add.Overlaps row) = IsPlanFault plain text plan (Err (range.Overlaps row))
IsAddFault plain text plan add.NoSpace = IsPlanFault plain text plan (Err range.NoSpace)
IsAddFault plain text plan add.OutOfMemory = (list : ℕ) × IsPlanFault plain text plan (Ok list)
