-- What a line does, as a tree of what comes next by what each deed gives; and what was done, as a trace through that tree.
use Rattle.std.specs.Prelude.{◌≡◌, ℕ, List, [], ◌∷◌, Option, Result, ⊤}
use Rattle.hp_base.specs.declared.caught.Caught.{Caught}
use Rattle.hp_base.specs.declared.chunk.Chunk.{Chunk}
use Rattle.hp_base.specs.declared.row.Run.{Run}
use Rattle.hp_base.specs.declared.stats.Stats.{Stats}
use Rattle.hp_heap.specs.declared.entry.Entry.{Entry}
use Rattle.hp_heap.specs.declared.entry.HeapCall.{HeapCall}
use Rattle.hp_heap.specs.declared.entry.HeapAnswer.{HeapAnswer}
use Rattle.hp_script.specs.declared.answer.Answer.{Answer}
use Rattle.hp_proc.specs.SharedNames.{NamesChange, SharedNames}
use Rattle.hp_segs.specs.declared.fault.RangeFault.{RangeFault}
use Rattle.hp_serve.specs.declared.pages_asked.PagesAsked.{PagesAsked}

-- statistics of a heap, and after how many entries of its history they are
pub record Counted : Type 0 where
  pub entries : ℕ
  pub stats : Stats

-- one thing that a line may do
pub data Deed : Type 0 where
  -- it makes a call of the heap with that index
  Call : ℕ → HeapCall → Deed
  -- it asks for pages
  Ask : PagesAsked → Deed
  -- it gives up a run of the heap with that index and tells the coordinator so, whatever comes of that
  GiveUp : ℕ → Run → Deed
  -- it looks at the segment value
  Look : Deed
  -- it catches up with so many records
  CatchUp : ℕ → Deed
  -- it reads the names
  ReadNames : Deed
  -- it changes them, as it has just read them
  ChangeNames : NamesChange → Deed
  -- it looks at the external heap with that index
  SeeHeap : ℕ → Deed
  -- it asks the segment value for a list for external memory, by address, length and page size
  PlanRange : ℕ → ℕ → ℕ → Deed
  -- it maps the pages of a chunk
  MapChunk : Chunk → Deed
  -- it reads the statistics of the heap with that index, as somebody has published them
  ReadStats : ℕ → Deed

-- what a deed gives: the heap's answer; the run that is granted, or none where the ask is refused; nothing; how many records the segment
-- value has; what the mapper made of the records; the names; nothing; the history of the heap, which leaves its state; the list, or why there is
-- none; what the mapper made of the pages; the statistics
abbrev pub Given : Deed → Type 0
Given (Call heap call) = HeapAnswer
Given (Ask asked) = Option Run
Given (GiveUp heap run) = ⊤
Given Look = ℕ
Given (CatchUp to) = Caught
Given ReadNames = SharedNames
Given (ChangeNames change) = ⊤
Given (SeeHeap heap) = List Entry
Given (PlanRange addr len page) = Result ℕ RangeFault
Given (MapChunk chunk) = Caught
Given (ReadStats heap) = Counted

-- what a line does
pub data Doing : Type 0 where
  -- it does that, and goes on by what it is given
  Then : (deed : Deed) → (Given deed → Doing) → Doing
  -- it is done, with its answer
  Ended : Answer → Doing

-- one thing that was done, with what it gave
pub data Done : Type 0 where
  Called : ℕ → HeapCall → HeapAnswer → Done
  Asked : PagesAsked → Option Run → Done
  GaveUp : ℕ → Run → Done
  Looked : ℕ → Done
  CaughtUp : ℕ → Caught → Done
  NamesRead : SharedNames → Done
  NamesChanged : NamesChange → Done
  HeapSeen : ℕ → List Entry → Done
  RangePlanned : ℕ → ℕ → ℕ → Result ℕ RangeFault → Done
  ChunkMapped : Chunk → Caught → Done
  StatsRead : ℕ → Counted → Done

-- a deed was done, and gave that
abbrev pub gave : (deed : Deed) → Given deed → Done
gave (Call heap call) answer = Called heap call answer
gave (Ask asked) run = Asked asked run
gave (GiveUp heap run) none = GaveUp heap run
gave Look records = Looked records
gave (CatchUp to) caught = CaughtUp to caught
gave ReadNames names = NamesRead names
gave (ChangeNames change) none = NamesChanged change
gave (SeeHeap heap) history = HeapSeen heap history
gave (PlanRange addr len page) plan = RangePlanned addr len page plan
gave (MapChunk chunk) caught = ChunkMapped chunk caught
gave (ReadStats heap) counted = StatsRead heap counted

-- this was the next thing to do, and what is left to do after it has a property
unfoldable pub Goes : Doing → Done → (Doing → Type 0) → Type 0
Goes (Then deed next) done left = (given : Given deed) × (done ≡ gave deed given) × left (next given)
Goes (Ended answer) done left = ⊥

-- a trace leads through a tree to what is left of it
unfoldable pub Leads : Doing → List Done → Doing → Type 0
Leads doing [] left = left ≡ doing
Leads doing (done ∷ trace) left = Goes doing done (λ next. Leads next trace left)
