-- What the lines of external heaps answer, by what the calls on external heaps make of them.
use Rattle.std.specs.Prelude.{◌≡◌, ℕ, ◌<◌, List, Option, Some, None, Result, Ok, Err, ⊤}
use Rattle.hp_base.specs.declared.limits.TheConstants.{MAX_HEAPS}
use Rattle.hp_external.specs.Creating.{IsCreateFault, IsPlaceFor}
use Rattle.hp_external.specs.Naming.{IsExternalName, IsHeapFault, IsNameFault}
use Rattle.hp_external.specs.declared.fault.AddFault.{AddFault}
use Rattle.hp_external.specs.declared.fault.AddFault.TheVariants as add
use Rattle.hp_external.specs.declared.fault.AttachFault.{AttachFault}
use Rattle.hp_external.specs.declared.fault.AttachFault.TheVariants as attach
use Rattle.hp_external.specs.declared.fault.ChunkFault.{ChunkFault}
use Rattle.hp_external.specs.declared.fault.ChunkFault.TheVariants as chunk
use Rattle.hp_external.specs.declared.fault.CreateFault.{CreateFault}
use Rattle.hp_external.specs.declared.fault.CreateFault.TheVariants as create
use Rattle.hp_external.specs.declared.fault.DestroyFault.{DestroyFault}
use Rattle.hp_external.specs.declared.fault.DestroyFault.TheVariants as destroy
use Rattle.hp_external.specs.declared.fault.DetachFault.{DetachFault}
use Rattle.hp_external.specs.declared.fault.DetachFault.TheVariants as detach
use Rattle.hp_external.specs.declared.fault.NameFault.{NameFault}
use Rattle.hp_external.specs.declared.fault.NameFault.TheVariants as name
use Rattle.hp_external.specs.declared.fault.RemoveFault.{RemoveFault}
use Rattle.hp_external.specs.declared.fault.RemoveFault.TheVariants as remove
use Rattle.hp_script.specs.declared.answer.Answer.{Answer}
use Rattle.hp_script.specs.declared.answer.Answer.TheVariants as answer
use Rattle.hp_script.specs.declared.line.Act.{Act}
use Rattle.hp_script.specs.declared.line.Act.TheVariants as act
use Rattle.hp_zone.specs.Directory.{PlainDirectory}
use Rattle.hp_zone.specs.Zones.{IsZoneName}

-- an act is one of a line on external heaps: it makes one, destroys it, brings memory to it or takes that away, or attaches memory of it or
-- leaves it
abbrev pub IsExternalAct : Act → Type 0
IsExternalAct (act.Heap name) = ⊤
IsExternalAct (act.Unheap name) = ⊤
IsExternalAct (act.Add heap addr len page) = ⊤
IsExternalAct (act.Remove heap addr len) = ⊤
IsExternalAct (act.Map heap addr len) = ⊤
IsExternalAct (act.Unmap heap addr len) = ⊤
IsExternalAct _ = ⊥

-- how a line is answered that makes no heap; where memory ran out it is not
abbrev pub create_said : CreateFault → Option Answer
create_said create.BadName = Some answer.BadName
create_said create.Exists = Some answer.Exists
create_said (create.NoSpace limit) = Some answer.NoSpace
create_said create.OutOfMemory = None

-- how a line is answered whose text names no external heap, and no heap with chunks
abbrev pub name_said : NameFault → Answer
name_said name.BadName = answer.BadName
name_said name.NotFound = answer.NotFound
name_said name.SocketHeap = answer.SocketHeap

abbrev pub chunk_said : ChunkFault → Answer
chunk_said chunk.NotFound = answer.NotFound
chunk_said chunk.NoChunk = answer.NoChunk

abbrev pub made_said : Result ℕ CreateFault → Option Answer
made_said (Ok socket) = Some (answer.Socket socket)
made_said (Err fault) = create_said fault

-- how a line is answered that destroys a heap
abbrev pub destroy_said : Result Unit DestroyFault → Answer
destroy_said (Ok done) = answer.Done
destroy_said (Err destroy.BadName) = answer.BadName
destroy_said (Err destroy.NotFound) = answer.NotFound
destroy_said (Err destroy.SocketHeap) = answer.SocketHeap
destroy_said (Err (destroy.Busy chunks)) = answer.BusyChunks chunks

-- how a line is answered that brings no memory; where memory ran out it is not
abbrev pub add_said : AddFault → Option Answer
add_said add.BadName = Some answer.BadName
add_said add.NotFound = Some answer.NotFound
add_said add.SocketHeap = Some answer.SocketHeap
add_said add.BadRange = Some answer.BadRange
add_said (add.Overlaps row) = Some (answer.Overlaps row.addr)
add_said add.NoSpace = Some answer.NoSpace
add_said add.OutOfMemory = None

module _ {E : Type 0} where
  abbrev pub IsSaid : Option Answer → Result Answer E → Type 0
  IsSaid None (Ok given) = ⊥
  IsSaid None (Err error) = ⊤
  IsSaid (Some said) (Ok given) = given ≡ said
  IsSaid (Some said) (Err error) = ⊥

  -- as the call's outcome says, or not at all
  abbrev pub IsMadeSaid : Result ℕ CreateFault → Result Answer E → Type 0
  IsMadeSaid judged result = IsSaid (made_said judged) result

  abbrev pub IsAddSaid : AddFault → Result Answer E → Type 0
  IsAddSaid fault result = IsSaid (add_said fault) result

-- how a line is answered that takes no memory away
abbrev pub remove_said : RemoveFault → Answer
remove_said remove.BadName = answer.BadName
remove_said remove.NotFound = answer.NotFound
remove_said remove.SocketHeap = answer.SocketHeap
remove_said remove.NoChunk = answer.NoChunk
remove_said (remove.Busy addr) = answer.BusyAddress addr
remove_said (remove.StillAttached participant) = answer.Attached participant

-- how a line is answered that does not attach a chunk, or does not leave it
abbrev pub attach_said : AttachFault → Answer
attach_said attach.NotFound = answer.NotFound
attach_said attach.NoChunk = answer.NoChunk
attach_said attach.Already = answer.Already
attach_said (attach.MapRefused call) = answer.Refused call

abbrev pub detach_said : DetachFault → Answer
detach_said detach.NotFound = answer.NotFound
detach_said detach.NoChunk = answer.NoChunk
detach_said detach.NotAttached = answer.NotAttached
detach_said (detach.InUse addr) = answer.InUse addr

abbrev pub left_said : Result Unit DetachFault → Answer
left_said (Ok done) = answer.Done
left_said (Err fault) = detach_said fault

-- a text names the external heap of that index
pub record IsMeant (plain : PlainDirectory) (text : List ℕ) (index : ℕ) : Type 0 where
  pub socket : ℕ
  pub named : IsExternalName plain text index socket
  pub few : index < MAX_HEAPS

-- and may be the name of one
pub record IsNamedHeap (plain : PlainDirectory) (text : List ℕ) (index : ℕ) : Type 0 where
  pub name : IsZoneName text
  pub meant : IsMeant plain text index

-- an answer is that of a line that makes no heap, of one whose text names no external heap, and of one whose text names no heap with chunks
abbrev pub IsCreateAnswer : PlainDirectory → List ℕ → Answer → Type 0
IsCreateAnswer plain text given = (fault : CreateFault) × (create_said fault ≡ Some given) × IsCreateFault plain text fault

abbrev pub IsNameAnswer : PlainDirectory → List ℕ → Answer → Type 0
IsNameAnswer plain text given = (fault : NameFault) × (given ≡ name_said fault) × IsNameFault plain text fault

abbrev pub IsChunkAnswer : PlainDirectory → List ℕ → Answer → Type 0
IsChunkAnswer plain text given = (fault : ChunkFault) × (given ≡ chunk_said fault) × IsHeapFault plain text fault

-- the heap that a line on external heaps means, by the names: the one that `heap` would make, or the one of its name; or its answer
abbrev pub MeansHeap : (ℕ → Type 0) → (Answer → Type 0) → Result ℕ Answer → Type 0
MeansHeap heap refused (Ok index) = heap index
MeansHeap heap refused (Err given) = refused given

abbrev pub IsHeapMeant : Act → PlainDirectory → Result ℕ Answer → Type 0
IsHeapMeant (act.Heap name) plain = MeansHeap (IsPlaceFor plain name.text) (IsCreateAnswer plain name.text)
IsHeapMeant (act.Unheap name) plain = MeansHeap (IsNamedHeap plain name.text) (IsNameAnswer plain name.text)
IsHeapMeant (act.Add heap addr len page) plain = MeansHeap (IsNamedHeap plain heap.text) (IsNameAnswer plain heap.text)
IsHeapMeant (act.Remove heap addr len) plain = MeansHeap (IsNamedHeap plain heap.text) (IsNameAnswer plain heap.text)
IsHeapMeant (act.Map heap addr len) plain = MeansHeap (IsMeant plain heap.text) (IsChunkAnswer plain heap.text)
IsHeapMeant (act.Unmap heap addr len) plain = MeansHeap (IsMeant plain heap.text) (IsChunkAnswer plain heap.text)
IsHeapMeant _ plain = λ meant. ⊥
