-- How an external heap is made and destroyed: the rule "External heaps" of docs/HEAP.md.
use Rattle.std.specs.Prelude.{◌≡◌, ◌≢◌, ℕ, ◌-◌, ◌^◌, ◌<◌, min, List, length}
use Rattle.hp_base.specs.declared.limits.TheConstants.{MAX_HEAPS}
use Rattle.hp_base.specs.declared.tag.Caller.{Caller}
use Rattle.hp_heap.specs.declared.entry.HeapCall.TheVariants as call
use Rattle.hp_heap.specs.declared.entry.HeapAnswer.TheVariants as answer
use Rattle.hp_heap.specs.History.{HeapView, IsCall}
use Rattle.hp_heap.specs.PlainHeap.{PlainHeap}
use Rattle.hp_zone.specs.Directory.{GivesName, HasPlace, IsLowestUnnamed, IsNotFound, IsUnnamed, PlainDirectory, with_change, with_room}
use Rattle.hp_zone.specs.Zones.{IsZoneName}
use Rattle.hp_zone.specs.declared.name_change.NameChange.TheVariants.{Unnamed}
use Rattle.hp_zone.specs.declared.names.Names.{Names}
use Rattle.hp_external.specs.Naming.{IsExternal, IsExternalName, IsNameFault}
use Rattle.hp_external.specs.declared.fault.CreateFault.{CreateFault}
use Rattle.hp_external.specs.declared.fault.CreateFault.TheVariants as create
use Rattle.hp_external.specs.declared.fault.DestroyFault.{DestroyFault}
use Rattle.hp_external.specs.declared.fault.DestroyFault.TheVariants as destroy
use Rattle.hp_external.specs.declared.fault.NameFault.TheVariants as name

-- a heap is made: its name has 1 to 31 bytes and was no heap's, there was a place for another heap, and it gets the lowest index without
-- a name and the next socket number
pub record Creates (old new : Names) (text : List ℕ) (index socket : ℕ) : Type 0 where
  pub name : IsZoneName text
  pub fresh : IsNotFound old.heaps.plain text
  pub place : HasPlace old.heaps.plain
  pub given : GivesName (with_room old.heaps) new.heaps text index socket
  pub zones : new.zones ≡ old.zones

-- why no heap is made, in the order in which it is judged
abbrev pub IsCreateFault : PlainDirectory → List ℕ → CreateFault → Type 0
IsCreateFault plain text create.BadName = ¬ IsZoneName text
IsCreateFault plain text create.Exists = IsZoneName text × (¬ IsNotFound plain text)
IsCreateFault plain text (create.NoSpace limit) =
    IsZoneName text × IsNotFound plain text × (¬ HasPlace plain) × (limit ≡ MAX_HEAPS)
IsCreateFault plain text create.OutOfMemory = IsZoneName text × IsNotFound plain text × HasPlace plain

-- no index is without a name
abbrev pub AllHaveNames : PlainDirectory → Type 0
AllHaveNames plain = (index : ℕ) → ¬ IsUnnamed plain index

-- the index that a heap of that name would get, where it would be made
pub record IsPlaceFor (plain : PlainDirectory) (text : List ℕ) (index : ℕ) : Type 0 where
  pub name : IsZoneName text
  pub fresh : IsNotFound plain text
  pub place : HasPlace plain
  pub lowest : IsLowestUnnamed plain index
  pub few : index < MAX_HEAPS

-- a heap is destroyed: it had no chunk, and the directory and the heap lose its name
pub record Destroys (caller : Caller) (text : List ℕ) (names names' : Names) (heap heap' : HeapView) : Type 0 where
  pub name : IsZoneName text
  pub socket : ℕ
  pub named : IsExternalName names.heaps.plain text heap.plain.index socket
  pub empty : length heap.plain.chunks ≡ 0
  pub directory : names'.heaps ≡ with_change names.heaps (Unnamed heap.plain.index)
  pub zones : names'.zones ≡ names.zones
  pub unnamed : IsCall caller call.Unname answer.Done heap heap'

-- why a heap is not destroyed, in the order in which it is judged. The number of chunks is given up to the most that has 32 bits
abbrev pub IsDestroyFault : PlainDirectory → List ℕ → PlainHeap → DestroyFault → Type 0
IsDestroyFault plain text heap destroy.BadName = IsNameFault plain text name.BadName
IsDestroyFault plain text heap destroy.NotFound = IsNameFault plain text name.NotFound
IsDestroyFault plain text heap destroy.SocketHeap = IsNameFault plain text name.SocketHeap
IsDestroyFault plain text heap (destroy.Busy chunks) =
    IsZoneName text × IsExternal plain text × (0 < length heap.chunks) × (chunks ≡ min (length heap.chunks) (2 ^ 32 - 1))
