-- What comes of the names, of a heap and of the segment value where participants reserve and free memzones.
use Rattle.std.specs.Prelude.{◌≡◌, ℕ, ◌+◌, ◌==◌, List, [], ◌∷◌, ◌++◌, Contains, map, length, if◌then◌else◌}
use Rattle.std.specs.List.Sorted.{IsPermutation}
use Rattle.hp_base.specs.declared.request.Request.{Request}
use Rattle.hp_base.specs.declared.tag.Tag.{Tag}
use Rattle.hp_heap.specs.History.{HeapView}
use Rattle.hp_heap.specs.HistoryLaws.{runs_cut, runs_grown}
use Rattle.hp_heap.specs.PlainHeap.{data_address}
use Rattle.hp_heap.specs.declared.entry.Entry.{Entry}
use Rattle.hp_heap.specs.declared.entry.HeapAnswer.TheVariants as answer
use Rattle.hp_heap.specs.declared.entry.HeapCall.TheVariants as call
use Rattle.hp_segs.specs.Moved.{IsMovedBy, is_range_call}
use Rattle.hp_segs.specs.SegsView.{SegsView}
use Rattle.hp_segs.specs.declared.external_range.ExternalRange.{ExternalRange}
use Rattle.hp_zone.specs.declared.name_change.NameChange.{NameChange}
use Rattle.hp_zone.specs.declared.names.Names.{Names as NamesView}
use Rattle.hp_zone.specs.declared.zone.Zone.{Zone}
use Rattle.hp_zone.specs.declared.zone.ZoneChange.TheVariants.{Gone, Put}
use Rattle.hp_hall.specs.AgreedNames.{AreAgreedNames}
use Rattle.hp_hall.specs.Giving.{IsNumbered}
use Rattle.hp_hall.specs.Naming.{MarksStayBut, Naming, naming_of}

-- what the names speak of, of each heap, with another of these for the heap of one index
abbrev pub with_naming : ℕ → Naming → (ℕ → Naming) → ℕ → Naming
with_naming at naming namings index = if index == at then naming else namings index

-- to the names a heap has one more element of a memzone, with its data at that address; all else that they speak of is as it was
pub record HasOneMore (addr : ℕ) (fewer more : Naming) : Type 0 where
  pub name : more.name ≡ fewer.name
  pub socket : more.socket ≡ fewer.socket
  pub chunks : more.chunks ≡ fewer.chunks
  pub zones : IsPermutation (map data_address more.zones) (addr ∷ map data_address fewer.zones)

-- a heap came to be another by calls of a participant that had made so many entries before and has made so many after; no page and no run
-- came or went, and of the marks on chunks none but the participant's own have changed
pub record HasCalls (who before after : ℕ) (taken given : HeapView) : Type 0 where
  pub index : given.plain.index ≡ taken.plain.index
  pub serves : given.plain.serves ≡ taken.plain.serves
  pub own : List Entry
  pub history : given.history ≡ taken.history ++ own
  pub numbered : IsNumbered who before own
  pub count : after ≡ before + length own
  pub pages : given.plain.pages ≡ taken.plain.pages
  pub grown : runs_grown given.history ≡ runs_grown taken.history
  pub cut : runs_cut given.history ≡ runs_cut taken.history
  pub marks : MarksStayBut who taken.plain given.plain

-- and all that the names speak of is as it was
pub record HasCallsBeside (who before after : ℕ) (taken given : HeapView) : Type 0 where
  pub calls : HasCalls who before after taken given
  pub named : naming_of given.plain ≡ naming_of taken.plain

-- one call, an allocation for a memzone, was answered that address
pub record HasReserved (who made addr : ℕ) (taken given : HeapView) : Type 0 where
  pub calls : HasCalls who made (made + 1) taken given
  pub request : Request
  pub tag : Tag
  pub entry : calls.own
      ≡ record { caller = record { participant = who; number = made + 1 }; call = call.Alloc request tag; answer = answer.Address addr } ∷ []
  pub more : HasOneMore addr (naming_of taken.plain) (naming_of given.plain)

-- the element of a memzone at that address was found and freed
pub record HasFreed (who made addr : ℕ) (taken given : HeapView) : Type 0 where
  pub calls : HasCalls who made (made + 2) taken given
  pub more : HasOneMore addr (naming_of given.plain) (naming_of taken.plain)

-- names came to be others by changes of the directory, and no zone came or went
pub record HaveHeaps (taken given : NamesView) : Type 0 where
  pub zones : given.zones.log ≡ taken.zones.log
  pub sockets : given.heaps.sockets ≡ taken.heaps.sockets
  pub more : List NameChange
  pub heaps : given.heaps.log ≡ taken.heaps.log ++ more

-- a zone of heap 1 at that address was put, and nothing else of the names has changed
pub record HasPut (addr : ℕ) (taken given : NamesView) : Type 0 where
  pub zone : Zone
  pub at : zone.addr ≡ addr
  pub heap : zone.heap ≡ 1
  pub zones : given.zones.zones ≡ taken.zones.zones ++ zone ∷ []
  pub log : given.zones.log ≡ taken.zones.log ++ Put zone ∷ []
  pub heaps : given.heaps ≡ taken.heaps

-- a zone of heap 1 at that address went from between others, and nothing else of the names has changed
pub record HasGone (addr : ℕ) (taken given : NamesView) : Type 0 where
  pub zone : Zone
  pub at : zone.addr ≡ addr
  pub heap : zone.heap ≡ 1
  pub front : List Zone
  pub back : List Zone
  pub were : taken.zones.zones ≡ front ++ zone ∷ back
  pub are : given.zones.zones ≡ front ++ back
  pub log : given.zones.log ≡ taken.zones.log ++ Gone zone.name ∷ []
  pub heaps : given.heaps ≡ taken.heaps

-- external memory was claimed, what was claimed is claimed still, and nothing else of the segment value has changed
pub record HasClaimed (taken given : SegsView) : Type 0 where
  pub moved : IsMovedBy is_range_call 0 taken given
  pub still : (range : ExternalRange) → Contains taken.ranges range → Contains given.ranges range
  pub log : given.log ≡ taken.log
  pub armed : given.armed ≡ taken.armed

-- names which agreed with all heaps and with the claimed external memory do so still, where names and one heap came to be others and other memory
-- is claimed
abbrev pub AgreeStill : HeapView → HeapView → NamesView → NamesView → List ExternalRange → List ExternalRange → Type 0
AgreeStill heap given names named claims claimed = (namings : ℕ → Naming) → namings heap.plain.index ≡ naming_of heap.plain
    → AreAgreedNames names namings claims → AreAgreedNames named (with_naming heap.plain.index (naming_of given.plain) namings) claimed
