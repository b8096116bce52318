-- What participants see of the names, and what may be given in place of names that were taken: the rules "What a hall shows" and "Giving"
-- of docs/HALLS.md.
use Rattle.std.specs.Prelude.{◌≡◌, ℕ, List, ◌++◌, Contains}
use Rattle.hp_base.specs.declared.request.Request.{Request}
use Rattle.hp_base.specs.declared.tag.Tag.{Tag}
use Rattle.hp_heap.specs.declared.entry.Entry.{Entry}
use Rattle.hp_heap.specs.declared.entry.HeapAnswer.TheVariants as answer
use Rattle.hp_heap.specs.declared.entry.HeapCall.TheVariants as call
use Rattle.hp_zone.specs.declared.name_change.NameChange.{NameChange}
use Rattle.hp_zone.specs.declared.names.Names.{Names as NamesView}
use Rattle.hp_zone.specs.declared.zone.Zone.{Zone}
use Rattle.hp_zone.specs.declared.zone.ZoneChange.{ZoneChange}
use Rattle.hp_zone.specs.declared.zone.ZoneChange.TheVariants.{Put}

-- what was seen of the names: the sockets with which the directory was opened, and all changes of memzones and of the directory
pub record NamesSeen : Type 0 where
  pub sockets : List ℕ
  pub zones : List ZoneChange
  pub heaps : List NameChange

-- what a value has of that
abbrev pub seen_of_names : NamesView → NamesSeen
seen_of_names names = record { sockets = names.heaps.sockets; zones = names.zones.log; heaps = names.heaps.log }

-- names later on: the sockets are the same, and both logs begin with the earlier ones
pub record NamesGoOn (old new : NamesSeen) : Type 0 where
  pub sockets : new.sockets ≡ old.sockets
  pub more_zones : List ZoneChange
  pub zones : new.zones ≡ old.zones ++ more_zones
  pub more_heaps : List NameChange
  pub heaps : new.heaps ≡ old.heaps ++ more_heaps

-- an entry is one of an allocation that was answered this address
pub record IsAllocationAt (addr : ℕ) (entry : Entry) : Type 0 where
  pub request : Request
  pub tag : Tag
  pub asked : entry.call ≡ call.Alloc request tag
  pub answered : entry.answer ≡ answer.Address addr

-- an allocation among these entries was answered this address
pub record IsAllocated (addr : ℕ) (entries : List Entry) : Type 0 where
  pub entry : Entry
  pub there : Contains entries entry
  pub at : IsAllocationAt addr entry

-- names may be given in place of the taken ones: their logs go on from those of the taken ones, and each zone that came in lies where an
-- allocation of the giver in the zone's heap was answered, as far as its entries were given back
pub record GivesNames (entries : ℕ → List Entry) (taken given : NamesView) : Type 0 where
  pub goes_on : NamesGoOn (seen_of_names taken) (seen_of_names given)
  pub allocated : (zone : Zone) → Contains goes_on.more_zones (Put zone) → IsAllocated zone.addr (entries zone.heap)
