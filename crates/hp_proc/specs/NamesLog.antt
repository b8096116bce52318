-- The logs of the names' changes, as hp_heap's histories are those of heaps: whose changes they hold, and that each could come after those
-- before it: the rules "Memzones" and "The directory of heaps" of docs/HEAP.md.
use Rattle.std.specs.Prelude.{◌≡◌, ℕ, ◌^◌, ◌<◌, ◌≤◌, List, [], ◌∷◌, ◌++◌, flat_map, length, map, Option, Some, None, slice_get}
use Rattle.std.specs.List.{enumerate_from, range_with_len}
use Rattle.std.specs.List.Sorted.{IsPermutation}
use Rattle.hp_script.specs.declared.workload.Workload.{Workload}
use Rattle.hp_zone.specs.Directory.{HasRange, HasSocketHeaps, IsLowestUnnamed, IsNamed, IsNotFound, MayRemove, PlainDirectory, directory_at}
use Rattle.hp_zone.specs.Zones as memzones
use Rattle.hp_zone.specs.declared.heap_name.HeapName.{HeapName}
use Rattle.hp_zone.specs.declared.limits.TheConstants.{FIRST_EXTERNAL_SOCKET, MAX_ZONES}
use Rattle.hp_zone.specs.declared.name_change.NameChange.{NameChange}
use Rattle.hp_zone.specs.declared.name_change.NameChange.TheVariants.{Named, Range, RangeGone, Unnamed}
use Rattle.hp_zone.specs.declared.zone.Zone.{Zone}
use Rattle.hp_zone.specs.declared.zone.ZoneChange.{ZoneChange}
use Rattle.hp_zone.specs.declared.zone.ZoneChange.TheVariants.{Gone, Put}
use Rattle.hp_proc.specs.Doing.{Done}
use Rattle.hp_proc.specs.Doing.Done.{NamesChanged, NamesRead}
use Rattle.hp_proc.specs.Heaps.{sockets_of}
use Rattle.hp_proc.specs.SharedNames.{NamesChange, SharedNames, names_with, no_changes}
use Rattle.hp_proc.specs.SharedNames.NamesChange.{OfHeaps, OfZones}

-- a heap may get a name of 1 to 31 bytes that no heap has, at the lowest index without one and with the next socket number
pub record MayBeNamed (plain : PlainDirectory) (index socket : ℕ) (text : List ℕ) : Type 0 where
  pub short : memzones.IsZoneName text
  pub lowest : IsLowestUnnamed plain index
  pub next : socket ≡ plain.next
  pub low : socket < 2 ^ 32
  pub fresh : IsNotFound plain text

-- an external heap has that index
pub record IsExternalAt (plain : PlainDirectory) (index : ℕ) : Type 0 where
  pub heap : HeapName
  pub named : IsNamed plain index heap
  pub external : FIRST_EXTERNAL_SOCKET ≤ heap.socket

-- a change may come to a directory: a heap is named; an external heap without memory loses its name; memory comes to an external heap; or
-- memory goes that it has
abbrev pub MayCome : PlainDirectory → NameChange → Type 0
MayCome plain (Named index socket text) = MayBeNamed plain index socket text
MayCome plain (Unnamed index) = MayRemove plain index
MayCome plain (Range index addr len page) = IsExternalAt plain index
MayCome plain (RangeGone index addr) = HasRange plain index addr

-- a memzone may be put: its name may be one, and no memzone has it, and there is a place
pub record MayBePut (zones : List Zone) (zone : Zone) : Type 0 where
  pub name : memzones.IsZoneName zone.name
  pub fresh : memzones.IsNotFound zones zone.name
  pub place : length zones < MAX_ZONES

-- a change may come to memzones: one is put, or one goes that is there
abbrev pub MayComeTo : List Zone → ZoneChange → Type 0
MayComeTo zones (Put zone) = MayBePut zones zone
MayComeTo zones (Gone text) = (zone : Zone) × memzones.IsFound zones text zone

-- the change of the names that was made, where one was
abbrev pub change_made : Done → Option NamesChange
change_made (NamesChanged change) = Some change
change_made _ = None

-- the place of the next change in its log
abbrev pub place_of : SharedNames → NamesChange → ℕ
place_of names (OfZones change) = length names.zones
place_of names (OfHeaps change) = length names.heaps

-- the changes that a trace makes, each with its place in its log: after the names that were read last, and what was changed since
abbrev pub changes_from : SharedNames → List Done → List (ℕ × NamesChange)
changes_from names [] = []
changes_from names (NamesRead read ∷ trace) = changes_from read trace
changes_from names (NamesChanged change ∷ trace) = (place_of names change, change) ∷ changes_from (names_with names change) trace
changes_from names (_ ∷ trace) = changes_from names trace

-- those that so many participants made
abbrev pub changes_made : ℕ → (ℕ → List Done) → List (ℕ × NamesChange)
changes_made participants did = flat_map (λ who. changes_from no_changes (did who)) (range_with_len 0 participants)

-- those that the logs have, each with its place
abbrev pub changes_in : SharedNames → List (ℕ × NamesChange)
changes_in names = map (λ entry. (entry.0, OfZones entry.1)) (enumerate_from 0 names.zones)
    ++ map (λ entry. (entry.0, OfHeaps entry.1)) (enumerate_from 0 names.heaps)

-- the changes of the names are those that the participants made and no others, each at its place in its log, so that no change stands for
-- those of two lines; and whatever stood there so far, each socket has its heap
pub record AreChangesOf (workload : Workload) (did : ℕ → List Done) (names : SharedNames) : Type 0 where
  pub made : IsPermutation (changes_made workload.participants did) (changes_in names)
  pub sockets : (front : ℕ) → HasSocketHeaps (sockets_of workload.pools.items)
      (directory_at (sockets_of workload.pools.items) names.heaps front)
