-- The names that participants share, as lines are handed them and change them: the rules "Memzones" and "The directory of heaps" of
-- docs/HEAP.md.
use Rattle.std.specs.Prelude.{ℕ, ◌^◌, Bool, ◌&&◌, nat_le, nat_lt, List, [], ◌∷◌, ◌++◌, length, find, filter_map, Option, Some, None, is_none, is_some, if◌then◌else◌}
use Rattle.std.specs.List.{range_with_len}
use Rattle.std.specs.Option.{option_map_or}
use Rattle.hp_base.specs.declared.limits.TheConstants.{MAX_HEAPS}
use Rattle.hp_base.specs.declared.pool_line.PoolLine.{PoolLine}
use Rattle.hp_zone.specs.Directory.{PlainDirectory, directory_after, heap_at, opening}
use Rattle.hp_zone.specs.Zones as memzones
use Rattle.hp_zone.specs.declared.heap_name.HeapName.{HeapName}
use Rattle.hp_zone.specs.declared.limits.TheConstants.{FIRST_EXTERNAL_SOCKET, MAX_ZONE_NAME}
use Rattle.hp_zone.specs.declared.name_change.NameChange.{NameChange}
use Rattle.hp_zone.specs.declared.zone.Zone.{Zone}
use Rattle.hp_zone.specs.declared.zone.ZoneChange.{ZoneChange}
use Rattle.hp_proc.specs.Heaps.{NamedHeap, has_name, sockets_of}

-- the names that are shared, by all their changes so far, which leave them: those of the memzones and those of the directory of heaps
pub record SharedNames : Type 0 where
  pub zones : List ZoneChange
  pub heaps : List NameChange

-- a change of the names: of the memzones, or of the directory of heaps
pub data NamesChange : Type 0 where
  OfZones : ZoneChange → NamesChange
  OfHeaps : NameChange → NamesChange

-- the names with which a run begins: nothing has changed
abbrev pub no_changes : SharedNames
no_changes = record { zones = []; heaps = [] }

-- the names after one change more
abbrev pub names_with : SharedNames → NamesChange → SharedNames
names_with names (OfZones change) = record names { zones = names.zones ++ change ∷ [] }
names_with names (OfHeaps change) = record names { heaps = names.heaps ++ change ∷ [] }

-- the memzones, in the order of their reservation
abbrev pub zones_in : SharedNames → List Zone
zones_in names = memzones.zones_after [] names.zones

-- the memzone of a name
abbrev pub zone_named : List ℕ → SharedNames → Option Zone
zone_named text names = find (memzones.has_name text) (zones_in names)

-- the directory of heaps, which opens with those of the sockets that pool lines name
abbrev pub directory_in : List PoolLine → SharedNames → PlainDirectory
directory_in pools names = directory_after (opening (sockets_of pools)) names.heaps

-- whose pages the heap with a socket number takes: those of that socket, or nobody's, where its memory is external
abbrev pub served_by : ℕ → Option ℕ
served_by socket = if nat_lt socket FIRST_EXTERNAL_SOCKET then Some socket else None

-- the heap of an index, where it has a name
abbrev pub named_at : ℕ → Option HeapName → Option NamedHeap
named_at index None = None
named_at index (Some heap) = Some (record { index = index; name = heap.name; serves = served_by heap.socket })

-- the heaps that have a name, by rising index
unfoldable pub heaps_in : PlainDirectory → List NamedHeap
heaps_in plain = filter_map (λ index. named_at index (heap_at plain index)) (range_with_len 0 MAX_HEAPS)

-- the socket number of the heap of an index, where it has a name
abbrev pub socket_at : PlainDirectory → ℕ → ℕ
socket_at plain index = option_map_or (λ heap. heap.socket) (heap_at plain index) 0

-- a text may be the name of a heap, or of a memzone
abbrev pub is_short_name : List ℕ → Bool
is_short_name text = nat_le 1 (length text) && nat_le (length text) MAX_ZONE_NAME

-- what a text means to a line that needs an external heap, in the order in which that is judged: it is no name for a heap, or no heap has
-- it, or it is that of a socket's heap, or that of the external heap with this index and this socket number
pub data HeapMeant : Type 0 where
  NoName : HeapMeant
  NoHeap : HeapMeant
  OfSocket : HeapMeant
  External : ℕ → ℕ → HeapMeant

abbrev pub heap_meant : PlainDirectory → Option NamedHeap → HeapMeant
heap_meant plain None = NoHeap
heap_meant plain (Some heap) = if is_some heap.serves then OfSocket else External heap.index (socket_at plain heap.index)

-- by what the directory says of it; and where a text may be no name besides
abbrev pub meant_in : List ℕ → PlainDirectory → HeapMeant
meant_in text plain = heap_meant plain (find (has_name text) (heaps_in plain))

abbrev pub meant_by : List ℕ → PlainDirectory → HeapMeant
meant_by text plain = if is_short_name text then meant_in text plain else NoName

-- the index that another heap would get: the lowest one without a name, as long as there are socket numbers
unfoldable pub next_index : PlainDirectory → Option ℕ
next_index plain =
    if nat_lt plain.next (2 ^ 32) then find (λ index. is_none (heap_at plain index)) (range_with_len 0 MAX_HEAPS) else None
