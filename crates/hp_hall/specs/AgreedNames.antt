-- What names say of heaps and of external memory where they agree with them: the rule "Agreed names" of docs/HALLS.md and docs/BOARD.md.
use Rattle.std.specs.Prelude.{◌≡◌, ◌⊎◌, ℕ, ◌<◌, ◌==◌, Contains, List, map, filter, Option}
use Rattle.std.specs.List.{All, flat_map, range_with_len}
use Rattle.std.specs.List.Sorted.{IsPermutation}
use Rattle.std.specs.Option.{option_map}
use Rattle.hp_base.specs.declared.chunk.Chunk.{Chunk}
use Rattle.hp_base.specs.declared.limits.TheConstants.{MAX_HEAPS}
use Rattle.hp_heap.specs.PlainHeap.{data_address}
use Rattle.hp_segs.specs.declared.external_range.ExternalRange.{ExternalRange}
use Rattle.hp_zone.specs.Directory.{heap_at}
use Rattle.hp_zone.specs.declared.heap_name.HeapName.{HeapName}
use Rattle.hp_zone.specs.declared.heap_name.HeapRange.{HeapRange}
use Rattle.hp_zone.specs.declared.names.Names.{Names as NamesView}
use Rattle.hp_hall.specs.Naming.{Naming}

-- what a directory has to say of a heap: its name and its socket number, or nothing where it has no name
abbrev pub directory_name : Naming → Option HeapName
directory_name naming = option_map (λ name. record { name = name; socket = naming.socket }) naming.name

-- the range that a directory has for a chunk of the heap of an index
abbrev pub directory_range : ℕ → Chunk → HeapRange
directory_range index chunk = record { index = index; addr = chunk.addr; len = chunk.len; page = chunk.page }

-- the external memory that a segment value has for a chunk
abbrev pub chunk_memory : Chunk → ExternalRange
chunk_memory chunk = record { list = chunk.list; addr = chunk.addr; len = chunk.len; page = chunk.page; socket = chunk.socket }

-- Names agree with what they speak of, of the heap of an index: the directory has the heap's name and socket number, or nothing where the heap
-- has no name; its ranges at that index are those of the heap's chunks; and the zones of that index lie at the data addresses of the heap's
-- elements of memzones. Ranges and zones may be in another order.
pub record IsNamedBy (names : NamesView) (index : ℕ) (naming : Naming) : Type 0 where
  pub name : heap_at names.heaps.plain index ≡ directory_name naming
  pub ranges : IsPermutation (filter (λ range. range.index == index) names.heaps.plain.ranges) (map (directory_range index) naming.chunks)
  pub zones : IsPermutation (map (λ zone. zone.addr) (filter (λ zone. zone.heap == index) names.zones.zones)) (map data_address naming.zones)

-- Names agree with all heaps, where these are what they speak of, and with the external memory that is claimed: they agree with each heap, say
-- nothing of what is no heap, and the claimed memory is that of the heaps' chunks, in some order.
pub record AreAgreedNames (names : NamesView) (namings : ℕ → Naming) (claimed : List ExternalRange) : Type 0 where
  pub each : (index : ℕ) → index < MAX_HEAPS → IsNamedBy names index (namings index)
  pub zones : All (λ zone. zone.heap < MAX_HEAPS) names.zones.zones
  pub ranges : All (λ range. range.index < MAX_HEAPS) names.heaps.plain.ranges
  pub claims : IsPermutation (flat_map (λ index. map chunk_memory (namings index).chunks) (range_with_len 0 MAX_HEAPS)) claimed

-- A chunk's memory is claimed; or nobody has the chunk attached, and its heap is in the hand of who has the names: that one releases the memory
-- before it gives the heap back without the chunk.
abbrev pub IsClaimedOr : Type 0 → List ExternalRange → Chunk → Type 0
IsClaimedOr in_hand claims chunk = Contains claims (chunk_memory chunk) ⊎ ((chunk.attached ≡ 0) × in_hand)

-- and so is the memory of each chunk of a heap
abbrev pub AreClaimedOr : Type 0 → List ExternalRange → List Chunk → Type 0
AreClaimedOr in_hand claims chunks = (chunk : Chunk) → Contains chunks chunk → IsClaimedOr in_hand claims chunk
