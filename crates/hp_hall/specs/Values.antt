-- The values that slots keep, and what a taker learns of them: the rule "What a hall shows" of docs/HALLS.md.
use Rattle.std.specs.Prelude.{◌≡◌, ℕ, ◌<◌, ◌≤◌, Bool, List, [], length, ⊤}
use Rattle.hp_base.specs.declared.chunk.Chunk.{Chunk}
use Rattle.hp_base.specs.declared.limits.TheConstants.{MAX_HEAPS}
use Rattle.hp_heap.specs.declared.entry.Entry.{Entry}
use Rattle.hp_heap.specs.History as heaps
use Rattle.hp_heap.specs.History.{entries_of}
use Rattle.hp_log.specs.declared.log_record.LogRecord.{LogRecord}
use Rattle.hp_segs.specs.SegsView.{is_member}
use Rattle.hp_segs.specs.Sound as segments
use Rattle.hp_segs.specs.declared.outcome.AskLog.{AskLog}
use Rattle.hp_zone.specs.Directory.{IsDirectory}
use Rattle.hp_zone.specs.Zones.{IsZones}
use Rattle.hp_stats.specs.Pairs.{no_pair}
use Rattle.hp_stats.specs.declared.stat_pair.StatPair.{StatPair}
use Rattle.hp_hall.specs.HeapPairs.{ArePairsOf, pair_of}
use Rattle.hp_hall.specs.Holding.{HeapPart, IsClaimedFor}
use Rattle.hp_hall.specs.Named.{NamesSeen, seen_of_names}
use Rattle.hp_hall.specs.Naming.{marked_by}
use Rattle.hp_hall.specs.declared.kept.Kept.{Kept}
use Rattle.hp_hall.specs.declared.kept.Kept.TheVariants.{Heap, Names, Segments}
use Rattle.hp_hall.specs.declared.slot.TheConstants.{NAMES_SLOT}

abbrev pub IsHeap : Kept → Type 0
IsHeap (Heap heap pen) = ⊤
IsHeap (Segments segs) = ⊥
IsHeap (Names names) = ⊥

abbrev pub IsSegments : Kept → Type 0
IsSegments (Heap heap pen) = ⊥
IsSegments (Segments segs) = ⊤
IsSegments (Names names) = ⊥

abbrev pub IsNames : Kept → Type 0
IsNames (Heap heap pen) = ⊥
IsNames (Segments segs) = ⊥
IsNames (Names names) = ⊤

-- the value is one of the slot with that number: the heap of that index, the segment value, or the names
abbrev pub Fits : ℕ → Kept → Type 0
Fits number (Heap heap pen) = (heap.plain.index ≡ number) × (number < MAX_HEAPS)
Fits number (Segments segs) = number ≡ MAX_HEAPS
Fits number (Names names) = number ≡ NAMES_SLOT

-- a heap is tiled by its elements, its free lists are exact, and it stands for its history; a segment value is sound; and of names the logs
-- leave zones and directory
abbrev pub IsSoundKept : Kept → Type 0
IsSoundKept (Heap heap pen) = heaps.IsSound heap
IsSoundKept (Segments segs) = segments.IsSound segs
IsSoundKept (Names names) = IsZones names.zones × IsDirectory names.heaps

-- what was published of a heap are pairs of it
abbrev pub HasPairs : Kept → Type 0
HasPairs (Heap heap pen) = ArePairsOf heap pen
HasPairs (Segments segs) = ⊤
HasPairs (Names names) = ⊤

-- the pair of a heap, and zeros of another value
abbrev pub pair_in : Kept → StatPair
pair_in (Heap heap pen) = pair_of heap
pair_in (Segments segs) = no_pair
pair_in (Names names) = no_pair

-- the statistics that were shown of a heap count all its entries at least
abbrev pub HasShown : (ℕ → ℕ) → Kept → Type 0
HasShown shown (Heap heap pen) = length heap.history ≤ shown heap.plain.index
HasShown shown (Segments segs) = ⊤
HasShown shown (Names names) = ⊤

-- the history of a heap
abbrev pub history_of : Kept → List Entry
history_of (Heap heap pen) = heap.history
history_of (Segments segs) = []
history_of (Names names) = []

-- the chunks of a heap that have a participant's mark
abbrev pub marks_of : ℕ → Kept → List Chunk
marks_of who (Heap heap pen) = marked_by who heap.plain
marks_of who (Segments segs) = []
marks_of who (Names names) = []

-- the chunks of a heap
abbrev pub chunks_of : Kept → List Chunk
chunks_of (Heap heap pen) = heap.plain.chunks
chunks_of (Segments segs) = []
chunks_of (Names names) = []

-- what was seen of the log stays where no segment value is given
abbrev pub SeesAsBefore : Kept → List LogRecord → List LogRecord → Type 0
SeesAsBefore (Heap heap pen) old new = new ≡ old
SeesAsBefore (Segments segs) old new = ⊤
SeesAsBefore (Names names) old new = new ≡ old

-- the log of a segment value
abbrev pub log_of : Kept → List LogRecord
log_of (Heap heap pen) = []
log_of (Segments segs) = segs.log
log_of (Names names) = []

-- the outcomes of a segment value
abbrev pub asks_of : Kept → List AskLog
asks_of (Heap heap pen) = []
asks_of (Segments segs) = segs.asks
asks_of (Names names) = []

-- a heap has of a participant the entries that it made there
abbrev pub HasEntries : ℕ → (ℕ → HeapPart) → Kept → Type 0
HasEntries who part (Heap heap pen) = entries_of who heap.history ≡ (part heap.plain.index).entries
HasEntries who part (Segments segs) = ⊤
HasEntries who part (Names names) = ⊤

-- the chunks of a heap that have a participant's mark are those which it knows
abbrev pub HasMarks : ℕ → (ℕ → HeapPart) → Kept → Type 0
HasMarks who part (Heap heap pen) = marked_by who heap.plain ≡ (part heap.plain.index).marked
HasMarks who part (Segments segs) = ⊤
HasMarks who part (Names names) = ⊤

-- a segment value has the log that was seen
abbrev pub HasLog : List LogRecord → Kept → Type 0
HasLog seen (Heap heap pen) = ⊤
HasLog seen (Segments segs) = segs.log ≡ seen
HasLog seen (Names names) = ⊤

-- a segment value has the outcomes that were heard
abbrev pub HasAsks : List AskLog → Kept → Type 0
HasAsks heard (Heap heap pen) = ⊤
HasAsks heard (Segments segs) = segs.asks ≡ heard
HasAsks heard (Names names) = ⊤

-- names have what was seen of them
abbrev pub HasNames : NamesSeen → Kept → Type 0
HasNames named (Heap heap pen) = ⊤
HasNames named (Segments segs) = ⊤
HasNames named (Names names) = seen_of_names names ≡ named

-- a segment value has a participant in its roster, or has it not, as that knows
abbrev pub HasMember : ℕ → Bool → Kept → Type 0
HasMember who joined (Heap heap pen) = ⊤
HasMember who joined (Segments segs) = is_member segs.roster who ≡ joined
HasMember who joined (Names names) = ⊤

-- whether a participant is in the roster after a give of its own
abbrev pub joined_after : ℕ → Kept → Bool → Bool
joined_after who (Heap heap pen) joined = joined
joined_after who (Segments segs) joined = is_member segs.roster who
joined_after who (Names names) joined = joined

-- what was granted to a participant's ask for a heap, as far as it has heard, the heap has claimed
abbrev pub HasClaimed : List AskLog → (ℕ → HeapPart) → Kept → Type 0
HasClaimed heard part (Heap heap pen) = IsClaimedFor heap.plain.index heard (part heap.plain.index)
HasClaimed heard part (Segments segs) = ⊤
HasClaimed heard part (Names names) = ⊤
