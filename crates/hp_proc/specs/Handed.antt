-- What a participant was handed in its lines, one after another, beside what they show of the log (Seen): the names, the states of external
-- heaps and published statistics, each as a front of what there is at the end.
use Rattle.std.specs.Prelude.{◌≡◌, ℕ, ◌<◌, ◌≤◌, ◌==◌, List, [], ◌∷◌, ◌++◌, filter_map, length, map, take, Option, Some, None, Contains, slice_get, ⊤, if◌then◌else◌}
use Rattle.std.specs.List.{All}
use Rattle.std.specs.List.Sorted.{IsNonDecreasing, IsStrictlyIncreasing}
use Rattle.hp_base.specs.declared.caught.Caught.{Caught}
use Rattle.hp_base.specs.declared.caught.Caught.TheVariants as caught
use Rattle.hp_base.specs.declared.chunk.Chunk.{Chunk}
use Rattle.hp_heap.specs.History.{HeapView, entries_of, opening_of, replay}
use Rattle.hp_heap.specs.Statistics.{statistics_of}
use Rattle.hp_heap.specs.declared.entry.Entry.{Entry}
use Rattle.hp_log.specs.declared.log_record.LogRecord.{LogRecord}
use Rattle.hp_maps.specs.Catching.{IsElsewhere}
use Rattle.hp_maps.specs.Chunks.{rows_of_chunk}
use Rattle.hp_proc.specs.Courses.{call_refused, calls_in}
use Rattle.hp_proc.specs.Doing.{Counted, Done}
use Rattle.hp_proc.specs.Doing.Done.{CaughtUp, ChunkMapped, HeapSeen, NamesChanged, NamesRead, StatsRead}
use Rattle.hp_proc.specs.Histories.{entries_for}
use Rattle.hp_proc.specs.Seen.{IsRefusedRow}
use Rattle.hp_proc.specs.SharedNames.{SharedNames, no_changes, names_with}

-- a list begins with another one
abbrev pub IsFrontOf : {X : Type 0} → List X → List X → Type 0
IsFrontOf whole front = take (length front) whole ≡ front

-- names begin with others: both logs do
pub record AreFrontNames (whole front : SharedNames) : Type 0 where
  pub zones : IsFrontOf whole.zones front.zones
  pub heaps : IsFrontOf whole.heaps front.heaps

-- the names that a trace shows, one after another, after those that were known before: as it reads them, and as its own changes leave them
abbrev pub names_shown : SharedNames → List Done → List SharedNames
names_shown names [] = []
names_shown names (NamesRead read ∷ trace) = read ∷ names_shown read trace
names_shown names (NamesChanged change ∷ trace) = names_with names change ∷ names_shown (names_with names change) trace
names_shown names (_ ∷ trace) = names_shown names trace

-- the names that are shown are fronts of those at the end, in which the participant's own changes stand, and never grow shorter
pub record AreNamesHanded (whole : SharedNames) (shown : List SharedNames) : Type 0 where
  pub fronts : All (AreFrontNames whole) shown
  pub zones : IsNonDecreasing (map (λ names. length names.zones) shown)
  pub heaps : IsNonDecreasing (map (λ names. length names.heaps) shown)

-- the state of the heap with that index, where it was handed: its history until then
abbrev pub state_seen : ℕ → Done → Option (List Entry)
state_seen heap (HeapSeen index history) = if index == heap then Some history else None
state_seen heap _ = None

-- the statistics of the heap with that index, where they were read
abbrev pub counted_read : ℕ → Done → Option Counted
counted_read heap (StatsRead index counted) = if index == heap then Some counted else None
counted_read heap _ = None

-- this was done at some time, after the first part of a trace
abbrev pub ComesAfter : List Done → List Done → Done → Type 0
ComesAfter trace first done = (rest : List Done) × (trace ≡ first ++ done ∷ rest)

-- the states of a heap that a participant was handed: each is what a front of the history leaves, in which the participant's own calls are
-- those that it had made, and they never grow shorter
pub record AreStatesHanded (who : ℕ) (trace : List Done) (heap : HeapView) : Type 0 where
  pub fronts : All (IsFrontOf heap.history) (filter_map (state_seen heap.plain.index) trace)
  pub rising : IsNonDecreasing (map length (filter_map (state_seen heap.plain.index) trace))
  pub own : (first : List Done) (history : List Entry) → ComesAfter trace first (HeapSeen heap.plain.index history)
      → entries_of who history ≡ entries_for who heap.plain.index 1 (calls_in first)

-- so many entries of a history hold the first calls of a participant, as many as were made over all heaps
abbrev pub HoldCalls : List Entry → ℕ → ℕ → ℕ → Type 0
HoldCalls history entries who calls = (place : ℕ) (entry : Entry) → slice_get history place ≡ Some entry
    → entry.caller.participant ≡ who → entry.caller.number ≤ calls → place < entries

-- the statistics are those of the heap after so many entries of its history
pub record AreStatisticsOf (heap : HeapView) (counted : Counted) : Type 0 where
  pub within : counted.entries ≤ length heap.history
  pub stats : counted.stats ≡ statistics_of (replay (opening_of heap.plain) (take counted.entries heap.history))

-- the statistics of a heap that a participant read: each after a front of the history, which holds the calls that the participant had made,
-- and the fronts never grow shorter
pub record AreStatsHanded (who : ℕ) (trace : List Done) (heap : HeapView) : Type 0 where
  pub fronts : All (AreStatisticsOf heap) (filter_map (counted_read heap.plain.index) trace)
  pub rising : IsNonDecreasing (map (λ counted. counted.entries) (filter_map (counted_read heap.plain.index) trace))
  pub own : (first : List Done) (counted : Counted) → ComesAfter trace first (StatsRead heap.plain.index counted)
      → HoldCalls heap.history counted.entries who (length (calls_in first))

-- the numbers of the mapping calls that failed, for pages of the log and of chunks alike
abbrev pub calls_failed : List Done → List ℕ
calls_failed [] = []
calls_failed (CaughtUp to ended ∷ trace) = call_refused ended ++ calls_failed trace
calls_failed (ChunkMapped chunk ended ∷ trace) = call_refused ended ++ calls_failed trace
calls_failed (_ ∷ trace) = calls_failed trace

-- where the mapping of a chunk failed, the row is one of the chunk's
abbrev pub IsRowOfChunk : Chunk → Caught → Type 0
IsRowOfChunk chunk caught.Done = ⊤
IsRowOfChunk chunk (caught.Refused row number) = Contains (rows_of_chunk chunk) row
IsRowOfChunk chunk (caught.Elsewhere row number got) = Contains (rows_of_chunk chunk) row × IsElsewhere row got

abbrev pub IsFailureOfItsRow : List LogRecord → Done → Type 0
IsFailureOfItsRow log (ChunkMapped chunk ended) = IsRowOfChunk chunk ended
IsFailureOfItsRow log done = IsRefusedRow log done

-- the mappings of a participant that failed: each is of a row of the log or of a chunk, by a mapping call of its own, whose numbers rise
-- from 1
pub record AreOwnFailures (log : List LogRecord) (trace : List Done) : Type 0 where
  pub rows : All (IsFailureOfItsRow log) trace
  pub some : All (λ number. 0 < number) (calls_failed trace)
  pub rising : IsStrictlyIncreasing (calls_failed trace)

-- what a participant was handed of the names and of the heaps; of their statistics, that is HaveStatistics
pub record AreHanded (names : SharedNames) (heaps : List HeapView) (who : ℕ) (trace : List Done) : Type 0 where
  pub shown : AreNamesHanded names (names_shown no_changes trace)
  pub states : All (AreStatesHanded who trace) heaps
