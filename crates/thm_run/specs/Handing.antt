-- What a run leaves of what its lines registered, and what they were answered of statistics: the rules "Ending" and "Together" of docs/RUNS.md.
use Rattle.std.specs.Prelude.{◌≡◌, ℕ, List, [], ◌∷◌, ◌++◌, filter_map, length, map, Some, slice_get, ⊤}
use Rattle.std.specs.List.{All}
use Rattle.hp_base.specs.Telling.{Listener}
use Rattle.hp_base.specs.declared.limits.TheConstants.{MAX_HEAPS}
use Rattle.hp_events.specs.Watchers.{WatchersView}
use Rattle.hp_heap.specs.History.{HeapView}
use Rattle.hp_maps.specs.declared.table.Table.{Table}
use Rattle.hp_plain.specs.Course.{IsCourse}
use Rattle.hp_plain.specs.HallView.{HallView, IsHall, segs_in, slot_at}
use Rattle.hp_script.specs.declared.answer.Answer.{Answer}
use Rattle.hp_script.specs.declared.line.Line.{Line}
use Rattle.hp_script.specs.declared.workload.Workload.{Workload}
use Rattle.hp_segs.specs.SegsView.{SegsView}
use Rattle.hp_serve.specs.Party.{Party}
use Rattle.hp_proc.specs.Doing.{Done}
use Rattle.hp_proc.specs.Doing.Done.{NamesRead}
use Rattle.hp_proc.specs.Handed.{AreStatsHanded}
use Rattle.hp_proc.specs.Handing.{shared_of}
use Rattle.hp_proc.specs.LinesDone.{Course, courses_of, opening_standing, trace_of}
use Rattle.hp_proc.specs.NamesAtEnd.{AreHandedTogether}
use Rattle.hp_proc.specs.NamesLog.{change_made}
use Rattle.hp_proc.specs.NamesOfLines.{names_read}
use Rattle.hp_proc.specs.OneThread.{AreHandedInOrder, IsLeftBy, IsMoment, WasAllowed, WasDenied}
use Rattle.hp_proc.specs.RunEnds.{EndsWithNames}
use Rattle.hp_proc.specs.WatchedBytes.{AreWatchersOf, IsRegisteredWithGrants}
use Rattle.thm_run.specs.EndLaws.{GoesBy, IsAtEnd, IsGiven}
use Rattle.thm_run.specs.SoFar.{SoFar}

-- the watchers of all participants, each with what it was told
abbrev pub listeners_in : List WatchersView → List (List Listener)
listeners_in watchers = map (λ own. own.listeners) watchers

-- each participant has the watchers at the end that its lines left, in the order of their registration; and what each was told turns the bytes
-- of the log's rows that were mapped when it was registered into those that are mapped now
pub record HaveWatchers (workload : Workload) (courses : List Course) (segs : SegsView) (tables : List Table)
    (watchers : List (List Listener)) : Type 0 where
  pub count : length watchers ≡ workload.participants
  pub each : (who : ℕ) (table : Table) (listeners : List Listener) → slice_get tables who ≡ Some table
      → slice_get watchers who ≡ Some listeners
      → AreWatchersOf who (opening_standing workload who) segs (courses_of who courses) table listeners

-- where lines are done one after another: the table of each watcher's registration has what its participant's lines were granted by then
pub record WatchersHaveGrants (workload : Workload) (courses : List Course) (segs : SegsView) (tables : List Table)
    (watchers : List (List Listener)) : Type 0 where
  pub each : (who : ℕ) (table : Table) (listeners : List Listener) → slice_get tables who ≡ Some table
      → slice_get watchers who ≡ Some listeners
      → All (IsRegisteredWithGrants who (opening_standing workload who) segs (courses_of who courses) table) listeners

-- the statistics that participants were answered are each those of a heap after a front of its history, which holds the calls that the
-- participant had made by then; and for one participant these fronts never grow shorter
abbrev pub HaveStatistics : List Course → List HeapView → Type 0
HaveStatistics courses heaps = (who : ℕ) → All (AreStatsHanded who (trace_of (courses_of who courses))) heaps

-- where lines are done one after another: no growth was granted that a validator denies which the lines before it left; and where one was
-- denied, the first of these that denies it is the one that is named
pub record AreJudged (workload : Workload) (courses : List Course) (segs : SegsView) : Type 0 where
  pub allowed : (so_far : List Course) (who : ℕ) (done : Done) → IsMoment courses so_far who done
      → WasAllowed workload segs so_far who done
  pub denied : (so_far : List Course) (who : ℕ) (done : Done) → IsMoment courses so_far who done
      → WasDenied workload segs so_far who done

-- a trace reads names first of all and no more, or neither reads nor changes any
abbrev pub ReadsFirst : List Done → Type 0
ReadsFirst [] = ⊤
ReadsFirst (NamesRead names ∷ rest) = names_read rest ≡ []
ReadsFirst (done ∷ rest) = (names_read (done ∷ rest) ≡ []) × (filter_map change_made (done ∷ rest) ≡ [])

-- and what a line was handed of names, of an external heap and of statistics is what the lines before it leave; it was handed the names first;
-- and they agree with a heap's state that it was handed next
pub record AreOfLinesBefore (workload : Workload) (courses : List Course) : Type 0 where
  pub reads : All (λ course. ReadsFirst course.trace) courses
  pub handed : (so_far : List Course) (who : ℕ) (done : Done) → IsMoment courses so_far who done → IsLeftBy workload so_far done
  pub together : All (AreHandedTogether workload.pools.items) courses

-- before the first line it is so
abbrev pub JudgedOpen : Type 0
JudgedOpen = (workload : Workload) (segs : SegsView) → AreJudged workload [] segs

-- after each line more growths were judged by the validators that the lines before it left
abbrev pub JudgedGoesOnByLine : Type 0
JudgedGoesOnByLine = (workload : Workload) (courses : List Course) (parties later : List Party) (old new : HallView) (line : Line)
    (answer : Answer) (was now : SegsView) → IsGiven workload → SoFar workload courses parties old
    → (goes : GoesBy workload courses line answer parties later old new) → segs_in (slot_at old MAX_HEAPS) ≡ Some was
    → segs_in (slot_at new MAX_HEAPS) ≡ Some now → AreJudged workload courses was
    → AreJudged workload (courses ++ record { line = line; answer = answer; trace = goes.does.does.does.trace } ∷ []) now

-- and where all serve on
abbrev pub JudgedRests : Type 0
JudgedRests = (workload : Workload) (courses : List Course) (parties later : List Party) (old new : HallView) (was now : SegsView)
    → IsGiven workload → SoFar workload courses parties old → IsCourse old new → segs_in (slot_at old MAX_HEAPS) ≡ Some was
    → segs_in (slot_at new MAX_HEAPS) ≡ Some now → AreJudged workload courses was → AreJudged workload courses now

-- before the first line nothing was read
abbrev pub CountedOpen : Type 0
CountedOpen = (workload : Workload) → AreOfLinesBefore workload []

-- after each line more what lines were handed is what the lines before it leave
abbrev pub CountedGoesOnByLine : Type 0
CountedGoesOnByLine = (workload : Workload) (courses : List Course) (parties later : List Party) (old new : HallView) (line : Line)
    (answer : Answer) → IsGiven workload → IsHall old → SoFar workload courses parties old
    → (goes : GoesBy workload courses line answer parties later old new) → AreOfLinesBefore workload courses
    → AreOfLinesBefore workload (courses ++ record { line = line; answer = answer; trace = goes.does.does.does.trace } ∷ [])

-- so they are of fronts of the histories that the hall hands out after the last line
abbrev pub StatisticsEndSo : Type 0
StatisticsEndSo = (workload : Workload) (courses : List Course) (answers : List Answer) (parties : List Party) (hall : HallView)
    (heaps : List HeapView) (segs : SegsView) (tables : List Table) → IsGiven workload → SoFar workload courses parties hall
    → IsAtEnd workload courses answers parties hall heaps segs tables → AreOfLinesBefore workload courses → HaveStatistics courses heaps

-- after the last line the run has come to what is said of its names, of external memory and of who has attached it; and how lines that were handed what those before
-- them leave had the names
abbrev pub NamesEndSo : Type 0
NamesEndSo = (workload : Workload) (courses : List Course) (answers : List Answer) (parties : List Party) (hall : HallView)
    (heaps : List HeapView) (segs : SegsView) (tables : List Table) → IsGiven workload → SoFar workload courses parties hall
    → (end : IsAtEnd workload courses answers parties hall heaps segs tables) → AreOfLinesBefore workload courses
    → EndsWithNames workload courses (shared_of end.names) heaps segs tables × AreHandedInOrder workload courses (shared_of end.names) heaps

-- participants leave these listeners at the end
pub record LeaveListeners (parties : List Party) (watchers : List (List Listener)) : Type 0 where
  pub many : length watchers ≡ length parties
  pub are : (who : ℕ) (party : Party) (listeners : List Listener) → slice_get parties who ≡ Some party
      → slice_get watchers who ≡ Some listeners → listeners ≡ party.listeners

-- so they leave the watchers of their lines
abbrev pub WatchersEndSo : Type 0
WatchersEndSo = (workload : Workload) (courses : List Course) (answers : List Answer) (parties : List Party) (hall : HallView)
    (heaps : List HeapView) (segs : SegsView) (tables : List Table) (watchers : List (List Listener)) → IsGiven workload
    → SoFar workload courses parties hall → IsAtEnd workload courses answers parties hall heaps segs tables
    → LeaveListeners parties watchers → HaveWatchers workload courses segs tables watchers

-- and these have what was granted
abbrev pub GrantsEndSo : Type 0
GrantsEndSo = (workload : Workload) (courses : List Course) (answers : List Answer) (parties : List Party) (hall : HallView)
    (heaps : List HeapView) (segs : SegsView) (tables : List Table) (watchers : List (List Listener)) → IsGiven workload
    → SoFar workload courses parties hall → IsAtEnd workload courses answers parties hall heaps segs tables
    → LeaveListeners parties watchers → WatchersHaveGrants workload courses segs tables watchers
