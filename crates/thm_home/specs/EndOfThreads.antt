-- All that a run has come to whose participants did their lines on threads, whatever order their steps came in. The rule "Threads" of
-- docs/RUNS.md.
use Rattle.std.specs.Prelude.{◌≡◌, ℕ, ◌<◌, true, List, Contains, Option, Some, slice_get}
use Rattle.std.specs.List.{All}
use Rattle.hp_base.specs.Mapping.{may_fail_at}
use Rattle.hp_base.specs.declared.map_answer.MapAnswer.{MapAnswer}
use Rattle.hp_board.specs.Closing.{left_naming}
use Rattle.hp_chair.specs.MailAtHome.{CameFromThem}
use Rattle.hp_hall.specs.AgreedNames.{AreAgreedNames}
use Rattle.hp_events.specs.Watchers.{WatchersView}
use Rattle.hp_heap.specs.History.{HeapView}
use Rattle.hp_maps.specs.declared.table.Table.{Table}
use Rattle.hp_script.specs.Limits.{AreDeclared}
use Rattle.hp_script.specs.declared.answer.Answer.{Answer}
use Rattle.hp_script.specs.declared.workload.Workload.{Workload}
use Rattle.hp_segs.specs.Moved.{Leads, SegsCall}
use Rattle.hp_segs.specs.SegsView.{SegsView}
use Rattle.hp_segs.specs.declared.ask.Ask.{Ask}
use Rattle.hp_segs.specs.declared.outcome.AskLog.{AskLog}
use Rattle.hp_zone.specs.declared.names.Names.{Names as NamesView}
use Rattle.hp_proc.specs.Ends.{IsEnd}
use Rattle.hp_proc.specs.Handing.{shared_of}
use Rattle.hp_proc.specs.Heaps.{sockets_of}
use Rattle.hp_proc.specs.LinesDone.{Course, courses_of}
use Rattle.hp_proc.specs.ParticipantView.{ParticipantView}
use Rattle.hp_proc.specs.RunEnds.{EndsWithNames}
use Rattle.thm_run.specs.EndLaws.{FailsFor, IsFailedMapping, IsGiven, IsRefusedMapping}
use Rattle.thm_run.specs.Handing.{HaveStatistics, HaveWatchers, listeners_in}
use Rattle.thm_run.specs.Seats.{Seat}
use Rattle.thm_run.specs.SoFar.{AreSoundNames, first_segs}
use Rattle.thm_alike.specs.Alike.{PagesAlike, TablesAlike}
use Rattle.thm_alike.specs.Restored.{FailuresLeaveNoRow, GrowthsRestore, TablesRestore}
use Rattle.thm_causes.specs.Nones.{NothingWasFound}
use Rattle.thm_together.specs.CameHome.{AllCameHome}
use Rattle.hp_threads.specs.Running.{ThreadsLeave}

-- the mapper that one of these participants brought may answer so
pub record MayFailSo (firsts : List ParticipantView) (participant call addr : ℕ) (got : MapAnswer) (kept : Option Ask) : Type 0 where
  pub first : ParticipantView
  pub there : slice_get firsts participant ≡ Some first
  pub fails : FailsFor first.party.maps.may_fail call addr got kept

-- the mapper that one of these participants brought may fail at that call
pub record MayFailAt (firsts : List ParticipantView) (participant call : ℕ) : Type 0 where
  pub first : ParticipantView
  pub there : slice_get firsts participant ≡ Some first
  pub may : may_fail_at first.party.maps.may_fail call ≡ true

-- mappings failed only at calls at which the mappers may that these participants brought, and at no call twice: for a growth, and for a
-- line that attaches its participant, or a chunk
pub record FailAsBrought (firsts : List ParticipantView) (courses : List Course) (asks : List AskLog) : Type 0 where
  pub failures : (entry : AskLog) (participant call : ℕ) → Contains asks entry → (failed : IsFailedMapping participant call entry)
      → MayFailSo firsts participant call failed.addr failed.got entry.ask
  pub once : (place other : ℕ) (entry second : AskLog) (participant call : ℕ) → slice_get asks place ≡ Some entry
      → slice_get asks other ≡ Some second → IsFailedMapping participant call entry → IsFailedMapping participant call second → place ≡ other
  pub refusals : (place : ℕ) (course : Course) (participant call : ℕ) → slice_get courses place ≡ Some course
      → IsRefusedMapping participant call course → MayFailAt firsts participant call
  pub refused_once : (place other : ℕ) (course second : Course) (participant call : ℕ) → slice_get courses place ≡ Some course
      → slice_get courses other ≡ Some second → IsRefusedMapping participant call course → IsRefusedMapping participant call second
      → place ≡ other

-- What participants leave that began so and did their lines on threads: an end of the workload, with names that opened with the heaps of its sockets,
-- that have the changes of the lines and no others, and that agree with the heaps and with the claimed external memory: directory, chunks, memzones and
-- marks; what lines are handed of them and of the states of heaps are fronts of what there is and never grow shorter from line to line, and after lines that
-- await others they hold what those changed. Mappings failed
-- only as the mappers may that they brought; all who are attached map what is in use alike, each page of a heap with it, and a growth that
-- failed left no row; a line that is answered that there is no memory found no address in its heaps and was granted nothing; and the segment
-- value came about by calls, each under its condition, among which each growth that failed left all else as the other calls meanwhile would have
-- left it, in the tables too.
pub record ThreadsEnd (workload : Workload) (firsts : List ParticipantView) (answers : List Answer) (heaps : List HeapView) (segs : SegsView)
    (names : NamesView) (tables : List Table) : Type 0 where
  pub sockets : names.heaps.sockets ≡ sockets_of workload.pools.items
  pub names_sound : AreSoundNames names
  pub names_agree : AreAgreedNames names (left_naming heaps) segs.ranges
  pub end : IsEnd workload answers heaps segs tables
  pub names_end : EndsWithNames workload end.courses (shared_of names) heaps segs tables
  pub failed : FailAsBrought firsts end.courses segs.asks
  pub alike : TablesAlike segs tables
  pub pages : PagesAlike heaps segs tables
  pub no_row : FailuresLeaveNoRow segs.log
  pub nothing_found : (who : ℕ) → who < workload.participants → All NothingWasFound (courses_of who end.courses)
  pub calls : List SegsCall
  pub leads : Leads calls (first_segs workload) segs
  pub growths : GrowthsRestore calls (first_segs workload)
  pub answering : TablesRestore segs.log tables

-- all came home, each from the seat of the view that it brought
pub record CameHomeFrom (workload : Workload) (firsts : List ParticipantView) (answers : List Answer) (heaps : List HeapView) (segs : SegsView)
    (tables : List Table) : Type 0 where
  pub home : AllCameHome workload answers heaps segs tables
  pub began : (who : ℕ) (first : ParticipantView) (seat : Seat) → slice_get firsts who ≡ Some first → slice_get home.first who ≡ Some seat
      → seat.party ≡ first.party

-- wherever threads leave something, what each participant fetched are the first ones of the frames that they posted to it, by their steps, in
-- the order of each and each once, and none of anybody else
abbrev pub MailOfThreads : Type 0
MailOfThreads = (workload : Workload) (firsts : List ParticipantView) (answers : List Answer) (heaps : List HeapView) (segs : SegsView)
    (names : NamesView) (tables : List Table) (watchers : List WatchersView)
    (leave : ThreadsLeave workload firsts answers heaps segs names tables watchers) (owner : ℕ) → owner < workload.participants → CameFromThem owner workload.participants leave.promised.steps

-- wherever threads leave something, all of them came home
abbrev pub HomeOfThreads : Type 0
HomeOfThreads = (workload : Workload) (firsts : List ParticipantView) (answers : List Answer) (heaps : List HeapView) (segs : SegsView)
    (names : NamesView) (tables : List Table) (watchers : List WatchersView) → IsGiven workload
    → AreDeclared workload.participants workload.lines.items → ThreadsLeave workload firsts answers heaps segs names tables watchers
    → CameHomeFrom workload firsts answers heaps segs tables

-- wherever threads leave something, that is all that a run has come to
abbrev pub EndOfThreads : Type 0
EndOfThreads = (workload : Workload) (firsts : List ParticipantView) (answers : List Answer) (heaps : List HeapView) (segs : SegsView)
    (names : NamesView) (tables : List Table) (watchers : List WatchersView) → IsGiven workload
    → AreDeclared workload.participants workload.lines.items → ThreadsLeave workload firsts answers heaps segs names tables watchers
    → ThreadsEnd workload firsts answers heaps segs names tables

-- with that each participant has the watchers of its lines, each told of its table, and statistics are those of fronts of the histories
pub record HandedEnd (workload : Workload) (firsts : List ParticipantView) (answers : List Answer) (heaps : List HeapView) (segs : SegsView)
    (names : NamesView) (tables : List Table) (watchers : List WatchersView) : Type 0 where
  pub end : ThreadsEnd workload firsts answers heaps segs names tables
  pub watched : HaveWatchers workload end.end.courses segs tables (listeners_in watchers)
  pub statistics : HaveStatistics end.end.courses heaps

-- wherever threads leave something, so it is
abbrev pub HandedOnThreads : Type 0
HandedOnThreads = (workload : Workload) (firsts : List ParticipantView) (answers : List Answer) (heaps : List HeapView) (segs : SegsView)
    (names : NamesView) (tables : List Table) (watchers : List WatchersView) → IsGiven workload
    → AreDeclared workload.participants workload.lines.items → ThreadsLeave workload firsts answers heaps segs names tables watchers
    → HandedEnd workload firsts answers heaps segs names tables watchers
