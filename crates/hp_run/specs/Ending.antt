-- What a run has come to: an end of its workload, why mappings failed, what agreement gives, why growths were refused, that nothing is
-- left to do where the plan loses no message, and why allocations found no memory. The rules "Together" and "Reasons" of docs/RUNS.md.
use Rattle.std.specs.Prelude.{◌≡◌, ◌<◌, ℕ, true, false, List, length, Option}
use Rattle.std.specs.List.{All}
use Rattle.hp_base.specs.Mapping.{FailingCall}
use Rattle.hp_base.specs.Telling.{Listener}
use Rattle.hp_base.specs.declared.plan_entry.PlanEntry.{PlanEntry}
use Rattle.hp_heap.specs.History.{HeapView}
use Rattle.hp_maps.specs.declared.table.Table.{Table}
use Rattle.hp_script.specs.declared.answer.Answer.{Answer}
use Rattle.hp_script.specs.declared.workload.Workload.{Workload}
use Rattle.hp_segs.specs.Moved.{Leads, SegsCall}
use Rattle.hp_segs.specs.SegsView.{SegsView, is_retiring}
use Rattle.hp_segs.specs.Sound.{IsSound}
use Rattle.hp_proc.specs.Ends.{IsEnd, IsSoloEnd, OneThreadLeaves}
use Rattle.hp_proc.specs.Handing.{shared_of}
use Rattle.hp_proc.specs.LinesDone.{courses_of}
use Rattle.hp_proc.specs.OneThread.{AreHandedInOrder}
use Rattle.hp_proc.specs.RunEnds.{EndsWithNames}
use Rattle.hp_zone.specs.declared.names.Names.{Names as NamesView}
use Rattle.thm_run.specs.Drops.{DropsComeFirst}
use Rattle.thm_run.specs.Freed.{AreShown}
use Rattle.thm_run.specs.Handing.{AreJudged, AreOfLinesBefore, HaveStatistics, HaveWatchers, WatchersHaveGrants}
use Rattle.thm_run.specs.SoFar.{first_segs}
use Rattle.thm_alike.specs.Alike.{PagesAlike, TablesAlike}
use Rattle.thm_alike.specs.Given.{GivesAttached}
use Rattle.thm_alike.specs.Restored.{FailuresLeaveNoRow, GrowthsRestore, TablesRestore}
use Rattle.hp_solo.specs.Solo.{AloneView}
use Rattle.thm_causes.specs.Counting.{LosesNothing}
use Rattle.thm_causes.specs.Nones.{NothingWasFound, OnlyExhaustion}
use Rattle.thm_causes.specs.Notices.{NoticesAreHeard}
use Rattle.thm_causes.specs.Threads.{TimeoutsArePlanned}
use Rattle.hp_run.specs.Failures.{AreFailuresNamed, AreRefusalsNamed, FailAsMay, FailOnce, IsFailureNamed, RefuseAsMay, RefuseOnce}

-- a mapping failed only at a call that the plan names, and was answered as the plan says, or over a mapper that is not steady, and at no
-- call twice: for a growth, and for a line that attaches
pub record AreNamed (workload : Workload) (mappers : List (Option (List FailingCall))) (answers : List Answer) (segs : SegsView) : Type 0 where
  pub failures : AreFailuresNamed workload.plan.items mappers segs.asks
  pub once : FailOnce segs.asks
  pub refusals : AreRefusalsNamed workload.plan.items mappers workload.lines.items answers
  pub refused_once : RefuseOnce workload.lines.items answers

-- a mapping failed only at a call at which the mapper of its participant may answer so, and at no call twice
pub record AreAsMay (workload : Workload) (servers : List AloneView) (answers : List Answer) (segs : SegsView) : Type 0 where
  pub failures : FailAsMay servers segs.asks
  pub once : FailOnce segs.asks
  pub refusals : RefuseAsMay servers workload.lines.items answers
  pub refused_once : RefuseOnce workload.lines.items answers

-- what agreement gives at the end: each attached participant maps each segment in use, and with that each page of each heap, alike; memory of
-- chunks was given to those alone who had attached them; and a growth that failed left no row
pub record IsAgreed (heaps : List HeapView) (segs : SegsView) (tables : List Table) : Type 0 where
  pub alike : TablesAlike segs tables
  pub pages : PagesAlike heaps segs tables
  pub attached : All GivesAttached heaps
  pub restored : FailuresLeaveNoRow segs.log

-- nothing is left to do at the end: all that heaps gave up has gone back, so no segment is Retiring, and each participant that is attached
-- has taken in all records of the log
pub record AllCaughtUp (segs : SegsView) (tables : List Table) : Type 0 where
  pub gone : All (λ segment. is_retiring segment.state ≡ false) segs.segments
  pub taken_in : All (λ table. table.joined ≡ true → table.number ≡ length segs.log) tables

-- no mapping may fail: the plan names no mapping call, and each mapper that was handed in is steady
abbrev pub NoMappingMayFail : List PlanEntry → List (Option (List FailingCall)) → Type 0
NoMappingMayFail plan mappers = (participant call : ℕ) → IsFailureNamed plan mappers participant call → ⊥

-- an end of a workload whose lines were done one after another, which of their notices have an outcome in it, that what lines gave up had
-- gone before later lines saw the log where the plan loses no message, that what lines show of the log never falls, what they registered and
-- were answered of statistics, and the calls by which the segment value came about from the first one, which is sound
pub record IsHeardEnd (workload : Workload) (answers : List Answer) (heaps : List HeapView) (segs : SegsView) (tables : List Table)
    (watchers : List (List Listener)) (names : NamesView) : Type 0 where
  pub end : IsSoloEnd workload answers heaps segs tables
  pub names_end : EndsWithNames workload end.end.courses (shared_of names) heaps segs tables
  pub in_order : AreHandedInOrder workload end.end.courses (shared_of names) heaps
  pub notices : NoticesAreHeard workload.plan.items end.end.courses segs.asks
  pub drops : LosesNothing workload.plan.items → DropsComeFirst workload.participants segs.log segs.asks end.end.courses
  pub shown : AreShown segs.log segs.asks end.end.courses
  pub watched : HaveWatchers workload end.end.courses segs tables watchers
  pub granted : WatchersHaveGrants workload end.end.courses segs tables watchers
  pub statistics : HaveStatistics end.end.courses heaps
  pub judged : AreJudged workload end.end.courses segs
  pub counted : AreOfLinesBefore workload end.end.courses
  pub calls : List SegsCall
  pub leads : Leads calls (first_segs workload) segs
  pub opens : IsSound (first_segs workload)

-- a growth that failed restores: the segment value came about by calls, each under its condition, and wherever among them a growth was
-- opened and failed, pools, free slots and pages, the states of the other rows and what is given up are as the other calls meanwhile would
-- have left them; and the table of a participant whose number is at the growth's Drop is the one from before it
pub record HasRestored (workload : Workload) (segs : SegsView) (tables : List Table) : Type 0 where
  pub calls : List SegsCall
  pub leads : Leads calls (first_segs workload) segs
  pub growths : GrowthsRestore calls (first_segs workload)
  pub answering : TablesRestore segs.log tables

-- what a run has come to, in whatever order its participants' steps came: an end of the workload, and of its names: directory, claimed memory,
-- chunks and marks agree, and each line was handed fronts of the names and of external heaps. Each participant has its watchers, each told
-- of its table; and each statistics that a line was answered are those of a front of the heap's history, with its own calls. A mapping failed, for a growth or for a
-- line that attaches, only where the plan or the mapper is why, and at no call twice; all who are attached map what is in use alike, memory of
-- chunks was given to those alone who had attached them, and a growth that failed left no row. An allocation that is answered that there is no memory found no address in its heaps and was granted
-- nothing (that it tried all of them, and all page sizes, is in what its line does); and a growth that failed left all else as the other
-- calls meanwhile would have left it
pub record IsRunEnd (workload : Workload) (mappers : List (Option (List FailingCall))) (answers : List Answer) (heaps : List HeapView)
    (segs : SegsView) (tables : List Table) (watchers : List (List Listener)) (names : NamesView) : Type 0 where
  pub end : IsEnd workload answers heaps segs tables
  pub names_end : EndsWithNames workload end.courses (shared_of names) heaps segs tables
  pub watched : HaveWatchers workload end.courses segs tables watchers
  pub statistics : HaveStatistics end.courses heaps
  pub named : AreNamed workload mappers answers segs
  pub agreed : IsAgreed heaps segs tables
  pub nothing_found : (who : ℕ) → who < workload.participants → All NothingWasFound (courses_of who end.courses)
  pub restored : HasRestored workload segs tables

-- what a run in one thread has come to, whose lines were done one after another. Growths were refused as a participant was late, and asks of
-- one taken back or stale, at most as often as the plan loses SYNCs to it, loses its asks, or repeats its asks and notices. Where the plan
-- loses no message, no segment is Retiring, and each participant that is attached has taken in all records of the log; and where no mapping
-- may fail either, asks were refused for lack of a list, of pages, of slots or of a place, or by a validator. Each run that was given up has gone back, as
-- its notice's outcome says, but for as many as the plan loses of its participant's notices; and where the plan loses no message, what lines
-- gave up had gone before later lines saw the log. What lines see of the log never falls over all lines, with what the outcomes of their
-- notices show: wherever one came that a run has gone back, there is a Drop of its own, which no earlier line saw and every later one sees.
-- The table of each watcher's registration has what its participant's lines were granted by then. No growth is granted that a validator denies which the lines before left, and names, states of external heaps and statistics are those that the
-- lines before leave
pub record IsSoloRunEnd (workload : Workload) (mappers : List (Option (List FailingCall))) (answers : List Answer) (heaps : List HeapView)
    (segs : SegsView) (tables : List Table) (watchers : List (List Listener)) (names : NamesView) : Type 0 where
  pub run : IsRunEnd workload mappers answers heaps segs tables watchers names
  pub in_order : AreHandedInOrder workload run.end.courses (shared_of names) heaps
  pub alone : OneThreadLeaves run.end.courses heaps segs
  pub timeouts : TimeoutsArePlanned workload segs.asks
  pub all_caught_up : LosesNothing workload.plan.items → AllCaughtUp segs tables
  pub exhausted : LosesNothing workload.plan.items → NoMappingMayFail workload.plan.items mappers → All OnlyExhaustion segs.asks
  pub notices : NoticesAreHeard workload.plan.items run.end.courses segs.asks
  pub drops : LosesNothing workload.plan.items → DropsComeFirst workload.participants segs.log segs.asks run.end.courses
  pub shown : AreShown segs.log segs.asks run.end.courses
  pub granted : WatchersHaveGrants workload run.end.courses segs tables watchers
  pub judged : AreJudged workload run.end.courses segs
  pub counted : AreOfLinesBefore workload run.end.courses
