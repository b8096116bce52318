-- The watchers that threads leave are those of their lines, each told of its table.
use Rattle.std.proofs.Common.{List, sym, subst}
use Rattle.hp_events.specs.Watchers.{WatchersView}
use Rattle.hp_heap.specs.History.{HeapView}
use Rattle.hp_maps.specs.declared.table.Table.{Table}
use Rattle.hp_script.specs.Limits.{AreDeclared}
use Rattle.hp_script.specs.declared.answer.Answer.{Answer}
use Rattle.hp_script.specs.declared.workload.Workload.{Workload}
use Rattle.hp_segs.specs.SegsView.{SegsView}
use Rattle.hp_zone.specs.declared.names.Names.{Names as NamesView}
use Rattle.hp_proc.specs.LinesDone.{Course}
use Rattle.hp_proc.specs.ParticipantView.{ParticipantView}
use Rattle.hp_threads.specs.Running.{ThreadsLeave}
use Rattle.thm_run.specs.EndLaws.{IsGiven}
use Rattle.thm_run.specs.Handing.{HaveWatchers, listeners_in}
use Rattle.thm_together.specs.Watched.{WatchedWhereHome}
use Rattle.thm_home.proofs.AllAtBoard.{home_of_threads, watched_in_seats}
use Rattle.thm_home.proofs.ThreadsEnded.{courses_at_end, end_of_threads}

-- wherever threads leave something, so it is at their end
pub watchers_of_threads : WatchedWhereHome → (workload : Workload) (firsts : List ParticipantView) (answers : List Answer) (heaps : List HeapView)
    (segs : SegsView) (names : NamesView) (tables : List Table) (watchers : List WatchersView) (given : IsGiven workload)
    (declared : AreDeclared workload.participants workload.lines.items)
    (leave : ThreadsLeave workload firsts answers heaps segs names tables watchers)
    → HaveWatchers workload
    (end_of_threads workload firsts answers heaps segs names tables watchers given declared leave).end.courses segs tables
    (listeners_in watchers)
watchers_of_threads law workload firsts answers heaps segs names tables watchers given declared leave =
    subst (λ (courses : List Course). HaveWatchers workload courses segs tables (listeners_in watchers))
    (sym (courses_at_end workload firsts answers heaps segs names tables watchers given declared leave))
    (law workload answers heaps segs tables
    (home_of_threads workload firsts answers heaps segs names tables watchers given declared leave).home (listeners_in watchers)
    (watched_in_seats workload firsts answers heaps segs names tables watchers given declared leave))
