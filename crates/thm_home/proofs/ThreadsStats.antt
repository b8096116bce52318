-- Statistics that participants on threads were answered are those of fronts of the histories that they leave.
use Rattle.std.proofs.Common.{◌≡◌, ◌∙◌, ℕ, ◌<◌, List, ap, sym, subst, arith}
use Rattle.std.specs.List.{All}
use Rattle.hp_events.specs.Watchers.{WatchersView}
use Rattle.hp_heap.specs.History.{HeapView}
use Rattle.hp_maps.specs.declared.table.Table.{Table}
use Rattle.hp_script.specs.Limits.{AreDeclared}
use Rattle.hp_script.specs.declared.answer.Answer.{Answer}
use Rattle.hp_script.specs.declared.workload.Workload.{Workload}
use Rattle.hp_segs.proofs.RowTables.TableUse.{at_place as its_own}
use Rattle.hp_segs.specs.SegsView.{SegsView}
use Rattle.hp_stats.specs.Pairs.{AreAmong}
use Rattle.hp_stats.specs.StatViews as stats
use Rattle.hp_stats.specs.StatViews.{PenView}
use Rattle.hp_stats.specs.declared.stat_pair.StatPair.{StatPair}
use Rattle.hp_zone.specs.declared.names.Names.{Names as NamesView}
use Rattle.hp_proc.specs.Handed.{AreStatsHanded}
use Rattle.hp_proc.specs.LinesDone.{Course, trace_of}
use Rattle.hp_proc.specs.ParticipantView.{ParticipantView}
use Rattle.hp_threads.specs.Counting.{WerePublished}
use Rattle.hp_threads.specs.Running.{ThreadsLeave}
use Rattle.thm_run.proofs.PathSteps.Walked.{get_there}
use Rattle.thm_run.specs.EndLaws.{IsGiven}
use Rattle.thm_run.specs.Handing.{HaveStatistics}
use Rattle.thm_together.proofs.HomeWays.{are_woven}
use Rattle.thm_together.specs.CameHome.{courses_in_order}
use Rattle.thm_home.proofs.AllAtBoard.{all, courses_at_home, home_of_threads, pens_at_board, steps_promised}
use Rattle.thm_home.proofs.StatsAtBoard.{stats_at_board}
use Rattle.thm_home.specs.StatsOfThreads.{HaveReadBy}

module _ (workload : Workload) (firsts : List ParticipantView) (answers : List Answer) (heaps : List HeapView) (segs : SegsView)
    (names : NamesView) (tables : List Table) (watchers : List WatchersView)
    (leave : ThreadsLeave workload firsts answers heaps segs names tables watchers) where
  -- what a participant has read and published by its steps was published by the pens
  have_read : (who : ℕ) → who < workload.participants → HaveReadBy leave.pens (leave.promised.steps who)
  have_read who below =
      let pass = get_there leave.stat_passes who (omega (arith, below, leave.promised.reading)) in
      let read = leave.promised.read who pass.0 pass.1 in
      let met : WerePublished leave.pens pass.0 = its_own (WerePublished leave.pens) leave.stat_passes who pass.0 leave.published pass.1 in
      record {
        published = λ heap pen there. subst (λ (pairs : List StatPair). AreAmong pen.published pairs) (read.seen heap) (met heap pen there);
        rising = read.rising;
      }

-- wherever threads leave something, the statistics that lines were answered are those of fronts of the histories
pub statistics_where_home : (workload : Workload) (firsts : List ParticipantView) (answers : List Answer) (heaps : List HeapView)
    (segs : SegsView) (names : NamesView) (tables : List Table) (watchers : List WatchersView) (given : IsGiven workload)
    (declared : AreDeclared workload.participants workload.lines.items)
    (leave : ThreadsLeave workload firsts answers heaps segs names tables watchers)
    → HaveStatistics (courses_in_order workload
    (home_of_threads workload firsts answers heaps segs names tables watchers given declared leave).home.courses) heaps
statistics_where_home workload firsts answers heaps segs names tables watchers given declared leave =
    let at_board = all workload firsts answers heaps segs names tables watchers given declared leave in
    let came = home_of_threads workload firsts answers heaps segs names tables watchers given declared leave in
    let same = courses_at_home workload firsts answers heaps segs names tables watchers given declared leave in
    let pens = pens_at_board workload firsts answers heaps segs names tables watchers given declared leave in
    λ who.
    subst (λ (courses : List Course). All (AreStatsHanded who (trace_of courses)) heaps)
    (sym ((are_woven workload answers heaps segs tables came.home).own who ∙ ap (λ (courses : ℕ → List Course). courses who) same))
    (stats_at_board workload answers heaps segs tables at_board
    (λ one below.
    subst (λ (pens : List PenView). HaveReadBy pens (at_board.steps one)) (sym pens)
    (subst (HaveReadBy leave.pens)
    (sym (steps_promised workload firsts answers heaps segs names tables watchers given declared leave one below))
    (have_read workload firsts answers heaps segs names tables watchers leave one below)))
    who)
