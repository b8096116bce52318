use Rattle.std.proofs.Common.{List, sym, subst}
use Rattle.hp_proc.specs.LinesDone.{Course}
use Rattle.thm_run.specs.Handing.{HaveStatistics}
use Rattle.thm_home.proofs.ThreadsEnded.{courses_at_end, end_of_threads}
use Rattle.thm_home.proofs.ThreadsStats.{statistics_where_home}
use Rattle.thm_home.proofs.WatchersHome.{watchers_of_threads}
use Rattle.thm_home.proofs.laws.handed_end_law.Goals as goal

pub returns : goal.returns
returns c = λ workload firsts answers heaps segs names tables watchers given declared leave. record {
  end = end_of_threads workload firsts answers heaps segs names tables watchers given declared leave;
  watched = watchers_of_threads c.watching_law.ensures workload firsts answers heaps segs names tables watchers given declared leave;
  statistics = subst (λ (courses : List Course). HaveStatistics courses heaps)
      (sym (courses_at_end workload firsts answers heaps segs names tables watchers given declared leave))
      (statistics_where_home workload firsts answers heaps segs names tables watchers given declared leave);
}
