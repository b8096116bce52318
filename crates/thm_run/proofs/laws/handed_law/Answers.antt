use Rattle.thm_run.proofs.Registrations.HandedWatchers.{grants_end_so, watchers_end_so}
use Rattle.thm_run.proofs.StatsOwn.{statistics_end_so}
use Rattle.thm_run.proofs.laws.handed_law.Goals as goal

pub returns-clause-statistics : goal.returns-clause-statistics
returns-clause-statistics c = statistics_end_so

pub returns-clause-watched : goal.returns-clause-watched
returns-clause-watched c = watchers_end_so c.watch_law.ensures

pub returns-clause-granted : goal.returns-clause-granted
returns-clause-granted c = grants_end_so
