use Rattle.thm_run.proofs.Watched.{watched_so_far}
use Rattle.thm_run.proofs.laws.watch_law.Goals as goal

pub returns : goal.returns
returns c = watched_so_far c.log_law.ensures.placed
