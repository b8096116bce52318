use Rattle.thm_together.proofs.HomeWatched.{watched_where_home}
use Rattle.thm_together.proofs.laws.watching_law.Goals as goal

pub returns : goal.returns
returns c = watched_where_home c.log_law.ensures.placed
