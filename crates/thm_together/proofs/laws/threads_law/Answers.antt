use Rattle.thm_together.proofs.HomeEnds.{end_where_home}
use Rattle.thm_together.proofs.HomeLed.{led_where_home}
use Rattle.thm_together.proofs.laws.threads_law.Goals as goal

pub returns-clause-end : goal.returns-clause-end
returns-clause-end c = end_where_home

pub returns-clause-led : goal.returns-clause-led
returns-clause-led c = led_where_home
