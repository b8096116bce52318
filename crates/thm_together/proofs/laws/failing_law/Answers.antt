use Rattle.thm_together.proofs.HomeFails.{fails_once_where_home, fails_where_home, refuses_once_where_home, refuses_where_home}
use Rattle.thm_together.proofs.laws.failing_law.Goals as goal

pub returns-clause-fails : goal.returns-clause-fails
returns-clause-fails c = fails_where_home

pub returns-clause-once : goal.returns-clause-once
returns-clause-once c = fails_once_where_home

pub returns-clause-refuses : goal.returns-clause-refuses
returns-clause-refuses c = refuses_where_home

pub returns-clause-refuses_once : goal.returns-clause-refuses_once
returns-clause-refuses_once c = refuses_once_where_home
