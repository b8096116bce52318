use Rattle.thm_moved.proofs.ClosedHeaps.{kept_by_close}
use Rattle.thm_moved.proofs.ClosedTables.{tables_by_close}
use Rattle.thm_moved.proofs.laws.close_law.Goals as goal

pub returns-clause-heaps : goal.returns-clause-heaps
returns-clause-heaps c = kept_by_close

pub returns-clause-tables : goal.returns-clause-tables
returns-clause-tables c = tables_by_close
