use Rattle.thm_run.proofs.CountedTurns.{counted_at_last, numbers_by_told}
use Rattle.thm_run.proofs.TracesTold.ToldByPosts.{told_by_posts}
use Rattle.thm_run.proofs.laws.numbers_law.Goals as goal

pub returns-clause-told : goal.returns-clause-told
returns-clause-told c = told_by_posts

pub returns-clause-numbers : goal.returns-clause-numbers
returns-clause-numbers c = numbers_by_told

pub returns-clause-counted : goal.returns-clause-counted
returns-clause-counted c = counted_at_last
