use Rattle.std.proofs.Common.{rules}
use Rattle.hp_bytes.proofs.OutcomeLemmas.{own_ends, settled_by_end, usage_ends}
use Rattle.hp_bytes.proofs.top_call.top.Goals as goal

pub returns-then-not-is_own-clause-outcome : goal.returns-then-not-is_own-clause-outcome
returns-then-not-is_own-clause-outcome g c = usage_ends _ _ _ _ _ _ _ (search rules) c.written.ensures.written

pub returns-then-not-is_own-clause-settled : goal.returns-then-not-is_own-clause-settled
returns-then-not-is_own-clause-settled g c = settled_by_end _ _ _ _ _ _ _ _ (returns-then-not-is_own-clause-outcome g c)

pub returns-clause-outcome : goal.returns-clause-outcome
returns-clause-outcome g c = own_ends _ _ _ _ _ _ _ _ (search rules) c.session.ensures.outcome

pub returns-clause-settled : goal.returns-clause-settled
returns-clause-settled g c = settled_by_end _ _ _ _ _ _ _ _ (returns-clause-outcome g c)
