use Rattle.std.proofs.Common.{refl, rules}
use Rattle.hp_run.specs.Making.IsMade.{wrote, wrote_nothing}
use Rattle.hp_run.proofs.generating.generate_text.Goals as goal

pub returns-in-Ok-clause-outcome : goal.returns-in-Ok-clause-outcome
returns-in-Ok-clause-outcome g c = wrote _ _ (search rules) c.written.ensures.written

pub returns-in-Err-clause-outcome : goal.returns-in-Err-clause-outcome
returns-in-Err-clause-outcome g c = wrote_nothing refl
