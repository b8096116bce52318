use Rattle.std.proofs.Common.{◌≡◌, refl, rules}
use Rattle.std.specs.Prelude.{string_bytes}
use Rattle.hp_run.specs.Making.IsMade.{wrote, wrote_nothing}
use Rattle.hp_run.proofs.generating.told.Goals as goal

pub returns-in-Ok-clause-outcome : goal.returns-in-Ok-clause-outcome
returns-in-Ok-clause-outcome g c =
    let bytes : c.as_bytes.result.now ≡ string_bytes c.in-Ok.text = search rules in
    wrote _ _ (search (rules, bytes)) c.written.ensures.written

pub returns-in-Err-clause-outcome : goal.returns-in-Err-clause-outcome
returns-in-Err-clause-outcome g c = wrote_nothing refl
