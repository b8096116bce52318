use Rattle.std.proofs.Common.{◌≡◌, ◌∙◌, refl, rules}
use Rattle.std.specs.Prelude.{string_bytes}
use Rattle.hp_view.specs.Outcome.IsSaid.{unsaid}
use Rattle.hp_view.proofs.OutcomeLemmas.{said_is}
use Rattle.hp_view.proofs.top_call.refused.Goals as goal

pub returns-in-Ok : goal.returns-in-Ok
returns-in-Ok g c =
    let bytes : c.as_bytes.result.now ≡ string_bytes c.in-Ok.text = search rules in
    said_is c.args.line c.as_bytes.result.now _ _ (bytes ∙ c.in-Ok.ensures.ok) c.written.ensures

pub returns-in-Err : goal.returns-in-Err
returns-in-Err g c = unsaid refl
