use Rattle.std.proofs.Common.{◌≡◌, ◌∙◌, refl, rules}
use Rattle.std.specs.Prelude.{Err, string_bytes}
use Rattle.hp_view.specs.Outcome.IsAnswered.{ran_out}
use Rattle.hp_view.specs.Reading.{reading}
use Rattle.hp_view.proofs.OutcomeLemmas.{drawn_is, said_answers}
use Rattle.hp_view.proofs.top_call.answered.Goals as goal

pub returns-in-Ok-picture_of : goal.returns-in-Ok-picture_of
returns-in-Ok-picture_of g c =
    let bytes : c.as_bytes.result.now ≡ string_bytes c.in-Ok-picture_of.text = search rules in
    drawn_is c.args.input.now c.as_bytes.result.now c.in-Ok.lines.items c.as_slice.result.now _ _ _ c.in-Ok.ensures c.as_slice.ensures.value
    (bytes ∙ c.in-Ok-picture_of.ensures) c.written.ensures refl

pub returns-in-Ok : goal.returns-in-Ok
returns-in-Ok g c = ran_out refl refl

pub returns-in-Err-Bad : goal.returns-in-Err-Bad
returns-in-Err-Bad g c =
    let due : reading c.args.input.now ≡ Err c.in-Err-Bad.line = rw c.in-Err-Bad.field-0-is at c.in-Err-Bad.ensures in
    said_answers c.args.input.now c.in-Err-Bad.line _ _ _ due c.refused.ensures refl

pub returns : goal.returns
returns g c = ran_out refl refl
