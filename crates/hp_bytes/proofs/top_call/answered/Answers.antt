-- What there is to write for the input is written.
use Rattle.std.proofs.Common.{◌≡◌, arith, ap, length, refl, rules}
use Rattle.std.specs.Prelude.{Err, string_bytes}
use Rattle.hp_bytes.specs.Form.{reading}
use Rattle.hp_bytes.specs.Outcome.IsAnswered.{wrote, wrote_nothing}
use Rattle.hp_bytes.specs.Outcome.IsDue.{of_reply}
use Rattle.hp_bytes.proofs.OutcomeLemmas.{reply_is, tried_answers}
use Rattle.hp_bytes.proofs.ReadingLemmas.{lines_few}
use Rattle.hp_bytes.proofs.top_call.answered.Goals as goal

pub reply_text-requires : goal.reply_text-requires
reply_text-requires g c =
    omega (arith, c.requires, lines_few c.args.input.now c.in-Ok.lines.items c.in-Ok.ensures, ap length c.as_slice.ensures.value)

pub returns-in-Ok-reply_text-clause-written : goal.returns-in-Ok-reply_text-clause-written
returns-in-Ok-reply_text-clause-written g c =
    let bytes : c.as_bytes.result.now ≡ string_bytes c.in-Ok-reply_text.text = search rules in
    wrote _ _ _ (of_reply _ (reply_is c.args.input.now _ c.as_bytes.result.now c.in-Ok.lines.items c.as_slice.result.now c.in-Ok.ensures c.as_slice.ensures.value c.in-Ok-reply_text.ensures bytes))
    c.written.ensures.written

pub returns-in-Ok-clause-written : goal.returns-in-Ok-clause-written
returns-in-Ok-clause-written g c = wrote_nothing refl

pub returns-in-Err-Bad-clause-written : goal.returns-in-Err-Bad-clause-written
returns-in-Err-Bad-clause-written g c =
    let due : reading c.args.input.now ≡ Err c.in-Err-Bad.line = rw c.in-Err-Bad.field-0-is at c.in-Err-Bad.ensures in
    tried_answers c.args.input.now _ _ _ c.in-Err-Bad.line _ due c.refused.ensures.written

pub returns-clause-written : goal.returns-clause-written
returns-clause-written g c = wrote_nothing refl
