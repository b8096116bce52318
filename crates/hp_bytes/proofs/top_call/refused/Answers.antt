use Rattle.std.proofs.Common.{◌≡◌, ◌∙◌, ℕ, List, refl, subst, rules}
use Rattle.std.specs.Prelude.{string_bytes}
use Rattle.hp_base.specs.Streams.{HasRisen}
use Rattle.hp_base.specs.declared.status.Status.TheVariants.{BadWorkload}
use Rattle.hp_bytes.specs.Outcome.{IsWritten, refusal_text}
use Rattle.hp_bytes.specs.Outcome.IsTried.{ran_out, tried}
use Rattle.hp_bytes.proofs.top_call.refused.Goals as goal

pub returns-in-Ok-clause-written : goal.returns-in-Ok-clause-written
returns-in-Ok-clause-written g c =
    let bytes : c.as_bytes.result.now ≡ string_bytes c.in-Ok.text = search rules in
    let is : c.as_bytes.result.now ≡ refusal_text c.args.line = bytes ∙ c.in-Ok.ensures.ok in
    tried c.written.result
    (subst
    (λ (text : List ℕ). IsWritten BadWorkload text (g.K.Sink.held c.args.sink.now) (g.K.Sink.held c.written.new.sink)
    (HasRisen (g.K.Sink.faults c.args.sink.now) (g.K.Sink.faults c.written.new.sink)) c.written.result)
    is c.written.ensures.written)

pub returns-in-Err-clause-written : goal.returns-in-Err-clause-written
returns-in-Err-clause-written g c = ran_out refl
