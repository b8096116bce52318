use Rattle.std.proofs.Common.{◌≡◌, ◌∙◌, ℕ, List, subst, rules}
use Rattle.std.specs.Prelude.{string_bytes}
use Rattle.hp_base.specs.Streams.{HasRisen}
use Rattle.hp_base.specs.declared.status.Status.TheVariants.{BadWorkload}
use Rattle.hp_run.specs.Outcome.{IsPut}
use Rattle.hp_run.specs.Outcome.IsWritten.{put, short}
use Rattle.hp_run.specs.Refusals.{refusal_text}
use Rattle.hp_run.proofs.OutcomeLemmas.{front-nothing}
use Rattle.hp_run.proofs.writing.refused.Goals as goal

pub returns-in-Ok-clause-written : goal.returns-in-Ok-clause-written
returns-in-Ok-clause-written g c =
    let bytes : c.as_bytes.result.now ≡ string_bytes c.in-Ok.text = search rules in
    let is : c.as_bytes.result.now ≡ refusal_text c.args.refusal = bytes ∙ c.in-Ok.ensures.ok in
    put c.written.result
    (subst
    (λ (text : List ℕ). IsPut BadWorkload text (g.K.Sink.held c.args.sink.now) (g.K.Sink.held c.written.new.sink)
    (HasRisen (g.K.Sink.faults c.args.sink.now) (g.K.Sink.faults c.written.new.sink)) c.written.result)
    is c.written.ensures.written)

pub returns-in-Err-clause-written : goal.returns-in-Err-clause-written
returns-in-Err-clause-written g c = short (front-nothing _ _)
