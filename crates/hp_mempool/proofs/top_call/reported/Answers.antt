use Rattle.std.proofs.Common.{◌≡◌, ◌∙◌, ℕ, List, subst, rules}
use Rattle.std.specs.Prelude.{string_bytes}
use Rattle.hp_base.specs.Streams.{HasRisen}
use Rattle.hp_base.specs.declared.status.Status.TheVariants as status
use Rattle.hp_mempool.specs.Program.{IsPut, report_text}
use Rattle.hp_mempool.proofs.OutcomeLemmas.{put_unless_short}
use Rattle.hp_mempool.proofs.top_call.reported.Goals as goal

pub returns-in-Ok-clause-outcome : goal.returns-in-Ok-clause-outcome
returns-in-Ok-clause-outcome g c =
    let bytes : c.as_bytes.result.now ≡ string_bytes c.in-Ok.text = search rules in
    let is : c.as_bytes.result.now ≡ report_text c.args.report = bytes ∙ c.in-Ok.ensures.ok in
    put_unless_short _ _ _ _ c.written.result
    (subst
    (λ (text : List ℕ). IsPut status.Ok text (g.K.Sink.held c.args.sink.now) (g.K.Sink.held c.written.new.sink)
    (HasRisen (g.K.Sink.faults c.args.sink.now) (g.K.Sink.faults c.written.new.sink)) c.written.result)
    is c.written.ensures.outcome)
