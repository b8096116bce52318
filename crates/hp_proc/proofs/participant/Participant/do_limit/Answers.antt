-- The validator is judged by those that there are.
use Rattle.std.proofs.Common.{◌≡◌, ◌∙◌, ◌++◌, ◌∷◌, [], List, ℕ, ap, refl, subst}
use Rattle.std.specs.Prelude.{IfOk, OnOk}
use Rattle.hp_script.specs.declared.line.Act.TheVariants as act
use Rattle.hp_serve.proofs.AskingFacts.AskedAlong.{if_ok}
use Rattle.hp_proc.specs.ParticipantView.{ParticipantView, after_registering, participant_of}
use Rattle.hp_proc.specs.Registering.{limiting, registering}
use Rattle.hp_proc.proofs.HandFacts.Boxed.{boxed_is}
use Rattle.hp_proc.proofs.Registered.{limit_answered, limit_leaves, limit_stops, registered_as}
use Rattle.hp_proc.proofs.participant.Participant.do_limit.Goals as goal

pub returns-clause-given : goal.returns-clause-given
returns-clause-given g c =
    let mine = c.as_mut-judged.result.now.limits in
    subst
    (λ (doer : ParticipantView). IfOk c.limit_answer.result
    (λ given. given ≡ registering doer.context.standing.watchers doer.context.standing.validators
    (act.Limit c.args.name.now c.args.socket c.args.bytes c.args.allow)))
    (boxed_is c.self.inside.context (ap (λ judged. judged.server) c.as_mut-judged.ensures.value)
    (ap (λ judged. judged.limits) c.as_mut-judged.ensures.value) c.self.view_is)
    (subst (λ (text : List ℕ). IfOk c.limit_answer.result (λ given. given ≡ limiting mine text c.args.socket)) c.as_bytes.ensures.text
    (limit_answered mine c.as_bytes.result.now c.args.socket c.register.result c.limit_answer.result c.register.ensures.judged
    c.limit_answer.ensures))

pub returns-clause-left : goal.returns-clause-left
returns-clause-left g c =
    let lent = c.as_mut-judged.result.now.server in
    let mine = c.as_mut-judged.result.now.limits in
    let name = c.args.name.now in
    let deed = act.Limit name c.args.socket c.args.bytes c.args.allow in
    subst
    (λ (doer : ParticipantView). IfOk c.limit_answer.result
    (λ given. participant_of lent c.register.new.self c.self.inside.context ≡ after_registering deed given doer))
    (boxed_is c.self.inside.context (ap (λ judged. judged.server) c.as_mut-judged.ensures.value)
    (ap (λ judged. judged.limits) c.as_mut-judged.ensures.value) c.self.view_is)
    (if_ok _ _ c.limit_answer.result
    (λ given left. registered_as deed given lent lent mine c.register.new.self c.self.inside.context refl left)
    (limit_leaves name c.args.socket c.args.bytes c.args.allow mine c.register.new.self c.register.result c.limit_answer.result
    c.limit_answer.ensures
    (subst
    (λ (text : List ℕ). OnOk c.register.result (c.register.new.self ≡ mine
    ++ record { name = text; socket = c.args.socket; limit = c.args.bytes; allows = c.args.allow } ∷ []))
    c.as_bytes.ensures.text c.register.ensures.ok)
    c.register.ensures.err))

pub returns-clause-err : goal.returns-clause-err
returns-clause-err g c =
    let lent = c.as_mut-judged.result.now.server in
    let mine = c.as_mut-judged.result.now.limits in
    limit_stops mine c.register.new.self (participant_of lent c.register.new.self c.self.inside.context ≡ c.args.self.now) c.register.result
    c.limit_answer.result c.limit_answer.ensures c.register.ensures.err
    (λ same. ap (λ kept. participant_of lent kept c.self.inside.context) same ∙ boxed_is c.self.inside.context
    (ap (λ judged. judged.server) c.as_mut-judged.ensures.value) (ap (λ judged. judged.limits) c.as_mut-judged.ensures.value) c.self.view_is)
