-- The validator is looked for among those that there are.
use Rattle.std.proofs.Common.{◌≡◌, List, ℕ, ap, refl, subst}
use Rattle.std.specs.Prelude.{OnErr, OnOk}
use Rattle.hp_events.specs.Validators.{HasNone, Unregisters}
use Rattle.hp_script.specs.declared.line.Act.TheVariants as act
use Rattle.hp_proc.specs.ParticipantView.{ParticipantView, after_registering, participant_of}
use Rattle.hp_proc.specs.Registering.{registering, unlimiting}
use Rattle.hp_proc.proofs.HandFacts.Boxed.{boxed_is}
use Rattle.hp_proc.proofs.Registered.{registered_as, unlimit_answered, unlimit_leaves}
use Rattle.hp_proc.proofs.participant.Participant.do_unlimit.Goals as goal

pub returns-clause-given : goal.returns-clause-given
returns-clause-given g c =
    let mine = c.as_mut-judged.result.now.limits in
    subst
    (λ (doer : ParticipantView). c.unlimit_answer.result
    ≡ registering doer.context.standing.watchers doer.context.standing.validators (act.Unlimit c.args.name.now c.args.socket))
    (boxed_is c.self.inside.context (ap (λ judged. judged.server) c.as_mut-judged.ensures.value)
    (ap (λ judged. judged.limits) c.as_mut-judged.ensures.value) c.self.view_is)
    (subst (λ (text : List ℕ). c.unlimit_answer.result ≡ unlimiting mine text c.args.socket) c.as_bytes.ensures.text
    (unlimit_answered mine c.unregister.new.self c.as_bytes.result.now c.args.socket c.unregister.result c.unlimit_answer.result
    c.unlimit_answer.ensures c.unregister.ensures.ok c.unregister.ensures.not_found))

pub returns-clause-left : goal.returns-clause-left
returns-clause-left g c =
    let lent = c.as_mut-judged.result.now.server in
    let mine = c.as_mut-judged.result.now.limits in
    let name = c.args.name.now in
    let given = c.unlimit_answer.result in
    subst
    (λ (doer : ParticipantView). participant_of lent c.unregister.new.self c.self.inside.context
    ≡ after_registering (act.Unlimit name c.args.socket) given doer)
    (boxed_is c.self.inside.context (ap (λ judged. judged.server) c.as_mut-judged.ensures.value)
    (ap (λ judged. judged.limits) c.as_mut-judged.ensures.value) c.self.view_is)
    (registered_as (act.Unlimit name c.args.socket) given lent lent mine c.unregister.new.self c.self.inside.context refl
    (unlimit_leaves mine c.unregister.new.self name c.args.socket c.unregister.result given c.unlimit_answer.ensures
    (subst (λ (text : List ℕ). OnOk c.unregister.result (Unregisters text c.args.socket mine c.unregister.new.self)) c.as_bytes.ensures.text
    c.unregister.ensures.ok)
    (subst (λ (text : List ℕ). OnErr c.unregister.result (HasNone text c.args.socket mine c.unregister.new.self)) c.as_bytes.ensures.text
    c.unregister.ensures.not_found)))
