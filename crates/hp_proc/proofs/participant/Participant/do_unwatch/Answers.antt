-- The watcher is judged by the names of those that there are.
use Rattle.std.proofs.Common.{◌≡◌, List, ℕ, ap, refl, subst}
use Rattle.std.specs.Prelude.{OnOk}
use Rattle.hp_script.specs.declared.line.Act.TheVariants as act
use Rattle.hp_serve.specs.Watched.{names_of, without_watcher}
use Rattle.hp_proc.specs.ParticipantView.{ParticipantView, after_registering, participant_of}
use Rattle.hp_proc.specs.Registering.{registering, unwatching}
use Rattle.hp_proc.proofs.HandFacts.Boxed.{boxed_is}
use Rattle.hp_proc.proofs.Registered.{registered_as, unwatch_answered, unwatch_leaves}
use Rattle.hp_proc.proofs.participant.Participant.do_unwatch.Goals as goal

pub returns-clause-given : goal.returns-clause-given
returns-clause-given g c =
    let lent = c.as_mut-judged.result.now.server in
    subst
    (λ (doer : ParticipantView). c.unwatch_answer.result
    ≡ registering doer.context.standing.watchers doer.context.standing.validators (act.Unwatch c.args.name.now))
    (boxed_is c.self.inside.context (ap (λ judged. judged.server) c.as_mut-judged.ensures.value)
    (ap (λ judged. judged.limits) c.as_mut-judged.ensures.value) c.self.view_is)
    (subst (λ (text : List ℕ). c.unwatch_answer.result ≡ unwatching (names_of lent.listeners) text) c.as_bytes.ensures.text
    (unwatch_answered lent.listeners c.as_bytes.result.now c.unwatch.result c.unwatch_answer.result c.unwatch.ensures.judged
    c.unwatch_answer.ensures))

pub returns-clause-left : goal.returns-clause-left
returns-clause-left g c =
    let lent = c.as_mut-judged.result.now.server in
    let mine = c.as_mut-judged.result.now.limits in
    let name = c.args.name.now in
    let given = c.unwatch_answer.result in
    subst
    (λ (doer : ParticipantView). participant_of c.unwatch.new.self mine c.self.inside.context ≡ after_registering (act.Unwatch name) given doer)
    (boxed_is c.self.inside.context (ap (λ judged. judged.server) c.as_mut-judged.ensures.value)
    (ap (λ judged. judged.limits) c.as_mut-judged.ensures.value) c.self.view_is)
    (registered_as (act.Unwatch name) given lent c.unwatch.new.self mine mine c.self.inside.context
    (unwatch_leaves name lent c.unwatch.new.self c.unwatch.result given c.unwatch_answer.ensures
    (subst (λ (text : List ℕ). OnOk c.unwatch.result (c.unwatch.new.self ≡ without_watcher text lent)) c.as_bytes.ensures.text
    c.unwatch.ensures.ok) c.unwatch.ensures.err) refl)
