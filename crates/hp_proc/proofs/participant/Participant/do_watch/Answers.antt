-- The watcher is judged by the names of the others.
use Rattle.std.proofs.Common.{◌≡◌, ◌∙◌, List, ℕ, ap, refl, subst}
use Rattle.std.specs.Prelude.{IfOk, OnOk}
use Rattle.hp_script.specs.declared.line.Act.TheVariants as act
use Rattle.hp_serve.specs.Watched.{names_of, with_watcher}
use Rattle.hp_serve.proofs.AskingFacts.AskedAlong.{if_ok}
use Rattle.hp_proc.specs.ParticipantView.{ParticipantView, after_registering, participant_of}
use Rattle.hp_proc.specs.Registering.{registering, watching}
use Rattle.hp_proc.proofs.HandFacts.Boxed.{boxed_is}
use Rattle.hp_proc.proofs.Registered.{registered_as, watch_answered, watch_leaves, watch_stops}
use Rattle.hp_proc.proofs.participant.Participant.do_watch.Goals as goal

pub returns-clause-given : goal.returns-clause-given
returns-clause-given g c =
    let lent = c.as_mut-judged.result.now.server in
    subst
    (λ (doer : ParticipantView). IfOk c.watch_answer.result
    (λ given. given ≡ registering doer.context.standing.watchers doer.context.standing.validators (act.Watch c.args.name.now)))
    (boxed_is c.self.inside.context (ap (λ judged. judged.server) c.as_mut-judged.ensures.value)
    (ap (λ judged. judged.limits) c.as_mut-judged.ensures.value) c.self.view_is)
    (subst (λ (text : List ℕ). IfOk c.watch_answer.result (λ given. given ≡ watching (names_of lent.listeners) text)) c.as_bytes.ensures.text
    (watch_answered lent.listeners c.as_bytes.result.now c.watch.result c.watch_answer.result c.watch.ensures.judged c.watch_answer.ensures))

pub returns-clause-left : goal.returns-clause-left
returns-clause-left g c =
    let lent = c.as_mut-judged.result.now.server in
    let mine = c.as_mut-judged.result.now.limits in
    let name = c.args.name.now in
    subst
    (λ (doer : ParticipantView). IfOk c.watch_answer.result
    (λ given. participant_of c.watch.new.self mine c.self.inside.context ≡ after_registering (act.Watch name) given doer))
    (boxed_is c.self.inside.context (ap (λ judged. judged.server) c.as_mut-judged.ensures.value)
    (ap (λ judged. judged.limits) c.as_mut-judged.ensures.value) c.self.view_is)
    (if_ok _ _ c.watch_answer.result
    (λ given left. registered_as (act.Watch name) given lent c.watch.new.self mine mine c.self.inside.context left refl)
    (watch_leaves name lent c.watch.new.self c.watch.result c.watch_answer.result c.watch_answer.ensures
    (subst (λ (text : List ℕ). OnOk c.watch.result (c.watch.new.self ≡ with_watcher text lent)) c.as_bytes.ensures.text c.watch.ensures.ok)
    c.watch.ensures.err))

pub returns-clause-err : goal.returns-clause-err
returns-clause-err g c =
    let lent = c.as_mut-judged.result.now.server in
    let mine = c.as_mut-judged.result.now.limits in
    watch_stops lent c.watch.new.self (participant_of c.watch.new.self mine c.self.inside.context ≡ c.args.self.now) c.watch.result
    c.watch_answer.result c.watch_answer.ensures c.watch.ensures.err
    (λ same. ap (λ party. participant_of party mine c.self.inside.context) same ∙ boxed_is c.self.inside.context
    (ap (λ judged. judged.server) c.as_mut-judged.ensures.value) (ap (λ judged. judged.limits) c.as_mut-judged.ensures.value) c.self.view_is)
