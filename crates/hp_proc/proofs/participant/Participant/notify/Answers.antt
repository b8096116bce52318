-- Where it stopped over telling of a run, it did what its server did.
use Rattle.std.proofs.Common.{ap, List, subst}
use Rattle.std.specs.Prelude.{OnErr}
use Rattle.hp_hall.specs.HallState.{Did}
use Rattle.hp_hall.specs.Mail.{MailStep}
use Rattle.hp_proc.specs.Denying.{denials_of}
use Rattle.hp_serve.specs.AskSteps.{StopsNotifying}
use Rattle.hp_proc.specs.ParticipantView.{ParticipantView}
use Rattle.hp_proc.proofs.HandFacts.Boxed.{boxed_is, hears_tell, knows_still}
use Rattle.hp_proc.proofs.participant.Participant.notify.Goals as goal

pub returns-clause-err : goal.returns-clause-err
returns-clause-err g c =
    let old = g.H.Hall.state c.args.hall.now in
    let new = g.H.Hall.state c.notify.new.hall in
    subst
    (λ (doer : ParticipantView). OnErr c.notify.result ((steps : List MailStep) × Did doer.party.me steps old new
    × StopsNotifying (denials_of doer.context.standing) old.count doer.party c.notify.new.self c.args.heap c.args.run.now steps))
    (boxed_is c.self.inside.context (ap (λ judged. judged.server) c.as_mut-judged.ensures.value)
    (ap (λ judged. judged.limits) c.as_mut-judged.ensures.value) c.self.view_is) c.notify.ensures.err

-- what it knows is as it was: its watchers hear more, and are the same
pub returns-clause-context : goal.returns-clause-context
returns-clause-context g c =
    knows_still c.self.inside.context c.as_mut-judged.result.now.limits
    (hears_tell _ c.as_mut-judged.result.now.server.me c.as_mut-judged.result.now.server c.notify.new.self c.args.heap c.args.run.now
    (g.H.Hall.state c.args.hall.now) (g.H.Hall.state c.notify.new.hall) c.notify.result c.notify.ensures.did c.notify.ensures.err)
    (boxed_is c.self.inside.context (ap (λ judged. judged.server) c.as_mut-judged.ensures.value)
    (ap (λ judged. judged.limits) c.as_mut-judged.ensures.value) c.self.view_is)
