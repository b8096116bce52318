-- It served as what serves for it did.
use Rattle.std.proofs.Common.{ap, List, subst}
use Rattle.std.specs.Result.{result_ok}
use Rattle.hp_hall.specs.HallState.{Did}
use Rattle.hp_hall.specs.Mail.{MailStep}
use Rattle.hp_proc.specs.Denying.{denials_of}
use Rattle.hp_serve.specs.Coordinating.{IsServed}
use Rattle.hp_proc.specs.ParticipantView.{ParticipantView}
use Rattle.hp_serve.proofs.HearsLemmas.{hears_served}
use Rattle.hp_proc.proofs.HandFacts.Boxed.{boxed_is, knows_still}
use Rattle.hp_proc.proofs.participant.Participant.serve.Goals as goal

pub returns-clause-served : goal.returns-clause-served
returns-clause-served g c =
    let old = g.H.Hall.state c.args.hall.now in
    let new = g.H.Hall.state c.serve.new.hall in
    subst
    (λ (doer : ParticipantView). (steps : List MailStep) × Did doer.party.me steps old new
    × IsServed (denials_of doer.context.standing) old.count doer.party c.serve.new.self steps (result_ok c.serve.result))
    (boxed_is c.self.inside.context (ap (λ judged. judged.server) c.as_mut-judged.ensures.value)
    (ap (λ judged. judged.limits) c.as_mut-judged.ensures.value) c.self.view_is) c.serve.ensures.served

-- what it knows is as it was: its watchers hear more, and are the same
pub returns-clause-context : goal.returns-clause-context
returns-clause-context g c =
    knows_still c.self.inside.context c.as_mut-judged.result.now.limits
    (hears_served (g.H.Hall.state c.args.hall.now).count c.as_mut-judged.result.now.server c.serve.new.self c.serve.ensures.served.0
    (result_ok c.serve.result) c.serve.ensures.served.2)
    (boxed_is c.self.inside.context (ap (λ judged. judged.server) c.as_mut-judged.ensures.value)
    (ap (λ judged. judged.limits) c.as_mut-judged.ensures.value) c.self.view_is)
