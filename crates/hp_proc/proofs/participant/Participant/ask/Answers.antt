-- It asked as what serves for it does, and its asks are settled.
use Rattle.std.proofs.Common.{ap, subst, sym}
use Rattle.std.specs.Prelude.{IfOk, OnErr}
use Rattle.hp_hall.specs.HallState.{HasMapped}
use Rattle.hp_proc.specs.Denying.{denials_of}
use Rattle.hp_serve.specs.AskSteps.{AsksIn, AsksNothing}
use Rattle.hp_serve.specs.Asking.{HasSettledAsks}
use Rattle.hp_proc.specs.ParticipantView.{ParticipantView}
use Rattle.hp_proc.proofs.HandFacts.Boxed.{boxed_is, hears_ask, knows_still}
use Rattle.hp_proc.proofs.participant.Participant.ask.Goals as goal

pub ask-requires-clause-settled : goal.ask-requires-clause-settled
ask-requires-clause-settled g c =
    let old = g.H.Hall.state c.args.hall.now in
    subst (λ (doer : ParticipantView). HasSettledAsks (old.part doer.party.me) (old.heard doer.party.me)) (sym (boxed_is c.self.inside.context (ap (λ judged. judged.server) c.as_mut-judged.ensures.value)
    (ap (λ judged. judged.limits) c.as_mut-judged.ensures.value) c.self.view_is))
    c.requires.settled

pub returns-clause-asks : goal.returns-clause-asks
returns-clause-asks g c =
    let old = g.H.Hall.state c.args.hall.now in
    let new = g.H.Hall.state c.ask.new.hall in
    subst
    (λ (doer : ParticipantView). IfOk c.ask.result (AsksIn (denials_of doer.context.standing) doer.party.me doer.party c.ask.new.self
    c.args.asked.now old new))
    (boxed_is c.self.inside.context (ap (λ judged. judged.server) c.as_mut-judged.ensures.value)
    (ap (λ judged. judged.limits) c.as_mut-judged.ensures.value) c.self.view_is) c.ask.ensures.asks

pub returns-clause-settled : goal.returns-clause-settled
returns-clause-settled g c =
    let new = g.H.Hall.state c.ask.new.hall in
    subst (λ (doer : ParticipantView). HasSettledAsks (new.part doer.party.me) (new.heard doer.party.me)) (boxed_is c.self.inside.context (ap (λ judged. judged.server) c.as_mut-judged.ensures.value)
    (ap (λ judged. judged.limits) c.as_mut-judged.ensures.value) c.self.view_is) c.ask.ensures.settled

pub returns-clause-mapped : goal.returns-clause-mapped
returns-clause-mapped g c =
    let new = g.H.Hall.state c.ask.new.hall in
    subst (λ (doer : ParticipantView). HasMapped doer.party.me new)
    (boxed_is c.self.inside.context (ap (λ judged. judged.server) c.as_mut-judged.ensures.value)
    (ap (λ judged. judged.limits) c.as_mut-judged.ensures.value) c.self.view_is) c.ask.ensures.mapped

pub returns-clause-err : goal.returns-clause-err
returns-clause-err g c =
    let old = g.H.Hall.state c.args.hall.now in
    let new = g.H.Hall.state c.ask.new.hall in
    subst
    (λ (doer : ParticipantView). OnErr c.ask.result (AsksNothing doer.party.me doer.party c.ask.new.self old new))
    (boxed_is c.self.inside.context (ap (λ judged. judged.server) c.as_mut-judged.ensures.value)
    (ap (λ judged. judged.limits) c.as_mut-judged.ensures.value) c.self.view_is) c.ask.ensures.err

-- what it knows is as it was: its watchers hear more, and are the same
pub returns-clause-context : goal.returns-clause-context
returns-clause-context g c =
    knows_still c.self.inside.context c.as_mut-judged.result.now.limits
    (hears_ask _ c.as_mut-judged.result.now.server.me c.as_mut-judged.result.now.server c.ask.new.self c.args.asked.now
    (g.H.Hall.state c.args.hall.now) (g.H.Hall.state c.ask.new.hall) c.ask.result c.ask.ensures.asks c.ask.ensures.err)
    (boxed_is c.self.inside.context (ap (λ judged. judged.server) c.as_mut-judged.ensures.value)
    (ap (λ judged. judged.limits) c.as_mut-judged.ensures.value) c.self.view_is)
