-- It took the turn that what serves for it took.
use Rattle.std.proofs.Common.{◌≡◌, ◌+◌, ◌≤◌, Result, Ok, Err, ap, List, subst}
use Rattle.std.specs.Prelude.{OnErr}
use Rattle.std.specs.Result.{result_ok}
use Rattle.hp_hall.specs.HallState.{Did}
use Rattle.hp_hall.specs.Mail.{MailStep}
use Rattle.hp_proc.specs.Denying.{denials_of}
use Rattle.hp_serve.specs.InHall.{left_to_do}
use Rattle.hp_serve.specs.Waiting.{IsTurned}
use Rattle.hp_proc.specs.ParticipantView.{ParticipantView}
use Rattle.hp_serve.proofs.HearsLemmas.{hears_turned}
use Rattle.hp_proc.proofs.HandFacts.Boxed.{boxed_is, knows_still}
use Rattle.hp_proc.proofs.participant.Participant.turn.Goals as goal

-- two facts of a refusal, as one
both : {T E : Type 0} (result : Result T E) (P Q : Type 0) → OnErr result P → OnErr result Q → OnErr result (P × Q)
both (Ok value) P Q one other = tt
both (Err refusal) P Q one other = (one, other)

pub returns-clause-turned : goal.returns-clause-turned
returns-clause-turned g c =
    let old = g.H.Hall.state c.args.hall.now in
    let new = g.H.Hall.state c.turn.new.hall in
    subst
    (λ (doer : ParticipantView). (steps : List MailStep) × Did doer.party.me steps old new
    × IsTurned (denials_of doer.context.standing) old.count c.args.until doer.party c.turn.new.self steps (result_ok c.turn.result))
    (boxed_is c.self.inside.context (ap (λ judged. judged.server) c.as_mut-judged.ensures.value)
    (ap (λ judged. judged.limits) c.as_mut-judged.ensures.value) c.self.view_is) c.turn.ensures.turned

-- what it knows is as it was: its watchers hear more, and are the same
pub returns-clause-context : goal.returns-clause-context
returns-clause-context g c =
    knows_still c.self.inside.context c.as_mut-judged.result.now.limits
    (hears_turned (g.H.Hall.state c.args.hall.now).count c.args.until c.as_mut-judged.result.now.server c.turn.new.self c.turn.ensures.turned.0
    (result_ok c.turn.result) c.turn.ensures.turned.2)
    (boxed_is c.self.inside.context (ap (λ judged. judged.server) c.as_mut-judged.ensures.value)
    (ap (λ judged. judged.limits) c.as_mut-judged.ensures.value) c.self.view_is)

-- one that somebody stopped raised no measure, and the clock stood
pub returns-clause-err : goal.returns-clause-err
returns-clause-err g c =
    let old = g.H.Hall.state c.args.hall.now in
    let new = g.H.Hall.state c.turn.new.hall in
    subst
    (λ (doer : ParticipantView). OnErr c.turn.result ((left_to_do g.H.Hall.scale g.H.Hall.pending c.turn.new.self new
    + g.H.Hall.pending new.clock c.args.until ≤ left_to_do g.H.Hall.scale g.H.Hall.pending doer.party old
    + g.H.Hall.pending old.clock c.args.until) × (new.clock ≡ old.clock)))
    (boxed_is c.self.inside.context (ap (λ judged. judged.server) c.as_mut-judged.ensures.value)
    (ap (λ judged. judged.limits) c.as_mut-judged.ensures.value) c.self.view_is)
    (both c.turn.result _ _ c.turn.ensures.err c.turn.ensures.stands)

-- it paused as what serves for it did
pub returns-clause-paused : goal.returns-clause-paused
returns-clause-paused g c = (c.turn.ensures.paused, c.turn.ensures.rests)
