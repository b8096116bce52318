-- It gave the run up as what serves for it does: its asks stay settled, and its table has the pages of the heaps that it holds.
use Rattle.std.proofs.Common.{ap, subst}
use Rattle.hp_hall.specs.HallState.{HasMapped}
use Rattle.hp_serve.specs.Asking.{HasSettledAsks}
use Rattle.hp_proc.specs.ParticipantView.{ParticipantView}
use Rattle.hp_proc.proofs.HandFacts.Boxed.{boxed_is}
use Rattle.hp_proc.proofs.participant.Participant.retire.Goals as goal

pub returns-clause-settled : goal.returns-clause-settled
returns-clause-settled g c =
    let old = g.H.Hall.state c.args.hall.now in
    let new = g.H.Hall.state c.retire.new.hall in
    subst
    (λ (doer : ParticipantView). HasSettledAsks (old.part doer.party.me) (old.heard doer.party.me)
    → HasSettledAsks (new.part doer.party.me) (new.heard doer.party.me))
    (boxed_is c.self.inside.context (ap (λ judged. judged.server) c.deref.ensures) (ap (λ judged. judged.limits) c.deref.ensures) c.self.view_is) c.retire.ensures.settled

pub returns-clause-mapped : goal.returns-clause-mapped
returns-clause-mapped g c =
    let new = g.H.Hall.state c.retire.new.hall in
    subst (λ (doer : ParticipantView). HasMapped doer.party.me new) (boxed_is c.self.inside.context (ap (λ judged. judged.server) c.deref.ensures) (ap (λ judged. judged.limits) c.deref.ensures) c.self.view_is) c.retire.ensures.mapped
