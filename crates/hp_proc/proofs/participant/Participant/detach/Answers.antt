-- What it knows is as it was: its watchers are those that it had.
use Rattle.std.proofs.Common.{ap}
use Rattle.hp_proc.proofs.HandFacts.Boxed.{boxed_is, knows_named, named_detach}
use Rattle.hp_proc.proofs.participant.Participant.detach.Goals as goal

pub returns-clause-context : goal.returns-clause-context
returns-clause-context g c =
    let lent = c.deref_mut.result.now.server in
    knows_named c.self.inside.context c.deref_mut.result.now.limits lent c.detach.new.self
    (named_detach lent.me lent c.detach.new.self (g.H.Hall.state c.args.hall.now) (g.H.Hall.state c.detach.new.hall) _ c.detach.result c.detach.ensures.ok
    c.detach.ensures.err)
    (boxed_is c.self.inside.context (ap (λ judged. judged.server) c.deref_mut.ensures.value)
    (ap (λ judged. judged.limits) c.deref_mut.ensures.value) c.self.view_is)
