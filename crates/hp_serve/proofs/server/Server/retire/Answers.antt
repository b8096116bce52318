-- What its run that is given up leaves, said of the participant that it is.
use Rattle.std.proofs.Common.{ℕ, ap, subst}
use Rattle.hp_hall.specs.HallState.{HasMapped}
use Rattle.hp_serve.specs.Asking.{HasSettledAsks}
use Rattle.hp_serve.specs.Party.{Party}
use Rattle.hp_serve.proofs.server.Server.retire.Goals as goal

pub returns-clause-settled : goal.returns-clause-settled
returns-clause-settled g c =
    let old = g.H.Hall.state c.args.hall.now in
    let new = g.H.Hall.state c.retire_run.new.hall in
    subst (λ (who : ℕ). HasSettledAsks (old.part who) (old.heard who) → HasSettledAsks (new.part who) (new.heard who))
    (ap (λ (party : Party). party.me) c.self.view_is) c.retire_run.ensures.settled

pub returns-clause-mapped : goal.returns-clause-mapped
returns-clause-mapped g c =
    subst (λ (who : ℕ). HasMapped who (g.H.Hall.state c.retire_run.new.hall)) (ap (λ (party : Party). party.me) c.self.view_is)
    c.retire_run.ensures.mapped
