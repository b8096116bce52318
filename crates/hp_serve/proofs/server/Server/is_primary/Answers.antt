-- Nobody else has a coordinator.
use Rattle.std.proofs.Common.{◌∙◌, ap, sym}
use Rattle.std.specs.Prelude.{is_some}
use Rattle.hp_serve.specs.Party.{Party}
use Rattle.hp_serve.proofs.Served.{no_due}
use Rattle.hp_serve.proofs.server.Server.is_primary.Goals as goal

pub returns-clause-other : goal.returns-clause-other
returns-clause-other g c = λ is.
    no_due c.args.self.now.core (sym (ap (λ (party : Party). is_some party.core) c.self.view_is) ∙ c.self.invariant.coordinator ∙ is)
