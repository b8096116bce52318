use Rattle.std.proofs.Common.{List, ap, subst}
use Rattle.hp_base.specs.Mapping.{AreApart}
use Rattle.hp_base.specs.declared.row.Row.{Row}
use Rattle.hp_serve.specs.Party.{Party}
use Rattle.hp_serve.proofs.server.Server.rows.Goals as goal

pub returns-clause-apart : goal.returns-clause-apart
returns-clause-apart g c =
    subst (λ (rows : List Row). AreApart rows) (ap (λ (party : Party). party.maps.rows) c.self.view_is) c.rows.ensures.apart
