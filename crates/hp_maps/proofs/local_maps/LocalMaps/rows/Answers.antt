-- Its rows have addresses of their own.
use Rattle.std.proofs.Common.{subst}
use Rattle.hp_base.specs.Mapping.{AreApart}
use Rattle.hp_maps.specs.MapsView.{MapsView}
use Rattle.hp_maps.proofs.local_maps.LocalMaps.rows.Goals as goal

pub returns-clause-apart : goal.returns-clause-apart
returns-clause-apart g c = subst (λ (maps : MapsView). AreApart maps.rows) c.self.view_is c.self.invariant.apart
