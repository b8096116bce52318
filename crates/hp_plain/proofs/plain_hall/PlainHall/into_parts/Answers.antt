use Rattle.std.proofs.Common.{sym, subst}
use Rattle.hp_plain.specs.HallInside.{hall_view}
use Rattle.hp_plain.specs.Opening.{AreHome}
use Rattle.hp_plain.proofs.HandedOut.{all_home}
use Rattle.hp_plain.proofs.plain_hall.PlainHall.into_parts.Goals as goal

pub from_slots-segs-requires-clause-slots : goal.from_slots-segs-requires-clause-slots
from_slots-segs-requires-clause-slots c =
    all_home (hall_view c.self.inside) c.self.invariant.hall (subst AreHome (sym c.self.view_is) c.requires.home)
