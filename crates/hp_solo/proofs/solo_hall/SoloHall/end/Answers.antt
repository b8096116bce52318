-- What the participants leave is that of the hall as it is seen.
use Rattle.std.proofs.Common.{ap, sym, subst}
use Rattle.hp_solo.specs.Ending.{AreThere, LeaveTables, LeaveWatchers}
use Rattle.hp_solo.specs.Solo.{SoloView}
use Rattle.hp_solo.proofs.solo_hall.SoloHall.end.Goals as goal

pub ends_of-requires : goal.ends_of-requires
ends_of-requires g c = subst (λ (hall : SoloView). AreThere hall.servers) (sym c.self.view_is) c.requires.there

pub returns-clause-tables : goal.returns-clause-tables
returns-clause-tables g c = subst (λ (hall : SoloView). LeaveTables hall.servers c.in_ok-tables.tables.items) c.self.view_is c.in_ok-tables.ensures.tables

pub returns-clause-watchers : goal.returns-clause-watchers
returns-clause-watchers g c =
    subst (λ (hall : SoloView). LeaveWatchers hall.servers c.in_ok-tables.watchers.items) c.self.view_is c.in_ok-tables.ensures.watchers

pub returns-clause-plain : goal.returns-clause-plain
returns-clause-plain g c = ap (λ (hall : SoloView). hall.plain) c.self.view_is

pub returns-clause-tied : goal.returns-clause-tied
returns-clause-tied g c = c.sound.ensures.tied
