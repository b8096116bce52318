-- One row at most stands at a slot.
use Rattle.std.proofs.Common.{arith, sym}
use Rattle.hp_maps.specs.Events.{stands_at}
use Rattle.hp_maps.proofs.FindLemmas.{found_there, none_there}
use Rattle.hp_maps.proofs.EventFacts.FreedCounts.{stands_once}
use Rattle.hp_maps.proofs.MapLemmas.{no_row}
use Rattle.hp_maps.proofs.telling.finding.found_at.Goals as goal

pub returns-in-Some : goal.returns-in-Some
returns-in-Some c =
    let stands = stands_at c.args.before.now c.args.list c.args.slot in
    let rows = c.args.rows.now in
    sym (found_there stands rows c.in-Some.at no_row c.in-Some.ensures.some.within (c.in-Some.ensures.some.there no_row)
    (stands_once rows c.args.before.now c.args.list c.args.slot c.requires))

pub returns-in-None : goal.returns-in-None
returns-in-None c =
    let stands = stands_at c.args.before.now c.args.list c.args.slot in
    sym (none_there stands c.args.rows.now (λ at within d. c.in-None.ensures.none at (omega arith) within d))
