-- The names are in the hand of the first, which gives them back as they were.
use Rattle.std.proofs.Common.{subst}
use Rattle.hp_hall.specs.HallCalls.{HasTaken}
use Rattle.hp_hall.specs.declared.kept.Kept.{Kept}
use Rattle.hp_hall.specs.declared.kept.Kept.TheVariants.{Names}
use Rattle.hp_hall.specs.declared.slot.TheConstants.{NAMES_SLOT}
use Rattle.test_board.proofs.Naming.{are_names, may_give}
use Rattle.test_board.proofs.tests.chair.naming.name_found.Goals as goal

pub into_names-names-requires : goal.into_names-names-requires
into_names-names-requires g c = record { names = are_names c.take.result c.take.ensures.took.fits }

pub give-requires-clause-gives : goal.give-requires-clause-gives
give-requires-clause-gives g c =
    let old = g.H.Hall.state c.args.first.now in
    let mid = g.H.Hall.state c.take.new.self in
    let taken = c.into_names-names.result in
    let took : HasTaken 0 NAMES_SLOT (Names taken) old mid =
    subst (λ (kept : Kept). HasTaken 0 NAMES_SLOT kept old mid) c.into_names-names.ensures c.take.ensures.took in
    may_give 0 old mid taken took
