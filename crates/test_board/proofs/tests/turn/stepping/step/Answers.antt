-- What a step leaves may be given back, by what its event tells.
use Rattle.std.proofs.Common.{None, ap, sym, subst}
use Rattle.hp_segs.specs.SegsView.{SegsView}
use Rattle.hp_core.specs.Stepping.{stepped}
use Rattle.hp_core.proofs.JudgedLemmas.{undenied}
use Rattle.hp_hall.specs.Giving.{GivesSegments}
use Rattle.hp_hall.specs.Standings.{LeavesStanding}
use Rattle.hp_serve.proofs.AskingFacts.ArmedMoves.{core_armed}
use Rattle.hp_serve.proofs.GivenSteps.{given_by_step, step_leaves, step_roster}
use Rattle.hp_serve.proofs.AskingFacts.Noting.{as_it_was, leaves_itself, noted_gives}
use Rattle.test_board.proofs.tests.turn.stepping.step.Goals as goal

pub returns-in_err-make_room-clause-gives : goal.returns-in_err-make_room-clause-gives
returns-in_err-make_room-clause-gives c = λ knows known.
    let taken = c.args.segs.now in
    subst (GivesSegments knows taken) (sym c.in_err-make_room.ensures.err) (noted_gives knows taken taken (as_it_was taken) (λ old. old))

pub returns-in_err-make_room-clause-leaves : goal.returns-in_err-make_room-clause-leaves
returns-in_err-make_room-clause-leaves c =
    subst (LeavesStanding c.args.segs.now) (sym c.in_err-make_room.ensures.err) (leaves_itself c.args.segs.now)

-- nothing is denied
pub returns-clause-gives : goal.returns-clause-gives
returns-clause-gives c = λ knows known.
    let undenied_step = undenied _ _ _ _ (λ denial. stepped denial c.args.event c.args.core.now c.make_room.new.segs) c.step.ensures.step in
    given_by_step None knows c.args.event c.args.core.now c.step.new.self c.args.segs.now c.make_room.new.segs c.step.new.segs c.step.result
    c.in_ok-make_room.ensures.ok c.requires.sound (core_armed c.args.segs.now c.args.core.now.deadline c.args.core.now.phase c.args.event _ _ _ c.step.ensures.moves)
    undenied_step known

pub returns-clause-leaves : goal.returns-clause-leaves
returns-clause-leaves c =
    let undenied_step = undenied _ _ _ _ (λ denial. stepped denial c.args.event c.args.core.now c.make_room.new.segs) c.step.ensures.step in
    step_leaves None c.args.event c.args.core.now c.step.new.self c.args.segs.now c.make_room.new.segs c.step.new.segs c.step.result
    c.in_ok-make_room.ensures.ok c.requires.sound (core_armed c.args.segs.now c.args.core.now.deadline c.args.core.now.phase c.args.event _ _ _ c.step.ensures.moves)
    undenied_step

pub returns-in_err-make_room-clause-roster : goal.returns-in_err-make_room-clause-roster
returns-in_err-make_room-clause-roster c = ap (λ (segs : SegsView). segs.roster) c.in_err-make_room.ensures.err

pub returns-clause-roster : goal.returns-clause-roster
returns-clause-roster c =
    let undenied_step = undenied _ _ _ _ (λ denial. stepped denial c.args.event c.args.core.now c.make_room.new.segs) c.step.ensures.step in
    step_roster None c.args.event c.args.core.now c.step.new.self c.args.segs.now c.make_room.new.segs c.step.new.segs c.step.result
    c.in_ok-make_room.ensures.ok c.requires.sound (core_armed c.args.segs.now c.args.core.now.deadline c.args.core.now.phase c.args.event _ _ _ c.step.ensures.moves)
    undenied_step
