-- What a step leaves may be given back, by what its event tells.
use Rattle.std.proofs.Common.{ap, sym, subst}
use Rattle.hp_segs.specs.SegsView.{SegsView}
use Rattle.hp_hall.specs.Giving.{GivesSegments}
use Rattle.hp_hall.specs.Standings.{LeavesStanding}
use Rattle.hp_serve.proofs.AskingFacts.ArmedMoves.{core_armed}
use Rattle.hp_serve.proofs.GivenSteps.{given_by_step, step_leaves, step_roster, stepped_with_room}
use Rattle.hp_serve.proofs.AskingFacts.Noting.{as_it_was, leaves_itself, noted_gives}
use Rattle.hp_serve.proofs.step.step_with_room.Goals as goal

pub returns-in_err-make_room-clause-gives : goal.returns-in_err-make_room-clause-gives
returns-in_err-make_room-clause-gives g c = λ knows known.
    let taken = c.args.segs.now in
    subst (GivesSegments knows taken) (sym c.in_err-make_room.ensures.err) (noted_gives knows taken taken (as_it_was taken) (λ old. old))

pub returns-in_err-make_room-clause-leaves : goal.returns-in_err-make_room-clause-leaves
returns-in_err-make_room-clause-leaves g c =
    subst (LeavesStanding c.args.segs.now) (sym c.in_err-make_room.ensures.err) (leaves_itself c.args.segs.now)

pub returns-clause-ok : goal.returns-clause-ok
returns-clause-ok g c =
    stepped_with_room (g.J.Judge.denies c.args.judge.now) c.args.event c.args.core.now c.step.new.self c.args.segs.now
    c.make_room.new.segs c.step.new.segs c.step.result
    c.in_ok-make_room.ensures.ok c.step.ensures.step

pub returns-clause-gives : goal.returns-clause-gives
returns-clause-gives g c = λ knows known.
    let by = c.step.ensures.step in
    given_by_step by.0 knows c.args.event c.args.core.now c.step.new.self c.args.segs.now c.make_room.new.segs c.step.new.segs c.step.result
    c.in_ok-make_room.ensures.ok c.requires.sound (core_armed c.args.segs.now c.args.core.now.deadline c.args.core.now.phase c.args.event _ _ _ c.step.ensures.moves)
    by.2 known

pub returns-clause-leaves : goal.returns-clause-leaves
returns-clause-leaves g c =
    let by = c.step.ensures.step in
    step_leaves by.0 c.args.event c.args.core.now c.step.new.self c.args.segs.now c.make_room.new.segs c.step.new.segs c.step.result
    c.in_ok-make_room.ensures.ok c.requires.sound (core_armed c.args.segs.now c.args.core.now.deadline c.args.core.now.phase c.args.event _ _ _ c.step.ensures.moves)
    by.2

pub returns-in_err-make_room-clause-roster : goal.returns-in_err-make_room-clause-roster
returns-in_err-make_room-clause-roster g c = ap (λ (segs : SegsView). segs.roster) c.in_err-make_room.ensures.err

pub returns-clause-roster : goal.returns-clause-roster
returns-clause-roster g c =
    let by = c.step.ensures.step in
    step_roster by.0 c.args.event c.args.core.now c.step.new.self c.args.segs.now c.make_room.new.segs c.step.new.segs c.step.result
    c.in_ok-make_room.ensures.ok c.requires.sound (core_armed c.args.segs.now c.args.core.now.deadline c.args.core.now.phase c.args.event _ _ _ c.step.ensures.moves)
    by.2
