-- The moves of a growth without another member.
use Rattle.std.proofs.Common.{◌≡◌, true, Some, None, ◌∙◌, replicate}
use Rattle.hp_segs.specs.LaterSteps.{noted_failure}
use Rattle.hp_core.specs.Core.{is_open_for}
use Rattle.hp_core.specs.Moves.{cancels, failed, grants_alone}
use Rattle.hp_core.proofs.RoundLemmas.{none_below}
use Rattle.hp_core.proofs.StepLemmas.{generation_of_round, lowest_of_round, may_agree, may_cancel_noted}
use Rattle.hp_core.proofs.mapped.settle_growth.Goals as goal

pub returns-in-Some-clause-moves : goal.returns-in-Some-clause-moves
returns-in-Some-clause-moves c =
    let noted : noted_failure c.args.segs.now ≡ Some c.in-Some.cause = cc in
    cancels c.in-Some.cause (may_cancel_noted c.in-Some.cause c.args.segs.now noted c.requires.spare) (failed noted) c.cancel.ensures.step

pub returns-clause-moves : goal.returns-clause-moves
returns-clause-moves c =
    let segs = c.args.segs.now in
    let round = c.args.round.now in
    let opened : is_open_for c.args.round.now c.args.segs.now.growth ≡ true = cc in
    let unnoted : noted_failure c.args.segs.now ≡ None = cc in
    grants_alone round.generation c.requires.alone (generation_of_round round segs opened) (may_agree round segs opened unnoted c.requires.spare)
    (lowest_of_round round (replicate 16 round.generation) segs opened ∙ none_below segs.roster round.generation) c.grant.ensures.step
