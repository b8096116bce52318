-- The moves of a growth's round, and why it may be cancelled.
use Rattle.std.proofs.Common.{◌≡◌, true, Some, None, ◌∙◌, length, arith, rules}
use Rattle.hp_segs.specs.LaterSteps.{noted_failure}
use Rattle.hp_segs.specs.Steps.{lowest_member_below}
use Rattle.hp_segs.specs.declared.outcome.Cause.TheVariants.{Late}
use Rattle.hp_core.specs.Core.{is_open_for}
use Rattle.hp_core.specs.Moves.{cancels, failed, grants}
use Rattle.hp_core.specs.Rounds.{has_passed}
use Rattle.hp_core.proofs.StepLemmas.{lowest_of_round, may_agree, may_cancel_late, may_cancel_noted, timely_late}
use Rattle.hp_core.proofs.polling.poll_growth.Goals as goal

pub returns-in-Some-clause-moves : goal.returns-in-Some-clause-moves
returns-in-Some-clause-moves c =
    let noted : noted_failure c.args.segs.now ≡ Some c.in-Some.cause = cc in
    cancels c.in-Some.cause (may_cancel_noted c.in-Some.cause c.args.segs.now noted c.requires.spare) (failed noted) c.cancel.ensures.step

pub returns-in_default-lowest_behind-clause-moves :
    goal.returns-in_default-lowest_behind-clause-moves
returns-in_default-lowest_behind-clause-moves c =
    let segs = c.args.segs.now in
    let round = c.args.round.now in
    let opened : is_open_for c.args.round.now c.args.segs.now.growth ≡ true = cc in
    let unnoted : noted_failure c.args.segs.now ≡ None = cc in
    let all : lowest_member_below c.args.segs.now.roster c.args.acks.now c.args.round.now.generation ≡ None = cc in
    let long : length c.args.acks.now ≡ 16 = first_of (omega arith, search rules) in
    grants (may_agree round segs opened unnoted c.requires.spare) long
    (lowest_of_round round c.args.acks.now segs opened ∙ all) c.grant.ensures.step

pub cancel-requires-2 : goal.cancel-requires-2
cancel-requires-2 c =
    let opened : is_open_for c.args.round.now c.args.segs.now.growth ≡ true = cc in
    let unnoted : noted_failure c.args.segs.now ≡ None = cc in
    let lowest : lowest_member_below c.args.segs.now.roster c.args.acks.now c.args.round.now.generation ≡ Some c.in-Some-lowest_behind.member = cc in
    record {
      may = may_cancel_late c.args.round.now c.args.acks.now c.args.segs.now c.in-Some-lowest_behind.member c.args.times.since c.args.times.present
          opened unnoted lowest c.requires.spare;
    }

pub returns-clause-moves : goal.returns-clause-moves
returns-clause-moves c =
    let member = c.in-Some-lowest_behind.member in
    let opened : is_open_for c.args.round.now c.args.segs.now.growth ≡ true = cc in
    let unnoted : noted_failure c.args.segs.now ≡ None = cc in
    let lowest : lowest_member_below c.args.segs.now.roster c.args.acks.now c.args.round.now.generation ≡ Some c.in-Some-lowest_behind.member = cc in
    let passed : has_passed c.args.times ≡ true = cc in
    cancels (Late member.participant c.args.times.since c.args.times.present)
    (may_cancel_late c.args.round.now c.args.acks.now c.args.segs.now member c.args.times.since c.args.times.present opened unnoted lowest c.requires.spare)
    (timely_late c.args.round.now c.args.times c.args.acks.now c.args.segs.now member opened unnoted lowest passed) c.cancel-2.ensures.step
