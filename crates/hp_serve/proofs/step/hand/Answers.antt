-- The log that is given back begins with the one that was taken.
use Rattle.std.proofs.Common.{◌∙◌, false, [], ◌∷◌, refl, ap, sym}
use Rattle.hp_hall.proofs.Formed.{ranges_given}
use Rattle.hp_hall.specs.Giving.{Knows}
use Rattle.hp_hall.specs.HallState.{known_to}
use Rattle.hp_segs.specs.SegsView.{is_member}
use Rattle.hp_serve.specs.Serving.{gives_segments}
use Rattle.hp_serve.proofs.GivenSteps.{handed_by}
use Rattle.hp_serve.proofs.AskingFacts.Noting.{gives_in_place}
use Rattle.hp_serve.proofs.Standing.{behind_same}
use Rattle.hp_serve.proofs.step.hand.Goals as goal

pub give_segments-requires : goal.give_segments-requires
give_segments-requires g c =
    let old = g.H.Hall.state c.args.hall.now in
    let has = c.requires.has in
    let step = c.step_with_room-answer in
    let leaves = step.ensures.leaves in
    let unnamed : Knows = record (known_to 0 old) { naming = false } in
    record {
      serves = has.serves;
      gives = gives_in_place (known_to 0 old) c.args.segs step.new.segs has.taken (step.ensures.gives (known_to 0 old) c.requires.known);
      same = behind_same 0 (old.part 0) c.args.segs step.new.segs has.standing leaves.standing (leaves.armed 0)
          (ranges_given unnamed c.args.segs step.new.segs (step.ensures.gives unnamed c.requires.known).form refl);
    }

pub returns-clause-log : goal.returns-clause-log
returns-clause-log g c =
    let gives = c.step_with_room-answer.ensures.gives (known_to 0 (g.H.Hall.state c.args.hall.now)) c.requires.known in
    (gives.more, sym c.give_segments.ensures.back.gave.log ∙ gives.log)

pub returns-clause-back : goal.returns-clause-back
returns-clause-back g c =
    let given = c.give_segments.ensures in
    let back = given.back in
    let roster = ap (λ roster. is_member roster 0) c.step_with_room-answer.ensures.roster in
    record {
      taken = back.gave.taken;
      home = back.gave.home;
      slots = back.slots;
      parts = record { part = given.part; joined = back.gave.joined ∙ roster ∙ c.requires.has.roster; lines = back.gave.lines };
      others = back.others;
    }

pub returns-clause-own : goal.returns-clause-own
returns-clause-own g c = c.give_segments.ensures.back.gave.own

pub returns-clause-measure : goal.returns-clause-measure
returns-clause-measure g c = c.give_segments.ensures.back.measure

pub returns-clause-handed : goal.returns-clause-handed
returns-clause-handed g c =
    let step = c.step_with_room-answer in (
      gives_segments step.new.segs ∷ [],
      c.give_segments.ensures.back.gave.did,
      handed_by (g.J.Judge.denies c.args.judge.now) c.args.event c.args.core.now step.new.core c.args.segs step.new.segs step.result
          step.ensures.ok step.ensures.err,
    )
