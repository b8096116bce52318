-- What was taken comes back as it was.
use Rattle.std.proofs.Common.{arith}
use Rattle.hp_plain.specs.Course.{course_then}
use Rattle.hp_plain.specs.PlainState.{plain_state}
use Rattle.hp_serve.proofs.SegmentSlots.{Took, put_stays, took_has}
use Rattle.test_solo.proofs.Callers.{stage_holds, stage_joins, stage_marks, stage_owns}
use Rattle.test_solo.proofs.StageLemmas.{staged_on}
use Rattle.test_solo.proofs.tests.stage.Stage.roster.Goals as goal

pub put_back-requires : goal.put_back-requires
put_back-requires c =
    let old = c.self.inside.hall in
    let staged = c.self.invariant.0 in
    let is : Took 0 c.take_segments-segs.result (plain_state old) (plain_state c.take_segments-segs.new.hall) = record {
      may = stage_holds old 0 (omega (arith, staged.0)) staged.1;
      took = c.take_segments-segs.ensures.took;
      slots = c.take_segments-segs.ensures.slots;
      others = c.take_segments-segs.ensures.others;
      measure = c.take_segments-segs.ensures.measure;
    } in
    record { has = took_has is }

pub invariant_of-self : goal.invariant_of-self
invariant_of-self c =
    let old = c.self.inside.hall in
    let staged = c.self.invariant.0 in
    let taken = c.take_segments-segs in
    let given = c.put_back in
    let is : Took 0 taken.result (plain_state old) (plain_state taken.new.hall) = record {
      may = stage_holds old 0 (omega (arith, staged.0)) staged.1;
      took = taken.ensures.took;
      slots = taken.ensures.slots;
      others = taken.ensures.others;
      measure = taken.ensures.measure;
    } in
    let stays = put_stays is given.ensures.back in
    staged_on old given.new.hall c.self.inside.primary c.self.inside.secondary
    (course_then old taken.new.hall given.new.hall taken.ensures.goes_on given.ensures.goes_on) stays.slots.home
    (stage_owns old given.new.hall stays) (stage_joins old given.new.hall stays) (stage_marks old given.new.hall stays) c.self.invariant
