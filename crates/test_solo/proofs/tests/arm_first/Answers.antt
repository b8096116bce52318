-- The heap is in its hand, and it was armed with no ask before.
use Rattle.std.proofs.Common.{ℕ, sym, subst}
use Rattle.std.specs.Prelude.{IsSome}
use Rattle.test_solo.proofs.Arming.{armed_then, holds_it, may_arm, none_open}
use Rattle.test_solo.proofs.tests.arm_first.Goals as goal

pub arm-requires : goal.arm-requires
arm-requires g c =
    let me = c.args.me in
    let old = g.H.Hall.state c.args.hall.now in
    let mid = g.H.Hall.state c.take.new.self in
    let is = c.take.ensures in
    record {
      may = may_arm me old mid c.take.result is.took is.slots is.others c.requires.may;
      few = c.requires.few;
      settled = none_open me old mid c.take.result is.took is.slots is.others c.requires.unarmed;
      holds = subst (λ (heap : ℕ). IsSome (mid.part me heap).holding) (sym c.requires.first)
          (holds_it me old mid c.take.result is.took is.slots is.others);
    }

pub returns-in-Ok : goal.returns-in-Ok
returns-in-Ok g c =
    let me = c.args.me in
    let old = g.H.Hall.state c.args.hall.now in
    let mid = g.H.Hall.state c.take.new.self in
    let is = c.take.ensures in
    let then = armed_then me old mid c.take.result is.took is.slots is.others (g.H.Hall.state c.arm.new.hall) c.arm.ensures.stays in
    record {
      slots = then.slots;
      marked = then.marked;
      joined = then.joined;
      own = then.own;
      others = then.others;
      goes_on = g.met.H.Hall.goes_on_then _ _ _ c.take.ensures.goes_on c.arm.ensures.goes_on;
    }

pub returns-in-Err : goal.returns-in-Err
returns-in-Err g c =
    let me = c.args.me in
    let old = g.H.Hall.state c.args.hall.now in
    let mid = g.H.Hall.state c.take.new.self in
    let is = c.take.ensures in
    let then = armed_then me old mid c.take.result is.took is.slots is.others (g.H.Hall.state c.arm.new.hall) c.arm.ensures.stays in
    record {
      slots = then.slots;
      marked = then.marked;
      joined = then.joined;
      own = then.own;
      others = then.others;
      goes_on = g.met.H.Hall.goes_on_then _ _ _ c.take.ensures.goes_on c.arm.ensures.goes_on;
    }
