-- Each catching up leads on, and the last answer is posted, or it stops.
use Rattle.std.proofs.Common.{◌++◌, [], ap, sym, subst, arith}
use Rattle.std.specs.Prelude.{Bool, is_ok}
use Rattle.std.proofs.lemmas.Result.{err_from_is_err_and}
use Rattle.hp_serve.specs.Coordinating.{IsCarried}
use Rattle.hp_serve.specs.Falling.{own_measure}
use Rattle.hp_serve.specs.Posting.{IsPosted}
use Rattle.hp_serve.proofs.Carrying.{leads_here, leads_more, leads_posted, leads_stopped, less_under_way}
use Rattle.hp_serve.proofs.Handed.{mapped_falls, mapped_spoken}
use Rattle.hp_serve.proofs.Scaled.{core_scaled, mapped_still, own_measure_still}
use Rattle.hp_hall.proofs.HallStates.{did_same, did_then}
use Rattle.hp_serve.proofs.InHalls.{alone_same, alone_then, coordinates_on}
use Rattle.hp_serve.proofs.server.Server.carry.Goals as goal

pub loop-answer-init : goal.loop-answer-init
loop-answer-init g c = record {
  spoken = c.requires.spoken;
  carried = ([], did_same 0 _, leads_here (g.H.Hall.state c.args.hall.now).count c.args.self.now c.args.answer);
  measure = omega arith;
  alone = alone_same 0 c.args.self.now (g.H.Hall.state c.args.hall.now) c.requires.can.tied;
  goes_on = g.met.H.Hall.goes_on_same _;
}

pub loop-answer-preserved : goal.loop-answer-preserved
loop-answer-preserved g c =
    let was = c.loop-answer.invariant in
    let mapped = c.in_ok-next.ensures.mapped in
    let must = c.must_map.ensures.told c.loop-answer-test.true in
    let falls = mapped_falls c.loop-answer.self c.map_again.new.self mapped.0 c.in_ok-next.next mapped.2 in
    let scaled =
    core_scaled g.H.Hall.scale g.H.Hall.pending g.met.H.Hall.pending_most (g.H.Hall.state c.loop-answer.hall).clock (g.H.Hall.state c.map_again.new.hall).clock
    c.map_again.ensures.alone.others.clock 0 _ c.loop-answer.self.core c.map_again.new.self.core c.in_ok-next.next falls
    in
    let measure = was.measure in
    let lighter = c.map_again.ensures.measure in
    record {
      spoken = mapped_spoken c.loop-answer.self c.map_again.new.self mapped.0 c.in_ok-next.next mapped.2;
      carried = (
        was.carried.0 ++ mapped.0,
        did_then was.carried.1 mapped.1,
        leads_more (g.H.Hall.state c.args.hall.now).count c.args.self.now c.loop-answer.self c.map_again.new.self c.args.answer c.loop-answer.answer
            c.in_ok-next.next was.carried.0 mapped.0 was.carried.2 must mapped.2,
      );
      measure = omega (arith, scaled, measure, lighter);
      alone = alone_then was.alone c.map_again.ensures.alone;
      goes_on = g.met.H.Hall.goes_on_then _ _ _ was.goes_on c.map_again.ensures.goes_on;
    }

pub map_again-requires : goal.map_again-requires
map_again-requires g c = record { may_ask = c.requires.may_ask; can = coordinates_on c.loop-answer.invariant.alone c.requires.can }

pub post_out-requires-clause-can : goal.post_out-requires-clause-can
post_out-requires-clause-can g c = coordinates_on c.loop-answer.invariant.alone c.requires.can

pub post_out-requires-clause-spoken : goal.post_out-requires-clause-spoken
post_out-requires-clause-spoken g c = c.loop-answer.invariant.spoken

pub returns-clause-alone : goal.returns-clause-alone
returns-clause-alone g c = alone_then c.loop-answer.invariant.alone c.post_out.ensures.alone

pub returns-in_err-next-clause-alone : goal.returns-in_err-next-clause-alone
returns-in_err-next-clause-alone g c = alone_then c.loop-answer.invariant.alone c.map_again.ensures.alone

pub loop-answer-smaller : goal.loop-answer-smaller
loop-answer-smaller g c =
    let mapped = c.in_ok-next.ensures.mapped in
    less_under_way c.loop-answer.self.core c.map_again.new.self.core c.loop-answer.answer c.in_ok-next.next
    (c.must_map.ensures.told c.loop-answer-test.true)
    (mapped_falls c.loop-answer.self c.map_again.new.self mapped.0 c.in_ok-next.next mapped.2)

pub returns-in_err-next-clause-carried : goal.returns-in_err-next-clause-carried
returns-in_err-next-clause-carried g c =
    let was = c.loop-answer.invariant in
    let mapped = c.in_err-next.ensures.mapped in
    let whole =
    leads_stopped (g.H.Hall.state c.args.hall.now).count c.args.self.now c.loop-answer.self c.map_again.new.self c.args.answer c.loop-answer.answer
    was.carried.0 mapped.0 was.carried.2 (c.must_map.ensures.told c.loop-answer-test.true) mapped.2
    in
    let stopped = err_from_is_err_and c.from_residual.result c.from_residual.ensures.1 in (
      whole.0,
      was.carried.0 ++ mapped.0,
      did_then was.carried.1 mapped.1,
      subst
          (λ (goes : Bool). IsCarried (g.H.Hall.state c.args.hall.now).count whole.0 c.args.self.now c.map_again.new.self c.args.answer
          (was.carried.0 ++ mapped.0) goes) (sym (ap is_ok stopped.1)) whole.1,
    )

pub returns-in_err-next-clause-measure : goal.returns-in_err-next-clause-measure
returns-in_err-next-clause-measure g c =
    let mapped = c.in_err-next.ensures.mapped in
    let still = mapped_still c.loop-answer.self c.map_again.new.self mapped.0 mapped.2 in
    let own = ap (own_measure g.H.Hall.scale (g.H.Hall.pending (g.H.Hall.state c.map_again.new.hall).clock)) still in
    let clock =
    own_measure_still g.H.Hall.scale g.H.Hall.pending (g.H.Hall.state c.loop-answer.hall).clock (g.H.Hall.state c.map_again.new.hall).clock c.loop-answer.self.core
    c.map_again.ensures.alone.others.clock
    in
    let measure = c.loop-answer.invariant.measure in
    let lighter = c.map_again.ensures.measure in
    omega (arith, own, clock, measure, lighter)

pub returns-clause-carried : goal.returns-clause-carried
returns-clause-carried g c =
    let was = c.loop-answer.invariant in
    let posted = c.post_out.ensures.posted in
    let whole =
    leads_posted (g.H.Hall.state c.args.hall.now).count c.args.self.now c.loop-answer.self c.post_out.new.self c.args.answer c.loop-answer.answer
    was.carried.0 posted.0 was.carried.2
    (subst (λ n. IsPosted n c.loop-answer.self c.post_out.new.self c.loop-answer.answer posted.0) was.alone.others.later.count posted.2)
    in
    (whole.0, was.carried.0 ++ posted.0, did_then was.carried.1 posted.1, whole.1)

pub returns-clause-measure : goal.returns-clause-measure
returns-clause-measure g c =
    let own = ap (own_measure g.H.Hall.scale (g.H.Hall.pending (g.H.Hall.state c.post_out.new.hall).clock)) c.post_out.ensures.core in
    let clock =
    own_measure_still g.H.Hall.scale g.H.Hall.pending (g.H.Hall.state c.loop-answer.hall).clock (g.H.Hall.state c.post_out.new.hall).clock c.loop-answer.self.core
    c.post_out.ensures.alone.others.clock
    in
    let measure = c.loop-answer.invariant.measure in
    let posted = c.post_out.ensures.measure in
    omega (arith, own, clock, measure, posted)

pub returns-clause-goes_on : goal.returns-clause-goes_on
returns-clause-goes_on g c = g.met.H.Hall.goes_on_then _ _ _ c.loop-answer.invariant.goes_on c.post_out.ensures.goes_on

pub returns-in_err-next-clause-goes_on : goal.returns-in_err-next-clause-goes_on
returns-in_err-next-clause-goes_on g c = g.met.H.Hall.goes_on_then _ _ _ c.loop-answer.invariant.goes_on c.map_again.ensures.goes_on
