-- One serving more, or the last.
use Rattle.std.proofs.Common.{◌≡◌, ◌∙◌, ℕ, ◌*◌, ◌++◌, Bool, true, false, None, Ok, Some, [], refl, ap, subst, arith}
use Rattle.std.specs.Prelude.{nat_lt}
use Rattle.std.specs.Result.{result_ok}
use Rattle.std.specs.declared.alloc.AllocError.{AllocError}
use Rattle.std.proofs.lemmas.Result.{err_from_is_err_and}
use Rattle.hp_hall.proofs.HallStates.{did_same, did_then}
use Rattle.hp_serve.specs.Coordinating.{IsServed}
use Rattle.hp_serve.specs.Falling.{served_of}
use Rattle.hp_serve.specs.Waiting.{AreServings, IsServedOut, most_servings}
use Rattle.hp_serve.proofs.Carrying.{stop_differs}
use Rattle.hp_serve.proofs.InHalls.{alone_next, alone_same, in_can, in_did}
use Rattle.hp_serve.proofs.Waits.{moved_differs, no_servings, ok_is, served_if, served_is, servings_more, some_more, weighs_so}
use Rattle.hp_serve.proofs.server.Server.serve_some.Goals as goal

pub loop-time-init : goal.loop-time-init
loop-time-init g c =
    let old = g.H.Hall.state c.args.hall.now in
    record {
      moved = refl;
      served = ([], did_same _ old, no_servings (g.J.Judge.denies c.args.judge.now) old.count c.args.self.now);
      measure = omega arith;
      alone = alone_same c.args.self.now.me c.args.self.now old c.requires.can.tied;
      goes_on = g.met.H.Hall.goes_on_same _;
    }

pub serve-requires : goal.serve-requires
serve-requires g c = record { may_ask = c.requires.may_ask; can = in_can c.loop-time.invariant.alone.stays c.requires.can }

pub loop-time-preserved : goal.loop-time-preserved
loop-time-preserved g c =
    let was = c.loop-time.invariant in
    let is = c.serve.ensures in
    let one = c.in_ok-more.ensures.served in
    let more = c.if-not-more.false in
    let old = g.H.Hall.state c.args.hall.now in
    let mid = g.H.Hall.state c.loop-time.hall in
    let new = g.H.Hall.state c.serve.new.hall in
    let scaled = ap (λ (n : ℕ). g.H.Hall.scale * n) (served_is c.serve.result true (ok_is c.serve.result c.in_ok-more.more _ c.in_ok-more.was more)) in
    let before = was.measure in
    let falls = is.measure in
    record {
      moved = some_more c.loop-time._time;
      served = (
        was.served.0 ++ one.0,
        did_then was.served.1 (in_did was.alone.stays one.1),
        servings_more old.count c.loop-time._time c.args.self.now c.loop-time.self c.serve.new.self was.served.0 one.0 was.served.2
            (subst (λ (b : Bool). IsServed (g.J.Judge.denies c.args.judge.now) old.count c.loop-time.self c.serve.new.self one.0
            (Some b)) more
            (subst (λ (n : ℕ). IsServed (g.J.Judge.denies c.args.judge.now) n c.loop-time.self c.serve.new.self one.0
            (Some c.in_ok-more.more)) was.alone.others.later.count one.2)),
      );
      measure = omega (arith, scaled, before, falls);
      alone = alone_next was.alone is.alone;
      goes_on = g.met.H.Hall.goes_on_then _ _ _ was.goes_on is.goes_on;
    }

-- IT STOPS

pub returns-in_err-more : goal.returns-in_err-more
returns-in_err-more g c =
    let was = c.loop-time.invariant in
    let is = c.serve.ensures in
    let one = c.in_err-more.ensures.served in
    let old = g.H.Hall.state c.args.hall.now in
    let mid = g.H.Hall.state c.loop-time.hall in
    let new = g.H.Hall.state c.serve.new.hall in
    let stopped = err_from_is_err_and c.from_residual.result c.from_residual.ensures.1 in
    let scaled = ap (λ (n : ℕ). g.H.Hall.scale * n) (ap served_of stopped.1) in
    let before = was.measure in
    let falls = is.measure in
    record {
      served = (
        was.served.0 ++ one.0,
        did_then was.served.1 (in_did was.alone.stays one.1),
        IsServedOut.stops c.loop-time._time c.loop-time.self was.served.0 one.0 c.loop-time-test.true was.served.2
            (subst (λ (n : ℕ). IsServed (g.J.Judge.denies c.args.judge.now) n c.loop-time.self c.serve.new.self one.0 None)
            was.alone.others.later.count one.2) refl (ap result_ok stopped.1),
      );
      measure = omega (arith, scaled, before, falls);
      rests = λ ok. absurd (stop_differs c.from_residual.result (ap result_ok stopped.1) ok);
      alone = alone_next was.alone is.alone;
      goes_on = g.met.H.Hall.goes_on_then _ _ _ was.goes_on is.goes_on;
    }

-- NOTHING IS LEFT FOR IT

pub returns-then-not-more : goal.returns-then-not-more
returns-then-not-more g c =
    let was = c.loop-time.invariant in
    let is = c.serve.ensures in
    let one = c.in_ok-more.ensures.served in
    let old = g.H.Hall.state c.args.hall.now in
    let mid = g.H.Hall.state c.loop-time.hall in
    let new = g.H.Hall.state c.serve.new.hall in
    let before = was.measure in
    let falls = is.measure in
    let answer = ap (λ (n : ℕ). g.H.Hall.scale * n) (served_if c.serve.result c.loop-time.moved) in
    record {
      served = (
        was.served.0 ++ one.0,
        did_then was.served.1 (in_did was.alone.stays one.1),
        IsServedOut.rests c.loop-time._time c.loop-time.self was.served.0 one.0 c.loop-time-test.true was.served.2
            (subst (λ (b : Bool). IsServed (g.J.Judge.denies c.args.judge.now) old.count c.loop-time.self c.serve.new.self one.0
            (Some b)) c.if-not-more.true
            (subst (λ (n : ℕ). IsServed (g.J.Judge.denies c.args.judge.now) n c.loop-time.self c.serve.new.self one.0
            (Some c.in_ok-more.more)) was.alone.others.later.count one.2))
            refl (ap Some was.moved),
      );
      measure = omega (arith, before, falls, answer);
      rests = λ ok. is.rests (ok_is c.serve.result c.in_ok-more.more _ c.in_ok-more.was c.if-not-more.true);
      alone = alone_next was.alone is.alone;
      goes_on = g.met.H.Hall.goes_on_then _ _ _ was.goes_on is.goes_on;
    }

-- IT HAS SERVED AS OFTEN AS IT MAY

pub returns-clause-served : goal.returns-clause-served
returns-clause-served g c =
    let was = c.loop-time.invariant in
    let ends : c.loop-time._time ≡ most_servings = omega arith in (
      was.served.0,
      was.served.1,
      IsServedOut.enough
          (subst (λ (n : ℕ). AreServings (g.J.Judge.denies c.args.judge.now)
          (g.H.Hall.state c.args.hall.now).count n c.args.self.now c.loop-time.self was.served.0) ends was.served.2)
          (ap Some (was.moved ∙ ap (λ (n : ℕ). nat_lt 0 n) ends)),
    )

pub returns-clause-measure : goal.returns-clause-measure
returns-clause-measure g c = weighs_so {E = AllocError} g.H.Hall.scale _ _ (Ok false) c.loop-time.moved c.loop-time.invariant.measure

pub returns-clause-rests : goal.returns-clause-rests
returns-clause-rests g c = λ is.
    let ends : c.loop-time._time ≡ most_servings = omega arith in
    absurd (moved_differs c.loop-time.moved _ refl (c.loop-time.invariant.moved ∙ ap (λ (n : ℕ). nat_lt 0 n) ends) is)
