-- One more turn of all.
use Rattle.std.proofs.Common.{arith}
use Rattle.hp_solo.specs.Draining.{Drains}
use Rattle.hp_solo.specs.SoloCourse.{going_before}
use Rattle.hp_solo.proofs.SoloDrained.{turns_same, turns_then}
use Rattle.hp_solo.proofs.solo_hall.SoloHall.drain.Goals as goal

pub draining-init : goal.draining-init
draining-init g c = record {
  leaves = turns_same c.args.self.now;
  measure = omega arith;
  drains = λ going. Drains.none c.args.self.now;
}

pub draining-preserved : goal.draining-preserved
draining-preserved g c =
    let was = c.draining.invariant in
    let turn = c.turn_all-more.ensures in
    record {
      leaves = turns_then c.args.self.now c.draining.self c.turn_all-more.new.self was.leaves turn.leaves;
      measure = omega (arith, was.measure, turn.measure);
      drains = λ going.
          turn.drains going c.args.self.now (was.drains (going_before c.draining.self c.turn_all-more.new.self turn.leaves.later going));
    }

pub returns-then-not-more-clause-course : goal.returns-then-not-more-clause-course
returns-then-not-more-clause-course g c =
    (turns_then c.args.self.now c.draining.self c.turn_all-more.new.self c.draining.invariant.leaves c.turn_all-more.ensures.leaves).course

pub returns-then-not-more-clause-later : goal.returns-then-not-more-clause-later
returns-then-not-more-clause-later g c =
    (turns_then c.args.self.now c.draining.self c.turn_all-more.new.self c.draining.invariant.leaves c.turn_all-more.ensures.leaves).later

pub returns-then-not-more-clause-drains : goal.returns-then-not-more-clause-drains
returns-then-not-more-clause-drains g c = λ going.
    let turn = c.turn_all-more.ensures in
    turn.drains going c.args.self.now
    (c.draining.invariant.drains (going_before c.draining.self c.turn_all-more.new.self turn.leaves.later going))
