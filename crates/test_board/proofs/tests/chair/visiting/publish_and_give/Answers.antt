-- The pair of the heap is published, and then the heap may be given.
use Rattle.std.proofs.Common.{lit<}
use Rattle.hp_hall.proofs.HallStates.{but_then, later_then, slots_but}
use Rattle.hp_hall.proofs.Published.{gives_after, may_publish}
use Rattle.hp_hall.specs.HallState.{known_to}
use Rattle.test_board.proofs.tests.chair.visiting.publish_and_give.Goals as goal

pub publish-requires-clause-may : goal.publish-requires-clause-may
publish-requires-clause-may g c =
    may_publish (known_to 0 (g.H.Hall.state c.args.hall.now)) 0 (record { heap = c.args.heap; pen = c.args.pen }) c.requires.gives

pub give-requires : goal.give-requires
give-requires g c =
    let told = c.publish.ensures.published in
    record {
      serves = told.others.later.serves 0 c.requires.serves;
      slot = lit< tt;
      gives = gives_after 0 0 (record { heap = c.args.heap; pen = c.args.pen }) c.publish.new.kept (g.H.Hall.state c.args.hall.now)
          (g.H.Hall.state c.publish.new.self) c.sound.ensures c.requires.gives told;
    }

pub returns : goal.returns
returns g c =
    let told = c.publish.ensures.published in
    record {
      free = c.give.ensures.gave.taken;
      slots = but_then (slots_but told.slots) c.give.ensures.slots;
      later = later_then told.others.later c.give.ensures.others.later;
      goes_on = g.met.H.Hall.goes_on_then _ _ _ c.publish.ensures.goes_on c.give.ensures.goes_on;
    }
