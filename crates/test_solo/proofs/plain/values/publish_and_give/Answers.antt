use Rattle.std.proofs.Common.{sym, ap, subst}
use Rattle.hp_hall.proofs.HallStates.{but_then, others_then, slots_but}
use Rattle.hp_hall.proofs.Published.{gives_after, may_publish}
use Rattle.hp_plain.proofs.Given.{known}
use Rattle.hp_plain.specs.PlainState.{plain_state}
use Rattle.test_solo.proofs.plain.values.publish_and_give.Goals as goal

pub publish-requires-clause-may : goal.publish-requires-clause-may
publish-requires-clause-may c =
    may_publish (known c.args.hall.now c.args.me) c.args.index (record { heap = c.args.heap; pen = c.args.pen }) c.requires.gives

pub give-requires-clause-gives : goal.give-requires-clause-gives
give-requires-clause-gives c =
    gives_after c.args.me c.args.index (record { heap = c.args.heap; pen = c.args.pen }) c.publish.new.kept (plain_state c.args.hall.now)
    (plain_state c.publish.new.self) c.sound.ensures c.requires.gives c.publish.ensures.published

pub returns-clause-slots : goal.returns-clause-slots
returns-clause-slots c = but_then (slots_but c.publish.ensures.published.slots) c.give.ensures.slots

pub returns-clause-others : goal.returns-clause-others
returns-clause-others c = others_then c.publish.ensures.published.others c.give.ensures.others
