use Rattle.std.proofs.Common.{ap}
use Rattle.hp_base.specs.declared.tag.Tag.{Tag}
use Rattle.test_board.proofs.ZoneCalls.{reserved}
use Rattle.test_board.proofs.tests.turn.zones.allocated.Goals as goal

pub returns : goal.returns
returns c =
    reserved c.args.who c.args.made c.args.heap.now c.reserve.new.self c.alloc.new.self c.call.result c.args.request.now c.zone_tag.result c.alloc.result
    (ap (λ (t : Tag). t.zone) c.zone_tag.ensures) c.reserve.ensures.same c.call.ensures c.stands.ensures.tiled c.stands.ensures.order c.alloc.ensures.step
