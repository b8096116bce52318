use Rattle.std.proofs.Common.{rules, ◌≡◌, ap, subst}
use Rattle.hp_base.specs.declared.tag.Tag.{Tag}
use Rattle.test_board.specs.Zoned.{HasFreed}
use Rattle.test_board.proofs.ZoneCalls.{freed, zone_at}
use Rattle.test_board.proofs.tests.turn.zones.freed.Goals as goal

pub free_zone-requires-clause-allowed : goal.free_zone-requires-clause-allowed
free_zone-requires-clause-allowed c = λ is. zone_at c.zone_tag.result c.in-Some.found c.find.new.self.plain (ap (λ (t : Tag). t.zone) c.zone_tag.ensures) c.in-Some.ensures.there

pub returns : goal.returns
returns c = λ _.
    let same : c.in-Some.found ≡ c.args.addr = search rules in
    subst (λ a. HasFreed c.args.who c.args.made a c.args.heap.now c.free_zone.new.self) same
    (freed c.args.who c.args.made c.args.heap.now c.reserve.new.self c.find.new.self c.free_zone.new.self c.call.result c.call-2.result c.zone_tag.result c.find.result c.in-Some.found c.reserve.ensures.same
    c.call.ensures c.call-2.ensures c.stands.ensures.tiled c.stands.ensures.order c.find.ensures.step c.stands-2.ensures.tiled c.stands-2.ensures.order c.free_zone.ensures)
