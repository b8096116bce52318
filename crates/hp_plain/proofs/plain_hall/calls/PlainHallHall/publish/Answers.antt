use Rattle.std.proofs.Common.{ap, arith}
use Rattle.hp_hall.specs.Measures.{boxes_measure}
use Rattle.hp_plain.proofs.Publishes.{as_published, may_publish_tells}
use Rattle.hp_plain.proofs.plain_hall.calls.PlainHallHall.publish.Goals as goal

pub publish_at-requires : goal.publish_at-requires
publish_at-requires c = record { may = may_publish_tells c.args.self.now c.args.me c.args.heap c.args.kept.now c.requires.may }

pub returns : goal.returns
returns c =
    let told = as_published c.args.me c.args.heap c.args.kept.now c.args.self.now c.publish_at.new.self c.sound.ensures c.requires.serves c.requires.may
    c.publish_at.ensures in
    record {
      published = told.publishes;
      measure = omega (arith, ap boxes_measure told.boxes);
      goes_on = told.course;
    }
