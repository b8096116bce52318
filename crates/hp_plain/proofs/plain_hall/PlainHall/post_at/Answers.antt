use Rattle.std.proofs.Common.{refl, length-set}
use Rattle.hp_hall.specs.Mail.{Posts}
use Rattle.hp_plain.specs.HallInside.{hall_view}
use Rattle.hp_plain.proofs.HallsNoted.{hall_lines}
use Rattle.hp_plain.proofs.plain_hall.PlainHall.post_at.Goals as goal

pub invariant_of-self : goal.invariant_of-self
invariant_of-self c = record {
  hall = hall_lines (hall_view c.self.inside) _ c.args.me (Posts c.args.to c.args.frame.now c.args.action c.post-posted.result) c.self.invariant.hall refl
      (length-set c.self.inside.boxes.items c.args.to c.post-posted.new.self) c.with_post.ensures refl refl refl refl;
  emptied = c.self.invariant.emptied;
  room = c.self.invariant.room;
}
