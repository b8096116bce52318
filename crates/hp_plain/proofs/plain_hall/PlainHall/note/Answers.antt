use Rattle.std.proofs.Common.{refl}
use Rattle.hp_hall.specs.Mail.{Notes}
use Rattle.hp_plain.specs.HallInside.{hall_view}
use Rattle.hp_plain.proofs.HallsNoted.{hall_lines}
use Rattle.hp_plain.proofs.plain_hall.PlainHall.note.Goals as goal

pub invariant_of-self : goal.invariant_of-self
invariant_of-self c = record {
  hall = hall_lines (hall_view c.self.inside) _ c.args.me (Notes c.args.note) c.self.invariant.hall refl refl c.with_note.ensures refl refl refl refl;
  emptied = c.self.invariant.emptied;
  room = c.self.invariant.room;
}
