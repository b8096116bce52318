use Rattle.std.proofs.Common.{refl, length-set}
use Rattle.hp_hall.specs.Mail.{Notes}
use Rattle.hp_hall.specs.declared.note.Note.TheVariants.{Stored}
use Rattle.hp_plain.specs.HallInside.{hall_view}
use Rattle.hp_plain.proofs.HallsNoted.{hall_lines}
use Rattle.hp_plain.proofs.plain_hall.PlainHall.store_at.Goals as goal

pub invariant_of-self : goal.invariant_of-self
invariant_of-self c = record {
  hall = hall_lines (hall_view c.self.inside) _ c.args.me (Notes (Stored c.args.lines)) c.self.invariant.hall refl refl c.with_note.ensures refl
      refl refl (length-set c.self.inside.lines.items c.args.me c.args.lines);
  emptied = c.self.invariant.emptied;
  room = c.self.invariant.room;
}
