use Rattle.std.proofs.Common.{refl, ap, arith}
use Rattle.hp_hall.specs.Mail.{MailStep, Notes}
use Rattle.hp_hall.specs.Measures.{boxes_measure}
use Rattle.hp_hall.specs.declared.note.Note.TheVariants.{Emptied}
use Rattle.hp_plain.specs.HallView.{HallView}
use Rattle.hp_plain.proofs.PlainStates.{did_one, stays_one}
use Rattle.hp_plain.proofs.Stepped.{makes_note}
use Rattle.hp_plain.proofs.plain_hall.calls.PlainHallHall.emptied.Goals as goal

pub returns : goal.returns
returns c =
    let old = c.args.self.now in
    let new = c.emptied_at.new.self in
    let hall = c.emptied_at.ensures in
    let step : MailStep = Notes Emptied in
    let makes = makes_note old new c.args.me Emptied hall c.requires.serves (record { shows = tt; clock = refl; numbers = refl }) tt refl in
    record {
      did = did_one c.args.me step old new makes.makes;
      stays = stays_one c.args.me step old new makes;
      measure = omega (arith, ap (λ (h : HallView). boxes_measure h.boxes) hall);
      goes_on = makes.makes.course;
    }
