use Rattle.std.proofs.Common.{ℕ, refl, sym, ap, ◌∙◌, arith}
use Rattle.hp_hall.specs.declared.note.Note.TheVariants.{Loaded}
use Rattle.hp_plain.specs.HallView.{HallView, own_at}
use Rattle.hp_hall.specs.Measures.{boxes_measure}
use Rattle.hp_plain.proofs.Owned.{number_shown}
use Rattle.hp_hall.specs.Mail.{MailStep, Notes}
use Rattle.hp_plain.proofs.PlainStates.{did_one, stays_one}
use Rattle.hp_plain.proofs.Stepped.{makes_note}
use Rattle.hp_plain.proofs.plain_hall.calls.PlainHallHall.load_ack.Goals as goal

pub returns : goal.returns
returns c =
    let old = c.args.self.now in
    let new = c.load_at.new.self in
    let participant = c.args.participant in
    let number = c.load_at.ensures.number in
    let hall = c.load_at.ensures.hall in
    let shows = number_shown old participant c.load_at.result c.requires.declared number in
    let step : MailStep = Notes (Loaded participant c.load_at.result) in
    let makes = makes_note old new c.args.me (Loaded participant c.load_at.result) hall c.requires.serves
    (record { shows = shows; clock = refl; numbers = refl }) tt refl in
    record {
      noted = number ∙ sym (ap (λ (h : HallView). (own_at h participant).number) hall);
      mine = λ is. number ∙ ap (λ (n : ℕ). (own_at old n).number) is;
      did = did_one c.args.me step old new makes.makes;
      stays = stays_one c.args.me step old new makes;
      measure = omega (arith, ap (λ (h : HallView). boxes_measure h.boxes) hall);
      goes_on = makes.makes.course;
    }
