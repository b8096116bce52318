use Rattle.std.proofs.Common.{ℕ, ◌^◌, ◌<◌, ◌≤◌, refl, sym, ap, subst, ◌∙◌, arith}
use Rattle.hp_hall.specs.declared.note.Note.TheVariants.{Read}
use Rattle.hp_plain.specs.HallView.{HallView}
use Rattle.hp_hall.specs.Measures.{boxes_measure, pending_at}
use Rattle.hp_hall.proofs.AsksOfHalls.Pending.{pending_later, pending_past}
use Rattle.hp_hall.specs.Mail.{MailStep, Notes}
use Rattle.hp_plain.proofs.PlainStates.{did_one, stays_one}
use Rattle.hp_plain.proofs.Stepped.{makes_note}
use Rattle.hp_plain.proofs.plain_hall.calls.PlainHallHall.now.Goals as goal

pub returns : goal.returns
returns c =
    let old = c.args.self.now in
    let new = c.read_at.new.self in
    let reading = c.read_at.ensures.now in
    let hall = c.read_at.ensures.hall in
    let step : MailStep = Notes (Read c.read_at.result) in
    let makes = makes_note old new c.args.me (Read c.read_at.result) hall c.requires.serves
    (record { shows = reading; clock = refl; numbers = refl }) tt refl in
    let clock = makes.makes.clock in
    record {
      most = λ early. subst (λ (n : ℕ). n ≤ 2 ^ 63) (sym reading) early;
      before = λ deadline later.
          ap (λ (n : ℕ). pending_at n deadline) clock ∙ pending_later old.clock deadline (subst (λ (n : ℕ). n < deadline) reading later);
      reached = λ deadline past.
          ap (λ (n : ℕ). pending_at n deadline) clock ∙ pending_past old.clock deadline (subst (λ (n : ℕ). deadline ≤ n) reading past);
      did = did_one c.args.me step old new makes.makes;
      stays = stays_one c.args.me step old new makes;
      measure = omega (arith, ap (λ (h : HallView). boxes_measure h.boxes) hall);
      goes_on = makes.makes.course;
    }
