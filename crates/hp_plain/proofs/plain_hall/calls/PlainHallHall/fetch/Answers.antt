use Rattle.std.proofs.Common.{◌<◌, length, refl, ap, arith}
use Rattle.hp_plain.specs.HallView.{HallView}
use Rattle.hp_hall.specs.Mail.{Fetches, MailStep}
use Rattle.hp_hall.specs.Measures.{boxes_measure, fetched_measure}
use Rattle.hp_plain.proofs.Mailed.{fetch_weighs}
use Rattle.hp_plain.proofs.PlainStates.{did_one, stays_one}
use Rattle.hp_plain.proofs.Stepped.{makes_mail}
use Rattle.hp_plain.proofs.plain_hall.calls.PlainHallHall.fetch.Goals as goal

pub returns : goal.returns
returns c =
    let old = c.args.self.now in
    let new = c.fetch_at.new.self in
    let first = c.fetch_at.ensures.first in
    let hall = c.fetch_at.ensures.hall in
    let step : MailStep = Fetches c.fetch_at.result in
    let mails = makes_mail old new c.args.me (Fetches c.fetch_at.result) old.full_mailboxes hall c.requires.serves first tt refl tt refl refl tt refl (omega arith) tt in
    let below : c.args.me < length old.boxes = omega (arith, c.sound.ensures.boxes, c.requires.serves) in
    record {
      did = did_one c.args.me step old new mails.makes;
      stays = stays_one c.args.me step old new mails;
      measure = omega (arith, ap (λ (h : HallView). boxes_measure h.boxes) hall, ap fetched_measure first, fetch_weighs old.boxes c.args.me below);
      goes_on = mails.makes.course;
    }
