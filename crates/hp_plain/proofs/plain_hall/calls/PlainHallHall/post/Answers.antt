use Rattle.std.proofs.Common.{◌<◌, length, refl, ap, arith}
use Rattle.hp_hall.specs.Mail.{MailStep, Posts, counted_on, full_of}
use Rattle.hp_hall.specs.Measures.{boxes_measure}
use Rattle.hp_plain.specs.HallView.{HallView}
use Rattle.hp_plain.proofs.Mailed.{post_weighs}
use Rattle.hp_plain.proofs.PlainStates.{did_one, stays_one}
use Rattle.hp_plain.proofs.Stepped.{makes_mail}
use Rattle.hp_plain.proofs.plain_hall.calls.PlainHallHall.post.Goals as goal

pub returns : goal.returns
returns c =
    let old = c.args.self.now in
    let new = c.post_at.new.self in
    let frame = c.args.frame in
    let action = c.args.action in
    let posted = c.post_at.result in
    let hall = c.post_at.ensures.hall in
    let step : MailStep = Posts c.args.to frame action posted in
    let mails = makes_mail old new c.args.me (Posts c.args.to frame action posted) (counted_on (full_of posted) old.full_mailboxes) hall c.requires.serves c.post_at.ensures.posted tt refl tt refl refl tt refl refl tt in
    let below : c.args.to < length old.boxes = omega (arith, c.sound.ensures.boxes, c.requires.declared) in
    record {
      did = did_one c.args.me step old new mails.makes;
      stays = stays_one c.args.me step old new mails;
      measure = omega (arith, ap (λ (h : HallView). boxes_measure h.boxes) hall, post_weighs old.boxes c.args.to frame posted below);
      goes_on = mails.makes.course;
    }
