use Rattle.std.proofs.Common.{◌<◌, length, refl, sym, ap, ◌∙◌, arith}
use Rattle.hp_hall.specs.declared.note.Note.TheVariants.{ReadStats}
use Rattle.hp_hall.specs.Mail.{MailStep, Notes}
use Rattle.hp_hall.specs.Measures.{boxes_measure}
use Rattle.hp_plain.specs.HallView.{HallView, newest_in, slot_at}
use Rattle.hp_plain.proofs.PlainStates.{did_one, stays_one}
use Rattle.hp_plain.proofs.Publishes.{newest_listed}
use Rattle.hp_plain.proofs.Stepped.{makes_note}
use Rattle.hp_stats.specs.declared.stat_pair.StatPair.{StatPair}
use Rattle.hp_plain.proofs.plain_hall.calls.PlainHallHall.read.Goals as goal

pub returns : goal.returns
returns c =
    let old = c.args.self.now in
    let new = c.read_pair-pair.new.self in
    let me = c.args.me in
    let heap = c.args.heap in
    let pair = c.read_pair-pair.result in
    let is = c.read_pair-pair.ensures.pair in
    let hall = c.read_pair-pair.ensures.hall in
    let below : heap < length old.slots = omega (arith, c.sound.ensures.slots, c.requires.heap) in
    let step : MailStep = Notes (ReadStats heap pair) in
    let makes = makes_note old new me (ReadStats heap pair) hall c.requires.serves (record { shows = tt; clock = refl; numbers = refl })
    (newest_listed old.slots heap pair below is) refl in
    record {
      read = record {
        not_below = omega (arith, ap (λ (p : StatPair). p.entries) is);
        shown = ap (λ (h : HallView). (newest_in (slot_at h heap)).entries) hall ∙ sym (ap (λ (p : StatPair). p.entries) is);
        did = did_one me step old new makes.makes;
        stays = stays_one me step old new makes;
      };
      measure = omega (arith, ap (λ (h : HallView). boxes_measure h.boxes) hall);
      goes_on = makes.makes.course;
    }
