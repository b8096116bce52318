use Rattle.std.proofs.Common.{refl, sym, ap, ◌∙◌, arith}
use Rattle.hp_hall.specs.declared.note.Note.TheVariants.{LoadedDone}
use Rattle.hp_hall.specs.Mail.{MailStep, Notes}
use Rattle.hp_hall.specs.Measures.{boxes_measure}
use Rattle.hp_plain.specs.HallView.{HallView, lines_at}
use Rattle.hp_plain.proofs.PlainStates.{did_one, stays_one}
use Rattle.hp_plain.proofs.Stepped.{makes_note}
use Rattle.hp_plain.proofs.Stored.{lines_shown}
use Rattle.hp_plain.proofs.plain_hall.calls.PlainHallHall.load_done.Goals as goal

pub returns : goal.returns
returns c =
    let old = c.args.self.now in
    let new = c.load_lines_at.new.self in
    let me = c.args.me in
    let participant = c.args.participant in
    let lines = c.load_lines_at.result in
    let is = c.load_lines_at.ensures.lines in
    let hall = c.load_lines_at.ensures.hall in
    let shows = lines_shown old participant lines (omega (arith, c.sound.ensures.lines, c.requires.declared)) is in
    let step : MailStep = Notes (LoadedDone participant lines) in
    let makes = makes_note old new me (LoadedDone participant lines) hall c.requires.serves
    (record { shows = tt; clock = refl; numbers = refl }) shows refl in
    record {
      loaded = record {
        known = omega (arith, is);
        noted = is ∙ sym (ap (λ (h : HallView). lines_at h participant) hall);
        mine = λ same. is ∙ ap (lines_at old) same;
        did = did_one me step old new makes.makes;
        stays = stays_one me step old new makes;
      };
      measure = omega (arith, ap (λ (h : HallView). boxes_measure h.boxes) hall);
      goes_on = makes.makes.course;
    }
