use Rattle.std.proofs.Common.{false, length, Some, refl, sym, ap, subst, inr, arith}
use Rattle.hp_hall.specs.declared.note.Note.TheVariants.{Paused}
use Rattle.hp_plain.specs.HallView.{HallView}
use Rattle.hp_hall.specs.Mail.{Notes}
use Rattle.hp_plain.specs.Opening.{AreHome}
use Rattle.hp_plain.proofs.Mailed.{noted_last}
use Rattle.test_solo.proofs.plain.notes.rest_until.Goals as goal

pub pause-requires-clause-goes_on : goal.pause-requires-clause-goes_on
pause-requires-clause-goes_on c = inr (refl, c.requires.later, omega arith)

pub returns : goal.returns
returns c =
    let hall = c.pause.ensures.hall in
    record {
      count = ap (λ (h : HallView). length h.owns) hall;
      home = subst AreHome (sym hall) c.requires.home;
      clock = ap (λ (h : HallView). h.clock) hall;
      did = noted_last c.args.hall.now c.pause.new.self c.args.me (Notes (Paused false (Some c.args.deadline)))
          (ap (λ (h : HallView). h.mail) hall);
    }
