use Rattle.std.proofs.Common.{[], ◌∷◌, ap, subst, sym, ◌∙◌, arith}
use Rattle.hp_hall.specs.Mail.{Notes}
use Rattle.hp_hall.specs.Own.{after_ack}
use Rattle.hp_hall.specs.Measures.{boxes_measure}
use Rattle.hp_hall.specs.declared.note.Note.TheVariants.{Acked}
use Rattle.hp_plain.specs.Course.{IsCourse}
use Rattle.hp_plain.specs.HallView.{HallView, own_at}
use Rattle.hp_plain.proofs.Owned.{course_acking, own_here, own_elsewhere}
use Rattle.hp_plain.proofs.PlainStates.{comes_to, did_last, none_last}
use Rattle.hp_plain.proofs.plain_hall.calls.PlainHallHall.ack.Goals as goal

pub returns : goal.returns
returns c =
    let old = c.args.self.now in
    let new = c.ack_at.new.self in
    let me = c.args.me in
    let is = c.ack_at.ensures in
    let mail = ap (λ (h : HallView). h.mail) is in
    let course : IsCourse old new = subst (IsCourse old) (sym is) (course_acking old me c.args.number c.requires.serves c.requires.rises) in
    record {
      own = comes_to me (after_ack c.args.number) (Notes (Acked c.args.number) ∷ []) old new
          (did_last me (Notes (Acked c.args.number)) old new mail) (none_last me (Notes (Acked c.args.number)) old new mail)
          (ap (λ (h : HallView). own_at h me) is ∙ own_here old me (after_ack c.args.number) c.requires.serves)
          (λ who apart. ap (λ (h : HallView). own_at h who) is ∙ own_elsewhere old me who (after_ack c.args.number) apart)
          (ap (λ (h : HallView). h.slots) is) (ap (λ (h : HallView). h.lines) is) (ap (λ (h : HallView). h.clock) is) course;
      measure = omega (arith, ap (λ (h : HallView). boxes_measure h.boxes) is);
      goes_on = course;
    }
