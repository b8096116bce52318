use Rattle.std.proofs.Common.{[], ◌∷◌, length, ap, subst, sym, ◌∙◌, arith}
use Rattle.hp_hall.specs.Mail.{Notes}
use Rattle.hp_hall.specs.Own.{Own, after_partial}
use Rattle.hp_hall.specs.Measures.{boxes_measure}
use Rattle.hp_hall.specs.declared.note.Note.TheVariants.{Unmapped}
use Rattle.hp_plain.specs.Course.{IsCourse}
use Rattle.hp_plain.specs.HallView.{HallView, own_at, seen_in}
use Rattle.hp_plain.proofs.Owned.{course_unmapping, own_here, own_elsewhere}
use Rattle.hp_plain.proofs.PlainStates.{comes_to, did_last, none_last}
use Rattle.hp_plain.proofs.plain_hall.calls.PlainHallHall.note_unmapped.Goals as goal

pub returns : goal.returns
returns c =
    let old = c.args.self.now in
    let new = c.partial_at.new.self in
    let me = c.args.me in
    let own : Own = after_partial (length (seen_in old)) (own_at old me) in
    let is = c.partial_at.ensures in
    let mail = ap (λ (h : HallView). h.mail) is in
    let course : IsCourse old new = subst (IsCourse old) (sym is) (course_unmapping old me c.requires.serves) in
    record {
      own = comes_to me own (Notes Unmapped ∷ []) old new (did_last me (Notes Unmapped) old new mail)
          (none_last me (Notes Unmapped) old new mail)
          (ap (λ (h : HallView). own_at h me) is ∙ own_here old me own c.requires.serves)
          (λ who apart. ap (λ (h : HallView). own_at h who) is ∙ own_elsewhere old me who own apart)
          (ap (λ (h : HallView). h.slots) is) (ap (λ (h : HallView). h.lines) is) (ap (λ (h : HallView). h.clock) is) course;
      measure = omega (arith, ap (λ (h : HallView). boxes_measure h.boxes) is);
      goes_on = course;
    }
