use Rattle.std.proofs.Common.{sym, ap, subst, arith}
use Rattle.hp_hall.specs.Measures.{boxes_measure}
use Rattle.hp_plain.specs.Course.{IsCourse}
use Rattle.hp_plain.specs.HallView.{HallView}
use Rattle.hp_plain.proofs.Owned.{course_storing}
use Rattle.hp_plain.proofs.Stored.{has_stored}
use Rattle.hp_plain.proofs.plain_hall.calls.PlainHallHall.store_done.Goals as goal

pub returns : goal.returns
returns c =
    let old = c.args.self.now in
    let new = c.store_at.new.self in
    let me = c.args.me in
    let is = c.store_at.ensures in
    let course : IsCourse old new =
    subst (IsCourse old) (sym is) (course_storing old me c.args.lines c.requires.serves c.requires.may.rises) in
    record {
      stored = has_stored me c.args.lines old new is (omega (arith, c.sound.ensures.lines, c.requires.serves)) course;
      measure = omega (arith, ap (λ (h : HallView). boxes_measure h.boxes) is);
      goes_on = course;
    }
