use Rattle.std.proofs.Common.{◌<◌, ◌≤◌, length, refl, set, sym, ap, subst}
use Rattle.hp_hall.specs.Mail.{Notes}
use Rattle.hp_hall.specs.Own.{after_ack}
use Rattle.hp_hall.specs.declared.note.Note.TheVariants.{Acked}
use Rattle.hp_plain.specs.HallInside.{hall_view}
use Rattle.hp_plain.specs.HallView.{HallView, own_at, seen_in}
use Rattle.hp_plain.proofs.HallsNoted.{hall_own, own_acked}
use Rattle.hp_plain.proofs.plain_hall.PlainHall.ack_at.Goals as goal

pub invariant_of-self : goal.invariant_of-self
invariant_of-self c =
    let me = c.args.me in
    let number = c.args.number in
    let hall : HallView = hall_view c.self.inside in
    let declared : me < length hall.owns = subst (λ (h : HallView). me < length h.owns) (sym c.self.view_is) c.requires.declared in
    let rises : (own_at hall me).number ≤ number = subst (λ (h : HallView). (own_at h me).number ≤ number) (sym c.self.view_is) c.requires.rises in
    let seen : number ≤ length (seen_in hall) = subst (λ (h : HallView). number ≤ length (seen_in h)) (sym c.self.view_is) c.requires.seen in
    record {
      hall = hall_own hall _ me (after_ack number) me (Notes (Acked number)) c.self.invariant.hall refl refl c.with_note.ensures refl refl refl
          (ap (set hall.owns me) c.acked.ensures) declared rises (own_acked hall number seen);
      emptied = c.self.invariant.emptied;
      room = c.self.invariant.room;
    }
