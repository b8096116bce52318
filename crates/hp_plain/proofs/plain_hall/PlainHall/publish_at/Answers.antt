use Rattle.std.proofs.Common.{Some, refl, sym, subst}
use Rattle.std.proofs.lemmas.Option.{slice_get_within}
use Rattle.hp_hall.specs.declared.note.Note.TheVariants.{Published}
use Rattle.hp_plain.specs.HallInside.{hall_view}
use Rattle.hp_plain.specs.HallView.{HallView, slot_at}
use Rattle.hp_plain.specs.Publishing.{MayTell}
use Rattle.hp_plain.proofs.Halls.{hall_told}
use Rattle.hp_plain.proofs.plain_hall.PlainHall.publish_at.Goals as goal

pub invariant_of-self : goal.invariant_of-self
invariant_of-self c =
    let told = c.tell_in.ensures in
    let may : MayTell (slot_at (hall_view c.self.inside) c.args.heap) =
    subst (λ (h : HallView). MayTell (slot_at h c.args.heap)) (sym c.self.view_is) c.requires.may in
    let tells : MayTell (Some told.before) = subst MayTell told.there may in
    record {
      hall = hall_told c.args.me (Published c.args.heap c.pair_now-pair.result) c.args.heap c.pair_now-pair.result told.before
          (hall_view c.self.inside) _
          c.self.invariant.hall told.there tells.0 tells.1 (record {
            below = slice_get_within c.self.inside.slots.items c.args.heap told.before told.there;
            slots = told.slots;
            boxes = refl;
            owns = refl;
            lines = refl;
            mail = c.with_note.ensures;
          });
      emptied = c.self.invariant.emptied;
      room = c.self.invariant.room;
    }
