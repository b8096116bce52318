use Rattle.std.proofs.Common.{ℕ, refl, subst}
use Rattle.std.proofs.lemmas.Option.{slice_get_within}
use Rattle.hp_plain.specs.HallInside.{hall_view}
use Rattle.hp_plain.specs.HallSteps.{home_slot}
use Rattle.hp_hall.specs.Values.{Fits}
use Rattle.hp_plain.proofs.Halls.{hall_taken}
use Rattle.hp_plain.proofs.plain_hall.PlainHall.take_at.Goals as goal

pub returns-clause-fits : goal.returns-clause-fits
returns-clause-fits c =
    let kept = c.take_from-kept.result in
    let number : ℕ = c.number-number.result in
    subst (λ (n : ℕ). Fits n kept) c.number-number.ensures (c.self.invariant.hall.fits number (home_slot kept) c.take_from-kept.ensures.kept)

pub invariant_of-self : goal.invariant_of-self
invariant_of-self c =
    let kept = c.take_from-kept.result in
    let number : ℕ = c.number-number.result in
    record {
      hall = hall_taken c.args.me number kept (hall_view c.self.inside) _ c.self.invariant.hall c.take_from-kept.ensures.kept (record {
        below = slice_get_within c.self.inside.slots.items number (home_slot kept) c.take_from-kept.ensures.kept;
        slots = c.take_from-kept.ensures.slots;
        boxes = refl;
        owns = refl;
        lines = refl;
        mail = c.with_take.ensures;
      });
      emptied = c.self.invariant.emptied;
      room = c.self.invariant.room;
    }
