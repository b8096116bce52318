use Rattle.std.proofs.Common.{ℕ, refl, ap, subst, sym, arith}
use Rattle.std.proofs.lemmas.Option.{slice_get_within}
use Rattle.hp_plain.specs.HallSteps.{after_take, home_slot, out_slot}
use Rattle.hp_plain.specs.HallView.{IsHall, taken_from}
use Rattle.hp_hall.specs.Mail.{MailStep, Takes}
use Rattle.hp_hall.specs.Slots.{slot_number}
use Rattle.hp_hall.specs.Measures.{boxes_measure}
use Rattle.hp_plain.proofs.Halls.{hall_taken}
use Rattle.hp_plain.proofs.Mapped.{mapped_in}
use Rattle.hp_plain.proofs.Read.{has_asks, has_entries, has_log, has_marks, has_member, has_names}
use Rattle.hp_plain.proofs.PlainStates.{did_one, others_one, slots_one}
use Rattle.hp_plain.proofs.Slotted.{took}
use Rattle.hp_plain.proofs.Taking.{claimed_taken, joined_taken, others_taken, part_taken, stands_taken}
use Rattle.hp_plain.proofs.plain_hall.calls.PlainHallHall.take.Goals as goal

pub returns : goal.returns
returns c =
    let old = c.args.self.now in
    let new = c.take_at-kept.new.self in
    let me = c.args.me in
    let kept = c.take_at-kept.result in
    let number : ℕ = slot_number c.args.slot in
    let there = c.take_at-kept.ensures.kept in
    let fits = c.take_at-kept.ensures.fits in
    let step : MailStep = Takes number kept in
    let hall = c.sound.ensures in
    let now : IsHall new =
    subst IsHall (sym c.take_at-kept.ensures.hall)
    (hall_taken me number kept old (after_take me number kept old) hall there (record {
      below = slice_get_within old.slots number (home_slot kept) there;
      slots = refl;
      boxes = refl;
      owns = refl;
      lines = refl;
      mail = refl;
    })) in
    let moves = took old new me number c.requires.serves kept there c.take_at-kept.ensures.hall in
    record {
      took = record {
        fits = fits;
        sound = c.sound-2.ensures;
        pairs = hall.pairs number (home_slot kept) there;
        entries = has_entries old number (home_slot kept) there me kept refl fits;
        marks = has_marks old number (home_slot kept) there me kept refl fits;
        log = has_log new number (out_slot me kept) moves.here kept refl fits;
        asks = has_asks new number (out_slot me kept) moves.here kept refl fits;
        names = has_names new number (out_slot me kept) moves.here kept refl fits;
        roster = has_member old number (home_slot kept) there me kept refl fits;
        stands = stands_taken me number kept step old new hall there moves kept refl fits;
        claimed = claimed_taken me number kept step old new hall there moves kept refl fits;
        mapped = mapped_in new me now;
        part = part_taken me number kept step old new hall there moves kept refl fits;
        joined = joined_taken me number kept step old new hall there moves me;
        own = moves.makes.own me;
        lines = moves.makes.lines me;
        taken = ap taken_from moves.here;
        did = did_one me step old new moves.makes;
      };
      slots = slots_one me step old new number (out_slot me kept) moves;
      others = others_one me step old new moves.makes (others_taken me number kept step old new hall there moves)
          (λ who apart. joined_taken me number kept step old new hall there moves who);
      measure = omega (arith, ap boxes_measure moves.boxes);
      goes_on = moves.makes.course;
    }
