use Rattle.std.proofs.Common.{ℕ, refl, ap, subst, sym, ◌∙◌, arith}
use Rattle.std.proofs.lemmas.Option.{slice_get_within}
use Rattle.hp_hall.specs.Giving.{Knows}
use Rattle.hp_plain.specs.HallSteps.{after_give, home_slot}
use Rattle.hp_plain.specs.Keeping.{values_in}
use Rattle.hp_plain.specs.HallView.{IsHall, IsHome, newest_in, slot_at, taken_from}
use Rattle.hp_hall.specs.Mail.{Gives, MailStep}
use Rattle.hp_hall.specs.Slots.{slot_number}
use Rattle.hp_hall.specs.Values.{Fits}
use Rattle.hp_hall.specs.Measures.{boxes_measure}
use Rattle.hp_plain.proofs.Agreeing.{agreed_given, given_by, shows_ranges}
use Rattle.hp_hall.proofs.LaterKept.{later_given}
use Rattle.hp_plain.proofs.Given.{IsGivenFor, allocated_given, given, known, newest_given, still_fit}
use Rattle.hp_plain.proofs.Giver.{joined_given, others_given, others_joined, part_given, sees_given}
use Rattle.hp_plain.proofs.HallsGiven.{hall_given}
use Rattle.hp_plain.proofs.Mapped.{mapped_in}
use Rattle.hp_plain.proofs.PlainStates.{did_one, others_one, slots_one}
use Rattle.hp_plain.proofs.Read.{has_asks, has_log, has_names, has_shown}
use Rattle.hp_plain.proofs.Slotted.{gave, value_at}
use Rattle.hp_plain.proofs.plain_hall.calls.PlainHallHall.give.Goals as goal

pub give_at-requires-clause-told : goal.give_at-requires-clause-told
give_at-requires-clause-told c =
    let old = c.args.self.now in
    let kept = c.args.kept in
    let number : ℕ = slot_number c.args.slot in
    let was : IsGivenFor (known old c.args.me) (slot_at old number) kept = given (known old c.args.me) (slot_at old number) kept c.requires.gives in
    let fits : Fits number kept =
    still_fit (known old c.args.me) number was.before.kept kept (c.sound.ensures.fits number was.before was.there) was.gives in
    ap newest_in was.there ∙ newest_given old c.args.me number was.before kept was.there fits was.gives

pub give_at-requires-clause-hall : goal.give_at-requires-clause-hall
give_at-requires-clause-hall c =
    let old = c.args.self.now in
    let kept = c.args.kept in
    let number : ℕ = slot_number c.args.slot in
    let knows : Knows = known old c.args.me in
    let was : IsGivenFor knows (slot_at old number) kept = given knows (slot_at old number) kept c.requires.gives in
    let hall = c.sound.ensures in
    let fits : Fits number kept = still_fit knows number was.before.kept kept (hall.fits number was.before was.there) was.gives in
    hall_given c.args.me number old (after_give c.args.me number kept old) hall was.before kept was.there fits was.gives c.sound-2.ensures
    (record { below = slice_get_within old.slots number was.before was.there; slots = refl; boxes = refl; owns = refl; lines = refl; mail = refl })

pub returns : goal.returns
returns c =
    let old = c.args.self.now in
    let new = c.give_at.new.self in
    let me = c.args.me in
    let kept = c.args.kept in
    let number : ℕ = slot_number c.args.slot in
    let knows : Knows = known old me in
    let was : IsGivenFor knows (slot_at old number) kept = given knows (slot_at old number) kept c.requires.gives in
    let before = was.before in
    let step : MailStep = Gives number kept in
    let hall = c.sound.ensures in
    let fits : Fits number kept = still_fit knows number before.kept kept (hall.fits number before was.there) was.gives in
    let now : IsHall new =
    subst IsHall (sym c.give_at.ensures)
    (hall_given me number old (after_give me number kept old) hall before kept was.there fits was.gives c.sound-2.ensures (record {
      below = slice_get_within old.slots number before was.there;
      slots = refl;
      boxes = refl;
      owns = refl;
      lines = refl;
      mail = refl;
    })) in
    let later = later_given knows before.kept kept was.gives in
    let by = given_by knows before.kept kept was.gives in
    let allocated = allocated_given old me before.kept kept was.gives in
    let told = newest_given old me number before kept was.there fits was.gives in
    let agreed = agreed_given me number old hall before was.there kept fits was.gives in
    let ranges = shows_ranges knows number (values_in old) before.kept kept was.gives (value_at old number before was.there) in
    let moves = gave old new me number c.requires.serves before kept was.there was.out later by allocated c.sound-2.ensures told agreed ranges c.give_at.ensures in
    record {
      gave = record {
        taken = ap taken_from moves.here;
        home = subst IsHome (sym moves.here) refl;
        part = part_given me number before step old new hall was.there kept fits moves was.gives;
        joined = joined_given me number before step old new hall was.there kept fits moves was.gives;
        own = moves.makes.own me;
        lines = moves.makes.lines me;
        log = has_log new number (home_slot kept) moves.here kept refl fits;
        sees = sees_given me number before step old new hall was.there kept fits moves was.gives;
        asks = has_asks new number (home_slot kept) moves.here kept refl fits;
        names = has_names new number (home_slot kept) moves.here kept refl fits;
        shown = has_shown new number (home_slot kept) moves.here kept refl fits refl;
        mapped = mapped_in new me now;
        did = did_one me step old new moves.makes;
      };
      slots = slots_one me step old new number (home_slot kept) moves;
      others = others_one me step old new moves.makes (others_given me number before step old new hall was.there kept fits moves was.gives)
          (others_joined me number before step old new hall was.there kept fits moves was.gives);
      measure = omega (arith, ap boxes_measure moves.boxes);
      goes_on = moves.makes.course;
    }
