-- The table is tied to the log as it was taken, and so to the log that is given back.
use Rattle.std.proofs.Common.{◌∙◌, refl, sym, subst, arith}
use Rattle.hp_hall.proofs.HallStates.{but_then, did_then, others_then, parts_then, slots_but, slots_then, stays_then}
use Rattle.hp_serve.specs.Tied.{IsTied}
use Rattle.hp_serve.specs.InHall.{marked_in}
use Rattle.hp_serve.proofs.InHalls.{parts_marks}
use Rattle.hp_serve.proofs.Handed.{mapped_number, tied_still, unasked}
use Rattle.hp_serve.proofs.SegmentSlots.{has_still}
use Rattle.hp_serve.proofs.mapping.catch_and_hand.Goals as goal

pub take_in-caught-requires : goal.take_in-caught-requires
take_in-caught-requires g c = record {
  serves = c.requires.has.serves;
  seen = c.requires.log;
  hand = c.requires.hand;
  may = c.requires.catches;
  room = c.requires.room;
}

pub load_ack-number-requires : goal.load_ack-number-requires
load_ack-number-requires g c =
    let later = c.take_in-caught.ensures.stays.others.later in
    record {
      serves = later.serves 0 c.requires.has.serves;
      declared =
          let declared = c.requires.declared in
          let count = later.count in
          omega (arith, declared, count);
    }

pub now-now-requires : goal.now-now-requires
now-now-requires g c = record {
  serves = c.load_ack-number.ensures.stays.others.later.serves 0 (c.take_in-caught.ensures.stays.others.later.serves 0 c.requires.has.serves);
}

pub hand-requires-clause-has : goal.hand-requires-clause-has
hand-requires-clause-has g c =
    let caught = c.take_in-caught.ensures in
    let read = stays_then c.load_ack-number.ensures.stays c.now-now.ensures.stays in
    has_still read.slots read.mine.parts read.others (has_still caught.stays.slots caught.stays.parts caught.stays.others c.requires.has)

pub hand-requires-clause-known : goal.hand-requires-clause-known
hand-requires-clause-known g c = λ none.
    let caught = c.take_in-caught.ensures in
    let number =
    mapped_number c.args.segs.log ((g.H.Hall.state c.take_in-caught.new.hall).own 0) (marked_in 0 (g.H.Hall.state c.take_in-caught.new.hall))
    c.args.joined.now c.args.maps.now
    c.take_in-caught.new.maps c.take_in-caught.result caught.caught caught.tied none
    in
    let noted = c.load_ack-number.ensures.noted in
    let mine = c.load_ack-number.ensures.mine refl in
    let later = (c.now-now.ensures.stays.others.later.noted 0 0).number in
    omega (arith, number, noted, mine, later)

pub returns-clause-handed : goal.returns-clause-handed
returns-clause-handed g c =
    let handed = c.hand.ensures.handed in (
      c.take_in-caught.result,
      c.load_ack-number.result,
      c.now-now.result,
      handed.0,
      did_then c.take_in-caught.ensures.did
          (did_then c.load_ack-number.ensures.did (did_then c.now-now.ensures.did handed.1)),
      c.take_in-caught.ensures.caught,
      c.has_table-has.ensures,
      c.take_in-caught.ensures.told,
      unasked c.take_in-caught.result c.now-now.result c.args.core.now c.hand.new.core c.args.segs handed.0 _ handed.2,
    )

pub returns-clause-tied : goal.returns-clause-tied
returns-clause-tied g c =
    let mid = g.H.Hall.state c.take_in-caught.new.hall in
    let new = g.H.Hall.state c.hand.new.hall in
    let log = c.hand.ensures.log in
    let own = c.hand.ensures.own ∙ c.now-now.ensures.stays.mine.own ∙ c.load_ack-number.ensures.stays.mine.own in
    let read = stays_then c.load_ack-number.ensures.stays c.now-now.ensures.stays in
    tied_still c.args.segs.log (new.seen 0) log.0 (mid.own 0) (new.own 0) (marked_in 0 mid) (marked_in 0 new) c.has_table-has.result
    c.take_in-caught.new.maps log.1 own (parts_marks (parts_then read.mine.parts c.hand.ensures.back.parts))
    (subst (λ joined. IsTied c.args.segs.log (mid.own 0) (marked_in 0 mid) joined c.take_in-caught.new.maps) (sym c.has_table-has.ensures)
    c.take_in-caught.ensures.tied)

pub returns-clause-measure : goal.returns-clause-measure
returns-clause-measure g c =
    let first = c.take_in-caught.ensures.stays.measure in
    let second = c.load_ack-number.ensures.measure in
    let third = c.now-now.ensures.measure in
    let last = c.hand.ensures.measure in
    omega (arith, first, second, third, last)

pub returns-clause-back : goal.returns-clause-back
returns-clause-back g c =
    let first = c.take_in-caught.ensures.stays in
    let read = stays_then c.load_ack-number.ensures.stays c.now-now.ensures.stays in
    let back = c.hand.ensures.back in
    record {
      taken = back.taken;
      home = back.home;
      slots = but_then (slots_but (slots_then first.slots read.slots)) back.slots;
      parts = parts_then first.parts (parts_then read.mine.parts back.parts);
      others = others_then first.others (others_then read.others back.others);
    }

pub returns-clause-goes_on : goal.returns-clause-goes_on
returns-clause-goes_on g c =
    g.met.H.Hall.goes_on_then _ _ _ c.take_in-caught.ensures.goes_on
    (g.met.H.Hall.goes_on_then _ _ _ c.load_ack-number.ensures.goes_on
    (g.met.H.Hall.goes_on_then _ _ _ c.now-now.ensures.goes_on c.hand.ensures.goes_on))
