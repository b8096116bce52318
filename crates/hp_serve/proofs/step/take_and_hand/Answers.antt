-- The value is taken, and what becomes of the event is that of handing it over.
use Rattle.std.proofs.Common.{◌∷◌, refl, arith}
use Rattle.hp_hall.specs.HallState.{known_to}
use Rattle.hp_hall.proofs.HallStates.{did_then}
use Rattle.hp_serve.specs.Serving.{takes_segments}
use Rattle.hp_serve.proofs.Handed.{outside_known}
use Rattle.hp_serve.proofs.SegmentSlots.{Took, freed_stays, took_has}
use Rattle.hp_serve.proofs.step.take_and_hand.Goals as goal

pub take_segments-segs-requires : goal.take_segments-segs-requires
take_segments-segs-requires g c = record { serves = c.requires.may.serves; home = c.requires.may.home }

pub hand-requires : goal.hand-requires
hand-requires g c =
    let old = g.H.Hall.state c.args.hall.now in
    let mid = g.H.Hall.state c.take_segments-segs.new.hall in
    let is = c.take_segments-segs.ensures in
    let took : Took 0 c.take_segments-segs.result old mid =
    record { may = c.requires.may; took = is.took; slots = is.slots; others = is.others; measure = is.measure } in
    record {
      may_ask = c.requires.may_ask;
      has = took_has took;
      sound = is.took.sound;
      names = c.requires.names;
      known = outside_known (known_to 0 old).noted (known_to 0 mid).noted _ c.args.event (λ who. (is.others.later.noted 0 who).number)
          c.requires.outside c.requires.known;
    }

pub returns-clause-hands : goal.returns-clause-hands
returns-clause-hands g c =
    let handed = c.hand.ensures.handed in
    let segs = c.take_segments-segs.result in (
      takes_segments segs ∷ handed.0,
      did_then c.take_segments-segs.ensures.took.did handed.1,
      record { taken = segs; more = handed.0; begins = refl; is_handed = handed.2 },
    )

pub returns-clause-measure : goal.returns-clause-measure
returns-clause-measure g c =
    let first = c.take_segments-segs.ensures.measure in
    let then = c.hand.ensures.measure in
    omega (arith, first, then)

pub returns-clause-stays : goal.returns-clause-stays
returns-clause-stays g c =
    let old = g.H.Hall.state c.args.hall.now in
    let mid = g.H.Hall.state c.take_segments-segs.new.hall in
    let is = c.take_segments-segs.ensures in
    let took : Took 0 c.take_segments-segs.result old mid =
    record { may = c.requires.may; took = is.took; slots = is.slots; others = is.others; measure = is.measure } in
    freed_stays took c.hand.ensures.back c.hand.ensures.own

pub returns-clause-goes_on : goal.returns-clause-goes_on
returns-clause-goes_on g c = g.met.H.Hall.goes_on_then _ _ _ c.take_segments-segs.ensures.goes_on c.hand.ensures.goes_on
