-- Participant 0 has caught up, or stopped where it would.
use Rattle.std.proofs.Common.{◌∙◌, List, [], ◌∷◌, ◌++◌, length, ap, sym, arith}
use Rattle.hp_base.specs.Mapping.{is_done}
use Rattle.hp_base.specs.Telling.{Listener}
use Rattle.hp_hall.specs.Mail.{Notes}
use Rattle.hp_hall.specs.declared.note.Note.TheVariants.{Loaded, Read}
use Rattle.hp_hall.proofs.HallStates.{did_then, just_taken}
use Rattle.hp_serve.specs.Serving.{tells_after_catching, told_of, gives_segments, takes_segments}
use Rattle.hp_serve.proofs.Attached.{has_still}
use Rattle.hp_serve.specs.InHall.{marked_in}
use Rattle.hp_serve.proofs.InHalls.{parts_marks}
use Rattle.hp_serve.proofs.Handed.{mapped_by, tied_still, worn_by}
use Rattle.hp_serve.proofs.SegmentSlots.{Took, freed_own, may_hold, put_own, put_stays, took_has, took_parts}
use Rattle.hp_serve.proofs.mapping.map_self.Goals as goal

pub take_segments-segs-requires : goal.take_segments-segs-requires
take_segments-segs-requires g c = record { serves = c.requires.may.serves; home = c.requires.may.home }

pub put_back-requires : goal.put_back-requires
put_back-requires g c =
    let is = c.take_segments-segs.ensures in
    let took : Took 0 c.take_segments-segs.result (g.H.Hall.state c.args.hall.now) (g.H.Hall.state c.take_segments-segs.new.hall) =
    record { may = may_hold c.requires.may; took = is.took; slots = is.slots; others = is.others; measure = is.measure } in
    record { has = took_has took }

pub returns-then-stops_mapping-clause-mapped : goal.returns-then-stops_mapping-clause-mapped
returns-then-stops_mapping-clause-mapped g c =
    let segs = c.take_segments-segs.result in (
      takes_segments segs ∷ gives_segments segs ∷ [],
      did_then c.take_segments-segs.ensures.took.did c.put_back.ensures.back.back.gave.did,
      λ party. worn_by party c.args.core.now c.args.maps.now c.args.watchers.now.listeners c.stops_mapping.new.watchers.listeners
          c.args.joined.now segs (c.stops_mapping.ensures.stops c.if-stops_mapping.true) c.stops_mapping.ensures.listeners,
    )

pub returns-then-stops_mapping-clause-tied : goal.returns-then-stops_mapping-clause-tied
returns-then-stops_mapping-clause-tied g c =
    let old = g.H.Hall.state c.args.hall.now in
    let new = g.H.Hall.state c.put_back.new.hall in
    let is = c.take_segments-segs.ensures in
    let took : Took 0 c.take_segments-segs.result old (g.H.Hall.state c.take_segments-segs.new.hall) =
    record { may = may_hold c.requires.may; took = is.took; slots = is.slots; others = is.others; measure = is.measure } in
    let stays = put_stays took c.put_back.ensures.back in
    let seen = stays.others.later.seen 0 in
    record {
      table = tied_still (old.seen 0) (new.seen 0) seen.0 (old.own 0) (new.own 0) (marked_in 0 old) (marked_in 0 new) c.args.joined.now
          c.args.maps.now seen.1 stays.mine.own (parts_marks stays.mine.parts) c.requires.tied.table;
      same = stays.mine.parts.joined ∙ c.requires.tied.same;
      left = λ out heap. parts_marks stays.mine.parts heap ∙ c.requires.tied.left out heap;
    }

pub returns-then-stops_mapping-clause-stays : goal.returns-then-stops_mapping-clause-stays
returns-then-stops_mapping-clause-stays g c =
    let is = c.take_segments-segs.ensures in
    let took : Took 0 c.take_segments-segs.result (g.H.Hall.state c.args.hall.now) (g.H.Hall.state c.take_segments-segs.new.hall) =
    record { may = may_hold c.requires.may; took = is.took; slots = is.slots; others = is.others; measure = is.measure } in
    put_own took c.put_back.ensures.back

pub returns-then-stops_mapping-clause-goes_on : goal.returns-then-stops_mapping-clause-goes_on
returns-then-stops_mapping-clause-goes_on g c = g.met.H.Hall.goes_on_then _ _ _ c.take_segments-segs.ensures.goes_on c.put_back.ensures.goes_on

pub catch_and_hand-requires : goal.catch_and_hand-requires
catch_and_hand-requires g c =
    let old = g.H.Hall.state c.args.hall.now in
    let mid = g.H.Hall.state c.take_segments-segs.new.hall in
    let is = c.take_segments-segs.ensures in
    let took : Took 0 c.take_segments-segs.result old mid =
    record { may = may_hold c.requires.may; took = is.took; slots = is.slots; others = is.others; measure = is.measure } in
    let seen = is.others.later.seen 0 in
    record {
      may_ask = c.requires.may_ask;
      has = took_has took;
      hand = just_taken is.took.did;
      declared =
          let declared = c.requires.may.declared in
          let count = is.others.later.count in
          omega (arith, declared, count);
      sound = is.took.sound;
      log = is.took.log;
      catches = record {
        tied = tied_still (old.seen 0) c.take_segments-segs.result.log seen.0 (old.own 0) (mid.own 0) (marked_in 0 old) (marked_in 0 mid)
            c.args.joined.now c.args.maps.now (is.took.log ∙ seen.1) is.took.own (parts_marks (took_parts took)) c.requires.tied.table;
        claimed = is.took.stands.marked;
        calls = c.stops_mapping.ensures.fresh c.if-stops_mapping.false;
      };
      room = c.stops_mapping.ensures.room c.if-stops_mapping.false;
    }

pub returns-clause-mapped : goal.returns-clause-mapped
returns-clause-mapped g c =
    let segs = c.take_segments-segs.result in
    let handed = c.catch_and_hand.ensures.handed in
    let behind =
    tells_after_catching handed.0 (length segs.log) ++ (Notes (Loaded 0 handed.1) ∷ Notes (Read handed.2) ∷ handed.3) in (
      takes_segments segs ∷ behind,
      did_then c.take_segments-segs.ensures.took.did handed.4,
      λ party. mapped_by party c.args.core.now c.catch_and_hand.new.core c.args.maps.now c.catch_and_hand.new.maps
          c.args.watchers.now.listeners c.catch_and_hand.new.watchers.listeners c.args.joined.now c.catch_and_hand.new.joined segs handed.0
          handed.1 handed.2 handed.3 _ handed.6
          (handed.7 ∙ ap (λ (heard : List Listener). told_of segs.log handed.0 c.args.maps.now heard) c.stops_mapping.ensures.listeners)
          handed.5 handed.8,
    )

-- participant 0 is in the roster, and so it had a table
pub returns-clause-tied : goal.returns-clause-tied
returns-clause-tied g c =
    let is = c.take_segments-segs.ensures in
    let took : Took 0 c.take_segments-segs.result (g.H.Hall.state c.args.hall.now) (g.H.Hall.state c.take_segments-segs.new.hall) =
    record { may = may_hold c.requires.may; took = is.took; slots = is.slots; others = is.others; measure = is.measure } in
    let stays = freed_own took c.catch_and_hand.ensures.back c.catch_and_hand.ensures.measure in
    let handed = c.catch_and_hand.ensures.handed in
    let there = sym c.requires.tied.same ∙ (sym is.took.roster ∙ is.took.sound.places.primary) in
    let still = has_still c.args.joined.now (is_done handed.0) c.catch_and_hand.new.joined there handed.6 in
    record {
      table = c.catch_and_hand.ensures.tied;
      same = stays.parts.joined
          ∙ (c.requires.tied.same ∙ sym still);
      left = λ out heap. parts_marks stays.parts heap ∙ c.requires.tied.left (sym still ∙ out) heap;
    }

pub returns-clause-stays : goal.returns-clause-stays
returns-clause-stays g c =
    let is = c.take_segments-segs.ensures in
    let took : Took 0 c.take_segments-segs.result (g.H.Hall.state c.args.hall.now) (g.H.Hall.state c.take_segments-segs.new.hall) =
    record { may = may_hold c.requires.may; took = is.took; slots = is.slots; others = is.others; measure = is.measure } in
    freed_own took c.catch_and_hand.ensures.back c.catch_and_hand.ensures.measure

pub returns-clause-goes_on : goal.returns-clause-goes_on
returns-clause-goes_on g c = g.met.H.Hall.goes_on_then _ _ _ c.take_segments-segs.ensures.goes_on c.catch_and_hand.ensures.goes_on
