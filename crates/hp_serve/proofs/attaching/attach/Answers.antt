-- The steps follow one another: the value is taken, the log is taken in, and the value is given back.
use Rattle.std.proofs.Common.{◌∙◌, ◌||◌, List, [], ◌∷◌, length, refl, sym, ap, subst, arith}
use Rattle.hp_base.specs.Mapping.{is_done}
use Rattle.hp_hall.specs.HallState.{Did}
use Rattle.hp_hall.specs.Mail.{Notes}
use Rattle.hp_hall.specs.declared.note.Note.TheVariants.{Acked}
use Rattle.hp_hall.proofs.HallStates.{acked_taken, but_then, did_then, just_taken, others_then, slots_but}
use Rattle.hp_base.specs.Telling.{Listener}
use Rattle.hp_serve.specs.Serving.{takes_segments, told_of}
use Rattle.hp_serve.specs.Tied.{IsTied, no_chunks}
use Rattle.hp_serve.proofs.Attached.{acks_done, attached_roster}
use Rattle.hp_serve.proofs.SegmentSlots.{Took, closed, has_still, put_stays, took_has, took_serves}
use Rattle.hp_serve.proofs.Tying.{tied_since}
use Rattle.hp_serve.proofs.attaching.attach.Goals as goal

pub take_segments-segs-requires : goal.take_segments-segs-requires
take_segments-segs-requires g c = record { serves = c.requires.may.serves; home = c.requires.may.home }

pub take_whole_log-caught-requires : goal.take_whole_log-caught-requires
take_whole_log-caught-requires g c =
    let me = c.args.me in
    let old = g.H.Hall.state c.args.hall.now in
    let mid = g.H.Hall.state c.take_segments-segs.new.hall in
    let segs = c.take_segments-segs.result in
    let is = c.take_segments-segs.ensures in
    let took : Took me c.take_segments-segs.result (g.H.Hall.state c.args.hall.now) (g.H.Hall.state c.take_segments-segs.new.hall) =
    record { may = c.requires.may; took = is.took; slots = is.slots; others = is.others; measure = is.measure } in
    let seen = is.others.later.seen me in
    record {
      serves = took_serves took;
      hand = just_taken is.took.did;
      seen = is.took.log;
      tied = tied_since (old.seen me) segs.log seen.0 (old.own me) (mid.own me) no_chunks c.args.joined c.args.maps.now (is.took.log ∙ seen.1) is.took.own
          c.requires.tied;
      calls = c.requires.calls;
      room = c.make_room.ensures.room c.if-not-make_room.false;
    }

-- there was no room, and it is given back as it was
pub put_back-requires : goal.put_back-requires
put_back-requires g c =
    let is = c.take_segments-segs.ensures in
    let took : Took c.args.me c.take_segments-segs.result (g.H.Hall.state c.args.hall.now) (g.H.Hall.state c.take_segments-segs.new.hall) =
    record { may = c.requires.may; took = is.took; slots = is.slots; others = is.others; measure = is.measure } in
    record { has = took_has took }

pub returns-then-not-make_room-clause-err : goal.returns-then-not-make_room-clause-err
returns-then-not-make_room-clause-err g c =
    let is = c.take_segments-segs.ensures in
    let took : Took c.args.me c.take_segments-segs.result (g.H.Hall.state c.args.hall.now) (g.H.Hall.state c.take_segments-segs.new.hall) =
    record { may = c.requires.may; took = is.took; slots = is.slots; others = is.others; measure = is.measure } in
    let stays = put_stays took c.put_back.ensures.back in (
      refl,
      c.make_room.ensures.listeners,
      c.make_room.ensures.watched c.if-not-make_room.true,
      record {
        segs = c.take_segments-segs.result;
        did = did_then is.took.did c.put_back.ensures.back.back.gave.did;
        own = stays.mine.own;
        joined = stays.mine.parts.joined;
      },
    )

pub returns-then-not-make_room-clause-stays : goal.returns-then-not-make_room-clause-stays
returns-then-not-make_room-clause-stays g c =
    let is = c.take_segments-segs.ensures in
    let took : Took c.args.me c.take_segments-segs.result (g.H.Hall.state c.args.hall.now) (g.H.Hall.state c.take_segments-segs.new.hall) =
    record { may = c.requires.may; took = is.took; slots = is.slots; others = is.others; measure = is.measure } in
    let stays = put_stays took c.put_back.ensures.back in
    let first = is.measure in
    let then = c.put_back.ensures.back.back.measure in
    record {
      slots = stays.slots;
      part = stays.mine.parts.part;
      lines = stays.mine.parts.lines;
      others = stays.others;
      measure = omega (arith, first, then);
    }

pub returns-then-not-make_room-clause-goes_on : goal.returns-then-not-make_room-clause-goes_on
returns-then-not-make_room-clause-goes_on g c =
    g.met.H.Hall.goes_on_then _ _ _ c.take_segments-segs.ensures.goes_on c.put_back.ensures.goes_on

pub give_attached-requires-clause-has : goal.give_attached-requires-clause-has
give_attached-requires-clause-has g c =
    let stays = c.take_whole_log-caught.ensures.stays in
    let is = c.take_segments-segs.ensures in
    let took : Took c.args.me c.take_segments-segs.result (g.H.Hall.state c.args.hall.now) (g.H.Hall.state c.take_segments-segs.new.hall) =
    record { may = c.requires.may; took = is.took; slots = is.slots; others = is.others; measure = is.measure } in
    has_still stays.slots stays.parts stays.others (took_has took)

-- it has acknowledged the whole log since it took the value
pub give_attached-requires-clause-acked : goal.give_attached-requires-clause-acked
give_attached-requires-clause-acked g c = λ done.
    let me = c.args.me in
    let mid = g.H.Hall.state c.take_segments-segs.new.hall in
    let late = g.H.Hall.state c.take_whole_log-caught.new.hall in
    let records = length c.take_segments-segs.result.log in
    let acked : Did me (Notes (Acked records) ∷ []) mid late =
    subst (λ steps. Did me steps mid late) (acks_done c.take_whole_log-caught.result records done) c.take_whole_log-caught.ensures.did in
    let both : Did me (takes_segments c.take_segments-segs.result ∷ Notes (Acked records) ∷ []) (g.H.Hall.state c.args.hall.now) late =
    did_then c.take_segments-segs.ensures.took.did acked in
    acked_taken both

pub returns-clause-ok : goal.returns-clause-ok
returns-clause-ok g c =
    let me = c.args.me in
    let mid = g.H.Hall.state c.take_whole_log-caught.new.hall in
    let new = g.H.Hall.state c.give_attached.new.hall in
    let up = c.take_whole_log-caught.ensures in
    let caught = c.take_whole_log-caught.result in
    let maps = c.take_whole_log-caught.new.maps in
    let segs = c.take_segments-segs.result in
    let few = c.requires.few in
    record {
      segs = segs;
      mid = up.caught.0;
      caught_up = up.caught.1;
      left = up.caught.2;
      told_is = up.told ∙ ap (λ (heard : List Listener). told_of segs.log caught c.args.maps.now heard) c.make_room.ensures.listeners;
      did = did_then c.take_segments-segs.ensures.took.did (did_then up.did c.give_attached.ensures.back.gave.did);
      tied = subst (λ log. IsTied log (new.own me) no_chunks (is_done caught) maps) (sym c.give_attached.ensures.log)
          (subst (λ own. IsTied segs.log own no_chunks (is_done caught) maps) (sym c.give_attached.ensures.back.gave.own) up.tied);
      failed = λ failed. c.give_attached.ensures.back.gave.own ∙ up.failed failed ∙ c.take_segments-segs.ensures.took.own;
      roster = c.give_attached.ensures.back.gave.joined
          ∙ (attached_roster me caught segs (omega (arith, few, c.take_segments-segs.ensures.took.sound.places.roster_places))
          ∙ ap (λ joined. joined || is_done caught) c.take_segments-segs.ensures.took.roster);
    }

pub returns-clause-stays : goal.returns-clause-stays
returns-clause-stays g c =
    let is = c.take_segments-segs.ensures in
    let caught = c.take_whole_log-caught.ensures.stays in
    let given = c.give_attached.ensures in
    let first = is.measure in
    let second = caught.measure in
    let third = given.back.measure in
    record {
      slots = closed c.requires.may (but_then is.slots (slots_but caught.slots)) given.back.slots given.back.gave.taken given.back.gave.home;
      part = λ heap. given.part heap ∙ (caught.parts.part heap ∙ is.took.part heap);
      lines = given.back.gave.lines ∙ (caught.parts.lines ∙ is.took.lines);
      others = others_then is.others (others_then caught.others given.back.others);
      measure = omega (arith, first, second, third);
    }

pub returns-clause-goes_on : goal.returns-clause-goes_on
returns-clause-goes_on g c =
    g.met.H.Hall.goes_on_then _ _ _ c.take_segments-segs.ensures.goes_on
    (g.met.H.Hall.goes_on_then _ _ _ c.take_whole_log-caught.ensures.goes_on c.give_attached.ensures.goes_on)
