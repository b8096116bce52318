-- The value is taken and given back, and an emptied table is tied, however many records were acknowledged.
use Rattle.std.proofs.Common.{◌∙◌, [], ◌∷◌, false, ap, sym, subst, arith}
use Rattle.hp_hall.specs.HallState.{Did}
use Rattle.hp_hall.specs.Mail.{Notes}
use Rattle.hp_hall.specs.declared.note.Note.TheVariants.{Emptied}
use Rattle.hp_hall.proofs.HallStates.{but_then, did_then, emptied_taken, others_then, slots_but}
use Rattle.hp_maps.specs.MapsView.{MapsView, chunk_rows}
use Rattle.hp_serve.specs.Attaching.{emptied}
use Rattle.hp_serve.specs.Serving.{takes_segments}
use Rattle.hp_serve.specs.Tied.{IsTied, no_chunks}
use Rattle.hp_serve.proofs.Attached.{emptied_tied, left_roster, no_chunk_rows}
use Rattle.hp_serve.proofs.SegmentSlots.{Took, closed, has_still, took_has, took_serves}
use Rattle.hp_serve.proofs.Tying.{tied_since}
use Rattle.hp_serve.proofs.attaching.detach.Goals as goal

pub take_segments-segs-requires : goal.take_segments-segs-requires
take_segments-segs-requires g c = record { serves = c.requires.may.serves; home = c.requires.may.home }

-- it has no mark, and so no row of a chunk
pub empty_told-requires-clause-no_chunk : goal.empty_told-requires-clause-no_chunk
empty_told-requires-clause-no_chunk g c = no_chunk_rows (chunk_rows c.args.table.now.rows) c.requires.tied.table.chunks

pub give_left-requires-clause-has : goal.give_left-requires-clause-has
give_left-requires-clause-has g c =
    let is = c.take_segments-segs.ensures in
    let took : Took c.args.me c.take_segments-segs.result (g.H.Hall.state c.args.hall.now) (g.H.Hall.state c.take_segments-segs.new.hall) =
    record { may = c.requires.may; took = is.took; slots = is.slots; others = is.others; measure = is.measure } in
    let told = c.tell_empty.ensures.stays in
    has_still told.slots told.mine.parts told.others (took_has took)

-- it has told that its table has no row since it took the value
pub give_left-requires-clause-emptied : goal.give_left-requires-clause-emptied
give_left-requires-clause-emptied g c =
    let told : Did c.args.me (takes_segments c.take_segments-segs.result ∷ Notes Emptied ∷ []) (g.H.Hall.state c.args.hall.now)
    (g.H.Hall.state c.tell_empty.new.hall) =
    did_then c.take_segments-segs.ensures.took.did c.tell_empty.ensures.did in
    emptied_taken told

pub tell_empty-requires : goal.tell_empty-requires
tell_empty-requires g c =
    let is = c.take_segments-segs.ensures in
    let took : Took c.args.me c.take_segments-segs.result (g.H.Hall.state c.args.hall.now) (g.H.Hall.state c.take_segments-segs.new.hall) =
    record { may = c.requires.may; took = is.took; slots = is.slots; others = is.others; measure = is.measure } in
    record { serves = took_serves took; unmapped = ap (λ (maps : MapsView). maps.rows) c.empty_told.ensures.maps }

pub returns-clause-left : goal.returns-clause-left
returns-clause-left g c =
    let few = c.requires.few in
    record {
      segs = c.take_segments-segs.result;
      did = did_then c.take_segments-segs.ensures.took.did (did_then c.tell_empty.ensures.did c.give_left.ensures.back.gave.did);
      own = c.give_left.ensures.back.gave.own ∙ (c.tell_empty.ensures.stays.mine.own ∙ c.take_segments-segs.ensures.took.own);
      roster = c.give_left.ensures.back.gave.joined
          ∙ left_roster c.args.me c.take_segments-segs.result
          (omega (arith, few, c.take_segments-segs.ensures.took.sound.places.roster_places));
    }

pub returns-clause-tied : goal.returns-clause-tied
returns-clause-tied g c =
    let me = c.args.me in
    let old = g.H.Hall.state c.args.hall.now in
    let new = g.H.Hall.state c.give_left.new.hall in
    let maps = c.args.table.now in
    let is = c.take_segments-segs.ensures in
    let seen = is.others.later.seen me in
    let tied = c.requires.tied in
    subst (λ (maps : MapsView). IsTied (new.seen me) (new.own me) no_chunks false maps) (sym c.empty_told.ensures.maps)
    (tied_since (old.seen me) (new.seen me) seen.0 (old.own me) (new.own me) no_chunks false (emptied maps)
    (c.give_left.ensures.log ∙ (is.took.log ∙ seen.1)) (c.give_left.ensures.back.gave.own ∙ (c.tell_empty.ensures.stays.mine.own ∙ is.took.own))
    (emptied_tied (old.seen me) (old.own me) maps tied.within tied.table.room))

pub returns-clause-stays : goal.returns-clause-stays
returns-clause-stays g c =
    let is = c.take_segments-segs.ensures in
    let told = c.tell_empty.ensures in
    let given = c.give_left.ensures in
    let first = is.measure in
    let second = told.measure in
    let third = given.back.measure in
    record {
      slots = closed c.requires.may (but_then is.slots (slots_but told.stays.slots)) given.back.slots given.back.gave.taken given.back.gave.home;
      part = λ heap. given.part heap ∙ (told.stays.mine.parts.part heap ∙ is.took.part heap);
      lines = given.back.gave.lines ∙ (told.stays.mine.parts.lines ∙ is.took.lines);
      others = others_then is.others (others_then told.stays.others given.back.others);
      measure = omega (arith, first, second, third);
    }

pub returns-clause-goes_on : goal.returns-clause-goes_on
returns-clause-goes_on g c =
    g.met.H.Hall.goes_on_then _ _ _ c.take_segments-segs.ensures.goes_on
    (g.met.H.Hall.goes_on_then _ _ _ c.tell_empty.ensures.goes_on c.give_left.ensures.goes_on)
