-- What the participant knows of its table lets it catch up, and few events come; the acknowledgement is its own step.
use Rattle.std.proofs.Common.{◌≡◌, ◌∙◌, true, false, List, length, inr, sym, ap, subst, arith}
use Rattle.hp_base.specs.Mapping.{is_done}
use Rattle.hp_base.specs.declared.caught.Caught.TheVariants.{Done}
use Rattle.hp_hall.specs.HallState.{Did}
use Rattle.hp_hall.specs.Mail.{MailStep}
use Rattle.hp_hall.specs.Own.{Own}
use Rattle.hp_hall.proofs.HallStates.{did_same, others_same, parts_same, slots_same}
use Rattle.hp_log.specs.declared.log_record.LogRecord.{LogRecord}
use Rattle.hp_maps.proofs.ReadyLemmas.{ready_to_catch_up, tells_one_a_record}
use Rattle.hp_segs.specs.LogPlaces.{places_of}
use Rattle.hp_maps.specs.MapsView.{MapsView, chunk_rows}
use Rattle.hp_serve.specs.Serving.{told_of}
use Rattle.hp_serve.specs.Tied.{IsTied, no_chunks}
use Rattle.hp_serve.proofs.Attached.{acks_none, acks_whole, done_joined, done_own, emptied_tied, no_chunk_rows}
use Rattle.hp_serve.proofs.Tying.{nothing_beside, tied_by, tied_can}
use Rattle.hp_serve.proofs.attaching.take_whole_log.Goals as goal

pub catch_up-caught-requires-clause-can : goal.catch_up-caught-requires-clause-can
catch_up-caught-requires-clause-can g c =
    let segs = c.args.segs.now in
    let records = c.records-records.result.now in
    let sound = c.records-records.ensures.sound in
    let room_for =
    nothing_beside segs c.args.maps.now sound c.log_law.ensures.outside c.log_law.ensures.few c.rows-rows.ensures.apart c.requires.tied.table.chunks in
    ready_to_catch_up (places_of segs.pools) c.args.maps.now records (length records)
    (tied_can (places_of segs.pools) segs.log records ((g.H.Hall.state c.args.hall.now).own c.args.me) no_chunks c.args.joined c.args.maps.now
    c.records-records.ensures.records (c.log_law.ensures.placed segs sound) room_for.beside room_for.few c.requires.tied c.requires.calls)

pub catch_up-caught-requires-clause-spare : goal.catch_up-caught-requires-clause-spare
catch_up-caught-requires-clause-spare g c =
    let segs = c.args.segs.now in
    let records = c.records-records.result.now in
    let sound = c.records-records.ensures.sound in
    let room_for =
    nothing_beside segs c.args.maps.now sound c.log_law.ensures.outside c.log_law.ensures.few c.rows-rows.ensures.apart c.requires.tied.table.chunks in
    let told =
    tells_one_a_record (places_of segs.pools) c.args.maps.now records (length records) Done
    (tied_can (places_of segs.pools) segs.log records ((g.H.Hall.state c.args.hall.now).own c.args.me) no_chunks c.args.joined c.args.maps.now
    c.records-records.ensures.records (c.log_law.ensures.placed segs sound) room_for.beside room_for.few c.requires.tied c.requires.calls) in
    let room = c.requires.room in
    omega (arith, told, room, ap length c.records-records.ensures.records)

pub returns-then-is_done-clause-told : goal.returns-then-is_done-clause-told
returns-then-is_done-clause-told g c =
    subst
    (λ (log : List LogRecord). c.catch_up-caught.new.watchers.listeners ≡ told_of log c.catch_up-caught.result c.args.maps.now c.args.watchers.now.listeners)
    c.records-records.ensures.records c.catch_up-caught.ensures.told

pub returns-clause-told : goal.returns-clause-told
returns-clause-told g c =
    subst
    (λ (log : List LogRecord). c.catch_up-caught.new.watchers.listeners ≡ told_of log c.catch_up-caught.result c.args.maps.now c.args.watchers.now.listeners)
    c.records-records.ensures.records c.catch_up-caught.ensures.told

-- the segment value is in hand
pub ack-requires-clause-may : goal.ack-requires-clause-may
ack-requires-clause-may g c = inr c.requires.hand

pub returns-then-is_done-clause-did : goal.returns-then-is_done-clause-did
returns-then-is_done-clause-did g c =
    let caught = c.catch_up-caught.result in
    let records = length c.records-records.result.now in
    let done : is_done caught ≡ true = sym c.is_done.ensures ∙ c.if-is_done.true in
    subst (λ (steps : List MailStep). Did c.args.me steps (g.H.Hall.state c.args.hall.now) (g.H.Hall.state c.ack.new.self))
    (acks_whole caught records (length c.args.segs.now.log) done (ap (λ (log : List LogRecord). length log) c.records-records.ensures.records))
    c.ack.ensures.own.did

pub returns-then-is_done-clause-tied : goal.returns-then-is_done-clause-tied
returns-then-is_done-clause-tied g c =
    let me = c.args.me in
    let old = g.H.Hall.state c.args.hall.now in
    let new = g.H.Hall.state c.ack.new.self in
    let caught = c.catch_up-caught.result in
    let records = c.records-records.result.now in
    let up = c.catch_up-caught.ensures in
    let done : is_done caught ≡ true = sym c.is_done.ensures ∙ c.if-is_done.true in
    subst (λ b. IsTied c.args.segs.now.log (new.own me) no_chunks b c.catch_up-caught.new.maps) (done_joined c.args.joined (is_done caught) done)
    (tied_by c.args.segs.now.log records (old.own me) (new.own me) no_chunks c.args.joined c.args.maps.now c.catch_up-caught.new.maps caught
    c.records-records.ensures.records (c.ack.ensures.own.own ∙ done_own caught (length records) (old.own me) done) c.requires.tied up.caught.number
    up.caught.rows up.table up.chunks up.capacity)

pub returns-then-is_done-clause-whole : goal.returns-then-is_done-clause-whole
returns-then-is_done-clause-whole g c = λ done.
    ap (λ (own : Own). own.number) c.ack.ensures.own.own ∙ ap (λ (log : List LogRecord). length log) c.records-records.ensures.records

pub returns-then-is_done-clause-stays : goal.returns-then-is_done-clause-stays
returns-then-is_done-clause-stays g c =
    let own = c.ack.ensures.own in
    record { slots = own.slots; parts = own.parts; others = own.others; measure = c.ack.ensures.measure }

-- a table without a mark has no row of a chunk, nor has what a failed mapping left of it
pub empty-requires : goal.empty-requires
empty-requires g c = record {
  no_chunk = c.catch_up-caught.ensures.chunks ∙ no_chunk_rows (chunk_rows c.args.maps.now.rows) c.requires.tied.table.chunks;
}

pub returns-clause-did : goal.returns-clause-did
returns-clause-did g c =
    let old = g.H.Hall.state c.args.hall.now in
    let failed : is_done c.catch_up-caught.result ≡ false = sym c.is_done.ensures ∙ c.if-is_done.false in
    subst (λ (steps : List MailStep). Did c.args.me steps old old)
    (acks_none c.catch_up-caught.result (length c.args.segs.now.log) failed) (did_same c.args.me old)

pub returns-clause-tied : goal.returns-clause-tied
returns-clause-tied g c =
    let own = (g.H.Hall.state c.args.hall.now).own c.args.me in
    let log = c.args.segs.now.log in
    let tied = c.requires.tied in
    let room = tied.table.room in
    let capacity = c.catch_up-caught.ensures.capacity in
    let failed : is_done c.catch_up-caught.result ≡ false = sym c.is_done.ensures ∙ c.if-is_done.false in
    subst (λ b. IsTied log own no_chunks b c.empty.new.maps) (sym failed)
    (subst (λ (maps : MapsView). IsTied log own no_chunks false maps) (sym c.empty.ensures)
    (emptied_tied log own c.catch_up-caught.new.maps tied.within (omega (arith, room, capacity))))

pub returns-clause-stays : goal.returns-clause-stays
returns-clause-stays g c =
    let old = g.H.Hall.state c.args.hall.now in
    record { slots = slots_same old; parts = parts_same c.args.me old; others = others_same c.args.me old; measure = omega arith }

pub returns-clause-goes_on : goal.returns-clause-goes_on
returns-clause-goes_on g c = g.met.H.Hall.goes_on_same _
