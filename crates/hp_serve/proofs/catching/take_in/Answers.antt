-- What the participant knows of its table lets it catch up, and as few events come as records.
use Rattle.std.proofs.Common.{◌≡◌, ◌||◌, List, length, ap, subst, arith}
use Rattle.hp_base.specs.Mapping.{is_done}
use Rattle.hp_base.specs.declared.caught.Caught.TheVariants.{Done}
use Rattle.hp_hall.specs.HallState.{Did}
use Rattle.hp_log.specs.declared.log_record.LogRecord.{LogRecord}
use Rattle.hp_maps.proofs.ReadyLemmas.{ready_to_catch_up, tells_one_a_record}
use Rattle.hp_segs.specs.LogPlaces.{places_of}
use Rattle.hp_serve.specs.Serving.{tells_after_catching, told_of}
use Rattle.hp_serve.specs.InHall.{marked_in}
use Rattle.hp_serve.proofs.InHalls.{parts_marks}
use Rattle.hp_serve.proofs.Tying.{room_beside, tied_by, tied_can, tied_marks}
use Rattle.hp_serve.proofs.catching.take_in.Goals as goal

pub catch_up-caught-requires-clause-can : goal.catch_up-caught-requires-clause-can
catch_up-caught-requires-clause-can g c =
    let segs = c.args.segs.now in
    let records = c.records-records.result.now in
    let sound = c.records-records.ensures.sound in
    let marked = marked_in c.args.me (g.H.Hall.state c.args.hall.now) in
    let room_for =
    room_beside segs marked c.args.maps.now sound c.log_law.ensures.outside c.log_law.ensures.few c.rows-rows.ensures.apart
    c.requires.may.tied.table.chunks c.requires.may.claimed in
    ready_to_catch_up (places_of segs.pools) c.args.maps.now records (length records)
    (tied_can (places_of segs.pools) segs.log records ((g.H.Hall.state c.args.hall.now).own c.args.me) marked c.args.joined c.args.maps.now
    c.records-records.ensures.records (c.log_law.ensures.placed segs sound) room_for.beside room_for.few c.requires.may.tied c.requires.may.calls)

pub catch_up-caught-requires-clause-spare : goal.catch_up-caught-requires-clause-spare
catch_up-caught-requires-clause-spare g c =
    let segs = c.args.segs.now in
    let records = c.records-records.result.now in
    let sound = c.records-records.ensures.sound in
    let marked = marked_in c.args.me (g.H.Hall.state c.args.hall.now) in
    let room_for =
    room_beside segs marked c.args.maps.now sound c.log_law.ensures.outside c.log_law.ensures.few c.rows-rows.ensures.apart
    c.requires.may.tied.table.chunks c.requires.may.claimed in
    let told =
    tells_one_a_record (places_of segs.pools) c.args.maps.now records (length records) Done
    (tied_can (places_of segs.pools) segs.log records ((g.H.Hall.state c.args.hall.now).own c.args.me) marked c.args.joined c.args.maps.now
    c.records-records.ensures.records (c.log_law.ensures.placed segs sound) room_for.beside room_for.few c.requires.may.tied c.requires.may.calls) in
    let room = c.requires.room in
    omega (arith, told, room, ap length c.records-records.ensures.records)

pub returns-clause-told : goal.returns-clause-told
returns-clause-told g c =
    subst
    (λ (log : List LogRecord). c.catch_up-caught.new.watchers.listeners ≡ told_of log c.catch_up-caught.result c.args.maps.now c.args.watchers.now.listeners)
    c.records-records.ensures.records c.catch_up-caught.ensures.told

pub returns-clause-tied : goal.returns-clause-tied
returns-clause-tied g c =
    let records = c.records-records.result.now in
    let up = c.catch_up-caught.ensures in
    let me = c.args.me in
    let old = g.H.Hall.state c.args.hall.now in
    let new = g.H.Hall.state c.tell_number.new.hall in
    tied_marks c.args.segs.now.log (new.own me) (marked_in me old) (marked_in me new) (c.args.joined || is_done c.catch_up-caught.result)
    c.catch_up-caught.new.maps (parts_marks c.tell_number.ensures.own.parts)
    (tied_by c.args.segs.now.log records (old.own me) (new.own me) (marked_in me old) c.args.joined c.args.maps.now c.catch_up-caught.new.maps
    c.catch_up-caught.result c.records-records.ensures.records c.tell_number.ensures.own.own c.requires.may.tied up.caught.number up.caught.rows up.table up.chunks up.capacity)

pub returns-clause-did : goal.returns-clause-did
returns-clause-did g c =
    subst
    (λ (records : List LogRecord). Did c.args.me (tells_after_catching c.catch_up-caught.result (length records)) (g.H.Hall.state c.args.hall.now)
    (g.H.Hall.state c.tell_number.new.hall))
    c.records-records.ensures.records c.tell_number.ensures.own.did

pub returns-clause-stays : goal.returns-clause-stays
returns-clause-stays g c =
    let own = c.tell_number.ensures.own in
    record { slots = own.slots; parts = own.parts; others = own.others; measure = c.tell_number.ensures.measure }
