use Rattle.std.proofs.Common.{true, List, length, sym, ap, subst, arith, ◌∙◌}
use Rattle.hp_base.specs.declared.caught.Caught.TheVariants.{Done}
use Rattle.hp_maps.proofs.ReadyLemmas.{ready_to_catch_up, tells_one_a_record}
use Rattle.hp_log.specs.declared.log_record.LogRecord.{LogRecord}
use Rattle.hp_serve.specs.Serving.{CatchesUp}
use Rattle.hp_segs.specs.LogPlaces.{places_of}
use Rattle.hp_serve.proofs.Handed.{mapped_number}
use Rattle.hp_serve.proofs.Tying.{nothing_beside, tied_by, tied_can}
use Rattle.hp_serve.specs.Tied.{no_chunks}
use Rattle.hp_board.specs.Views.{own_of}
use Rattle.test_board.proofs.PlayLemmas.{come_holds, come_none, holds_tied, holds_within}
use Rattle.test_board.proofs.tests.turn.member.take_in.Goals as goal

pub catch_up-caught-requires-clause-can : goal.catch_up-caught-requires-clause-can
catch_up-caught-requires-clause-can c =
    let segs = c.args.segs.now in
    let records = c.records-records.result.now in
    let sound = c.records-records.ensures.sound in
    let room = nothing_beside segs c.args.maps.now sound c.log_law.ensures.outside c.log_law.ensures.few c.rows-rows.ensures.apart c.requires.holds.playing.tied.table.chunks in
    ready_to_catch_up (places_of segs.pools) c.args.maps.now records (length records)
    (tied_can (places_of segs.pools) segs.log records (own_of c.args.seat.now.mine) no_chunks true c.args.maps.now c.records-records.ensures.records (c.log_law.ensures.placed segs sound) room.beside room.few
    (holds_tied c.args.board.now.id segs c.args.seat.now c.args.maps.now c.requires.holds) (c.is_worn.ensures.fresh c.if-is_worn.false))

pub catch_up-caught-requires-clause-spare : goal.catch_up-caught-requires-clause-spare
catch_up-caught-requires-clause-spare c =
    let segs = c.args.segs.now in
    let records = c.records-records.result.now in
    let sound = c.records-records.ensures.sound in
    let room = nothing_beside segs c.args.maps.now sound c.log_law.ensures.outside c.log_law.ensures.few c.rows-rows.ensures.apart c.requires.holds.playing.tied.table.chunks in
    let told =
    tells_one_a_record (places_of segs.pools) c.args.maps.now records (length records) Done
    (tied_can (places_of segs.pools) segs.log records (own_of c.args.seat.now.mine) no_chunks true c.args.maps.now c.records-records.ensures.records (c.log_law.ensures.placed segs sound) room.beside room.few
    (holds_tied c.args.board.now.id segs c.args.seat.now c.args.maps.now c.requires.holds) (c.is_worn.ensures.fresh c.if-is_worn.false)) in
    omega (arith, told, c.records-records.type_inv.1)

pub tell-requires-clause-rises : goal.tell-requires-clause-rises
tell-requires-clause-rises c =
    let within = holds_within c.args.board.now.id c.args.segs.now c.args.seat.now c.args.maps.now c.requires.holds in
    omega (arith, within, ap length c.records-records.ensures.records)

pub tell-requires-clause-seen : goal.tell-requires-clause-seen
tell-requires-clause-seen c = ap length (c.records-records.ensures.records ∙ sym c.requires.holds.log)

pub returns-clause-holds : goal.returns-clause-holds
returns-clause-holds c =
    let records = c.records-records.result.now in
    let up = c.catch_up-caught.ensures in
    come_holds c.args.board.now.id c.args.segs.now c.args.seat.now c.tell.new.seat c.args.maps.now c.catch_up-caught.new.self c.requires.holds c.tell.ensures.board c.tell.ensures.comes
    (tied_by c.args.segs.now.log records (own_of c.args.seat.now.mine) (own_of c.tell.new.seat.mine) no_chunks true c.args.maps.now c.catch_up-caught.new.self c.catch_up-caught.result
    c.records-records.ensures.records c.tell.ensures.own (holds_tied c.args.board.now.id c.args.segs.now c.args.seat.now c.args.maps.now c.requires.holds) up.number up.rows up.table up.chunks
    up.capacity)

pub returns-then-is_worn-clause-comes : goal.returns-then-is_worn-clause-comes
returns-then-is_worn-clause-comes c = come_none c.args.seat.now.mine

pub returns-clause-done : goal.returns-clause-done
returns-clause-done c = λ none.
    let records = c.records-records.result.now in
    let up = c.catch_up-caught.ensures in
    let old = c.args.maps.now in
    let new = c.catch_up-caught.new.self in
    let caught = c.catch_up-caught.result in
    let came : CatchesUp c.args.segs.now.log old new caught =
    subst (λ (log : List LogRecord). CatchesUp log old new caught) c.records-records.ensures.records
    (record { answered = up.answered; number = up.number; rows = up.rows; reason = up.reason; stays = up.may_fail }) in
    sym (mapped_number c.args.segs.now.log (own_of c.tell.new.seat.mine) no_chunks true old new caught came
    (tied_by c.args.segs.now.log records (own_of c.args.seat.now.mine) (own_of c.tell.new.seat.mine) no_chunks true old new caught c.records-records.ensures.records c.tell.ensures.own
    (holds_tied c.args.board.now.id c.args.segs.now c.args.seat.now old c.requires.holds) up.number up.rows up.table up.chunks up.capacity) none)
