use Rattle.std.proofs.Common.{[], refl}
use Rattle.hp_board.proofs.KeptAt.{is_names}
use Rattle.test_board.proofs.ZoneKnown.{names_agree}
use Rattle.test_board.proofs.ZoneLemmas.{names_given, names_gives, sits_names}
use Rattle.test_board.proofs.ZoneNames.{same_go, same_none}
use Rattle.test_board.proofs.tests.turn.zone_turns.try_reserve.Goals as goal

pub into_names-names-requires : goal.into_names-names-requires
into_names-names-requires g c = record { names = is_names c.args.seat.now.mine.opening c.take-kept.result c.take-kept.ensures.handed.at }

pub give-requires-clause-gives : goal.give-requires-clause-gives
give-requires-clause-gives g c =
    let was = c.args.seat.now in
    let names = c.into_names-names.result in
    names_gives c.args.board.now.id c.args.who c.args.made [] c.take-kept.new.seat names names
    (sits_names c.args.board.now.id c.args.who c.args.made [] was c.take-kept.new.seat c.requires.free c.take-kept.ensures.board c.take-kept.result names c.into_names-names.ensures c.take-kept.ensures.taken)
    (same_go names) (λ zone among. same_none names zone _ among)
    (names_agree was.mine c.take-kept.new.seat.mine c.take-kept.result names c.take-kept.ensures.handed c.into_names-names.ensures)

pub reserve_with-requires-clause-hand : goal.reserve_with-requires-clause-hand
reserve_with-requires-clause-hand g c =
    let was = c.args.seat.now in
    let names = c.into_names-names.result in
    let sits = sits_names c.args.board.now.id c.args.who c.args.made [] was c.take-kept.new.seat c.requires.free c.take-kept.ensures.board c.take-kept.result names c.into_names-names.ensures
    c.take-kept.ensures.taken in
    record {
      sits = sits;
      agree = names_agree was.mine c.take-kept.new.seat.mine c.take-kept.result names c.take-kept.ensures.handed c.into_names-names.ensures;
    }

pub returns-then-is_some-clause-refused : goal.returns-then-is_some-clause-refused
returns-then-is_some-clause-refused g c = λ _.
    let was = c.args.seat.now in
    let names = c.into_names-names.result in
    names_given c.args.board.now.id c.args.who c.args.made [] c.take-kept.new.seat names names
    (sits_names c.args.board.now.id c.args.who c.args.made [] was c.take-kept.new.seat c.requires.free c.take-kept.ensures.board c.take-kept.result names c.into_names-names.ensures c.take-kept.ensures.taken)
    c.give.new.seat refl c.give.ensures.board c.give.ensures.given
