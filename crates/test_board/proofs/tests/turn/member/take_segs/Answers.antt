use Rattle.hp_board.proofs.KeptAt.{is_segments}
use Rattle.test_board.proofs.PlayLemmas.{taken_sound, took_has, took_holds}
use Rattle.test_board.proofs.tests.turn.member.take_segs.Goals as goal

pub into_segments-requires : goal.into_segments-requires
into_segments-requires g c = record { segments = is_segments c.args.seat.now.mine.opening c.take.result c.take.ensures.handed.at }

pub returns-clause-holds : goal.returns-clause-holds
returns-clause-holds g c =
    took_holds c.args.board.now.id c.args.seat.now c.take.new.seat c.args.maps.now c.take.result c.into_segments.result c.requires.playing c.take.ensures.board c.take.ensures.handed
    c.take.ensures.taken c.into_segments.ensures
    (taken_sound c.args.seat.now.mine.opening c.take.result c.into_segments.result c.take.ensures.handed.at c.into_segments.ensures)

pub returns-clause-has : goal.returns-clause-has
returns-clause-has g c =
    took_has c.args.board.now.id c.args.seat.now c.take.new.seat c.args.maps.now c.take.result c.into_segments.result c.requires.playing c.take.ensures.board c.take.ensures.handed
    c.take.ensures.taken c.into_segments.ensures
