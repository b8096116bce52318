use Rattle.std.proofs.Common.{◌∙◌}
use Rattle.hp_hall.proofs.Gives.{segs_same}
use Rattle.hp_board.specs.Knowing.{knows_of}
use Rattle.bench_board.proofs.VisitLemmas.{may_give_all, ready_again}
use Rattle.bench_board.proofs.members.follow.Goals as goal

pub give-requires-clause-gives : goal.give-requires-clause-gives
give-requires-clause-gives g c =
    may_give_all c.args.seat.now.mine c.take_all-segs.new.seat.mine c.take_all-segs.result c.take_all-segs.result c.take_all-segs.ensures.holds
    (segs_same (knows_of c.take_all-segs.new.seat.mine) c.take_all-segs.result)

pub returns : goal.returns
returns g c =
    record {
      ready =
          ready_again c.args.board.now.id c.args.seat.now c.give.new.seat c.take_all-segs.new.seat.mine c.take_all-segs.result c.take_all-segs.result c.requires.ready
          (c.give.ensures.board ∙ c.take_all-segs.ensures.board ∙ c.requires.ready.board_is) c.take_all-segs.ensures.holds
          (segs_same (knows_of c.take_all-segs.new.seat.mine) c.take_all-segs.result) c.give.ensures.given;
    }
