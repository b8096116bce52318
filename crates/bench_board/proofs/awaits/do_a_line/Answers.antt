use Rattle.std.proofs.Common.{◌≡◌, arith}
use Rattle.bench_board.proofs.AwaitLemmas.{all_home, told_back}
use Rattle.bench_board.proofs.awaits.do_a_line.Goals as goal

pub store_done-requires-clause-rises : goal.store_done-requires-clause-rises
store_done-requires-clause-rises g c = let untold = c.round.ensures.working.untold in omega (arith, untold)

pub store_done-requires-clause-home : goal.store_done-requires-clause-home
store_done-requires-clause-home g c = all_home c.args.board.now.id c.args.seat.mine.who c.round.result c.round.new.seat c.round.ensures.working

pub returns : goal.returns
returns g c = record {
  back = told_back c.args.board.now.id c.args.seat.mine.who c.round.result 1 c.round.new.seat c.store_done.new.seat c.round.ensures.working c.store_done.ensures.board
      c.store_done.ensures.told;
}
