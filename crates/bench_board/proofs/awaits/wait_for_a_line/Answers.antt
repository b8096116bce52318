use Rattle.std.proofs.Common.{◌<◌, sym, subst}
use Rattle.hp_board.specs.declared.view.Mine.{Mine}
use Rattle.bench_board.proofs.AwaitLemmas.{looked_working}
use Rattle.bench_board.proofs.awaits.wait_for_a_line.Goals as goal

pub loop-preserved : goal.loop-preserved
loop-preserved g c = (
  looked_working c.args.board.now.id c.args.seat.now.mine.who 0 0 c.load_done.result c.loop.seat c.load_done.new.seat c.loop.invariant.0 c.load_done.ensures.board
      c.load_done.ensures.looked,
  subst (λ (m : Mine). 0 < m.opening.participants) (sym c.load_done.ensures.looked) c.loop.invariant.1,
)
