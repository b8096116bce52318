use Rattle.std.specs.Prelude.{length}
use Rattle.hp_board.specs.Views.{noted_of}
use Rattle.test_board.proofs.PlayLemmas.{come_none}
use Rattle.test_board.proofs.tests.turn.leader.event_of.Goals as goal

pub returns-in-Start-clause-comes : goal.returns-in-Start-clause-comes
returns-in-Start-clause-comes c = come_none c.args.seat.now.mine

pub returns-in-Start-clause-known : goal.returns-in-Start-clause-known
returns-in-Start-clause-known c = c.ask_of.ensures.known (λ who. noted_of who c.args.seat.now.mine) (length c.args.segs.now.log)

pub returns-in-End-clause-comes : goal.returns-in-End-clause-comes
returns-in-End-clause-comes c = come_none c.args.seat.now.mine
