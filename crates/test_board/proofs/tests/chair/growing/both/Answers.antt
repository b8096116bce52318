use denote.Param.Send.{sendable}
use Rattle.std.proofs.Crossing.{crosses}
use Rattle.hp_base.proofs.plan.Plan.TheSendSync as Plan
use Rattle.hp_mail.proofs.mailbox.Mailbox.TheSendSync as Mailbox
use Rattle.hp_mail.proofs.pass.Pass.TheSendSync as Pass
use Rattle.hp_stats.proofs.stat_cells.StatCells.TheSendSync as Cells
use Rattle.hp_stats.proofs.stat_pass.StatPass.TheSendSync as Reader
use Rattle.hp_chair.proofs.Crossing.{board_sync, seat_send}
use Rattle.hp_chair.proofs.marks.Marks.TheSendSync as Marks
use Rattle.test_board.proofs.tests.chair.growing.both.Goals as goal

pub join-requires-send-F : goal.join-requires-send-F
join-requires-send-F g c κs within =
    let runtime = c.type_bounds.sync-R in
    search (
      sendable,
      crosses,
      board_sync,
      seat_send,
      Marks.the_sync,
      Mailbox.the_sync,
      Pass.the_send,
      Plan.the_sync,
      Cells.the_sync,
      Reader.the_send,
    ) depth 60 fits 100000
