-- A participant with its place at the board may go to another thread, and so may what comes home from there; what all share may be shared by
-- threads. What a mapper answered, what a slot keeps and what a watcher began with are lists that reach themselves, so this is shown type by
-- type.
use denote.Param.Send.{IsSend, IsSync, sendable}
use denote.RattleType.{RattleType}
use denote.Ref.{NamedLft}
use Rattle.std.proofs.Crossing.{crosses}
use Rattle.hp_base.specs.contracts.answers.Answers.{the_row as AnswersRow}
use Rattle.hp_base.specs.declared.clock.Clock
use Rattle.hp_base.specs.declared.mapper.Mapper
use Rattle.hp_base.proofs.answers.Answers.TheLaws.TheKnot as AnswersKnot
use Rattle.hp_base.proofs.plan.Plan.TheSendSync as Plan
use Rattle.hp_core.proofs.coordinator.Coordinator.TheSendSync as Core
use Rattle.hp_events.specs.contracts.rows_then.RowsThen.{the_row as RowsThenRow}
use Rattle.hp_events.proofs.rows_then.RowsThen.TheLaws.TheKnot as RowsThenKnot
use Rattle.hp_events.specs.contracts.watcher.Watcher.{the_row as WatcherRow}
use Rattle.hp_events.specs.contracts.watcher.Watcher.TheInside.{the_row as WatcherInside}
use Rattle.hp_events.specs.contracts.watchers.Watchers.{the_row as WatchersRow}
use Rattle.hp_events.specs.contracts.watchers.Watchers.TheInside.{the_row as WatchersInside}
use Rattle.hp_maps.specs.contracts.planned.Planned.{the_row as PlannedRow}
use Rattle.hp_maps.specs.contracts.planned.Planned.TheInside.{the_row as PlannedInside}
use Rattle.hp_maps.proofs.local_maps.LocalMaps.TheSendSync as Maps
use Rattle.hp_mail.proofs.mailbox.Mailbox.TheSendSync as Mailbox
use Rattle.hp_mail.proofs.pass.Pass.TheSendSync as Pass
use Rattle.hp_stats.proofs.stat_cells.StatCells.TheSendSync as Cells
use Rattle.hp_stats.proofs.stat_pass.StatPass.TheSendSync as Reader
use Rattle.hp_serve.specs.contracts.judged_server.JudgedServer.{the_row as JudgedRow}
use Rattle.hp_serve.specs.contracts.limits.Limits.{the_row as LimitsRow}
use Rattle.hp_serve.specs.contracts.limits.Limits.TheInside.{the_row as LimitsInside}
use Rattle.hp_serve.specs.contracts.server.Server.{the_row as ServerRow}
use Rattle.hp_serve.specs.contracts.server.Server.TheInside.{the_row as ServerInside}
use Rattle.hp_serve.specs.declared.decide.Decide
use Rattle.hp_proc.proofs.line_context.LineContext.TheSendSync as Context
use Rattle.hp_chair.proofs.Crossing.{board_sync, seat_send}
use Rattle.hp_chair.proofs.marks.Marks.TheSendSync as Marks
use Rattle.hp_threads.specs.contracts.shared.Shared.{the_row as SharedRow}
use Rattle.hp_threads.specs.contracts.worker.Worker.{the_row as WorkerRow}
use Rattle.hp_threads.specs.contracts.working.Worked.{the_row as WorkedRow}
use Rattle.hp_threads.specs.contracts.working.Done.{the_row as DoneRow}
use Rattle.hp_threads.proofs.answers.Answers.TheSendSync as Given

answers_send : IsSend AnswersRow
answers_send = search (sendable, crosses, AnswersKnot.send-Answers) depth 30

then_send : IsSend RowsThenRow
then_send = search (sendable, crosses, RowsThenKnot.send-RowsThen) depth 30

watcher_inside : IsSend WatcherInside
watcher_inside = search (sendable, crosses, then_send) depth 60

watcher_send : IsSend WatcherRow
watcher_send = search (sendable, watcher_inside) depth 60

watchers_inside : IsSend WatchersInside
watchers_inside = search (sendable, crosses, watcher_send) depth 60

watchers_send : IsSend WatchersRow
watchers_send = search (sendable, watchers_inside) depth 60

-- a participant over a mapper that may go to another thread
module _ (p : NamedLft) (M : RattleType) (mapper : Mapper.Ghosts M.Denot) (sends : IsSend M) where
  planned_inside : IsSend (PlannedInside p M mapper)
  planned_inside = search (sendable, crosses, answers_send, Plan.the_sync) depth 60

  planned_send : IsSend (PlannedRow p M mapper)
  planned_send = search (sendable, planned_inside) depth 60

  server_inside : IsSend (ServerInside p M mapper)
  server_inside = search (sendable, crosses, planned_send, watchers_send, Core.the_send, Maps.the_send, Plan.the_sync) depth 60 fits 100000

  server_send : IsSend (ServerRow p M mapper)
  server_send = search (sendable, server_inside) depth 60

  -- and over what decides for its validators
  module _ (F : RattleType) (decide : Decide.Ghosts F.Denot) (sends_too : IsSend F) where
    limits_inside : IsSend (LimitsInside F decide)
    limits_inside = search (sendable, crosses) depth 60

    limits_send : IsSend (LimitsRow F decide)
    limits_send = search (sendable, limits_inside) depth 60

    judged_send : IsSend (JudgedRow p M F mapper decide)
    judged_send = search (sendable, crosses, server_send, limits_send) depth 60

    pub worker_send : (C : RattleType) (clock : Clock.Ghosts C.Denot) → IsSend C → IsSend (WorkerRow p M C F mapper clock decide)
    worker_send C clock ticks =
        search (sendable, crosses, judged_send, seat_send, Context.the_send, Pass.the_send, Reader.the_send) depth 60

done_send : IsSend DoneRow
done_send = search (sendable, crosses, watchers_send, Given.the_send) depth 60

pub worked_send : IsSend WorkedRow
worked_send = search (sendable, crosses, seat_send, done_send, Pass.the_send, Reader.the_send) depth 60

pub shared_sync : (a : NamedLft) → IsSync (SharedRow a)
shared_sync a = search (sendable, crosses, board_sync, Marks.the_sync, Mailbox.the_sync, Cells.the_sync) depth 60
