-- A seat and a table may go to another thread, and a board may be shared by threads: a segment value, which a slot keeps beside the heaps,
-- and a mapper each hold a list that reaches itself, so this is shown by steps.
use denote.Param.Send.{IsSend, IsSync, sendable}
use Rattle.std.proofs.Crossing.{crosses}
use Rattle.atomic_table.proofs.owned.Table.TheSendSync as Table
use Rattle.atomic_table.proofs.shared.Seat.TheSendSync as Token
use Rattle.hp_base.specs.contracts.answers.Answers.{the_row as AnswersRow}
use Rattle.hp_base.proofs.answers.Answers.TheLaws.TheKnot as AnswersKnot
use Rattle.hp_base.specs.contracts.mapper.MemMapper.{the_row as MapperRow}
use Rattle.hp_base.proofs.failing_calls.FailingCalls.TheSendSync as Failing
use Rattle.hp_heap.specs.contracts.heap.Heap.{the_row as HeapRow}
use Rattle.hp_heap.proofs.heap.Heap.TheSendSync as Heap
use Rattle.hp_segs.specs.contracts.retired_log.RetiredLog.{the_row as RetiredLogRow}
use Rattle.hp_segs.proofs.retired_log.RetiredLog.TheLaws.TheKnot as Knot
use Rattle.hp_segs.specs.contracts.segs.Segs.{the_row as SegsRow}
use Rattle.hp_segs.proofs.asks.Asks.TheSendSync as Asks
use Rattle.hp_segs.proofs.table.Table.TheSendSync as SegsTable
use Rattle.hp_stats.specs.contracts.stat_pen.StatPen.{the_row as PenRow}
use Rattle.hp_stats.proofs.stat_pen.StatPen.TheSendSync as Pen
use Rattle.hp_hall.specs.contracts.kept.Kept.{the_row as KeptRow}
use Rattle.hp_board.specs.contracts.seat.Seat.{the_row as SeatRow}
use Rattle.hp_board.specs.contracts.seat.Seat.TheInside.{the_row as SeatInsideRow}
use Rattle.hp_board.specs.contracts.board.Board.{the_row as BoardRow}
use Rattle.hp_board.specs.contracts.board.Board.TheInside.{the_row as BoardInsideRow}

answers_send : IsSend AnswersRow
answers_send = search (sendable, crosses, AnswersKnot.send-Answers) depth 30

pub mapper_send : IsSend MapperRow
mapper_send = search (sendable, crosses, answers_send, Failing.the_send) depth 60 fits 100000

heap_send : IsSend HeapRow
heap_send = Heap.the_send

heap_sync : IsSync HeapRow
heap_sync = Heap.the_sync

retired_send : IsSend RetiredLogRow
retired_send = search (sendable, crosses, Knot.send-RetiredLog) depth 30

segs_send : IsSend SegsRow
segs_send = search (sendable, crosses, retired_send, SegsTable.the_send, Asks.the_send) depth 60 fits 100000

pen_send : IsSend PenRow
pen_send = Pen.the_send

kept_send : IsSend KeptRow
kept_send = search (sendable, crosses, segs_send, heap_send, pen_send) depth 60 fits 100000

seat_inside : IsSend SeatInsideRow
seat_inside = search (sendable, crosses, kept_send, Token.the_send) depth 40

pub seat_send : IsSend SeatRow
seat_send = search (sendable, seat_inside) depth 40

board_inside : IsSync BoardInsideRow
board_inside = search (sendable, crosses, kept_send, heap_sync, Table.the_field_sync) depth 40

pub board_sync : IsSync BoardRow
board_sync = search (sendable, board_inside) depth 40
