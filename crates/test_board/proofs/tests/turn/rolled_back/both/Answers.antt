use denote.Param.Send.{sendable}
use Rattle.std.proofs.Crossing.{crosses}
use Rattle.hp_maps.proofs.local_maps.LocalMaps.TheSendSync as Table
use Rattle.test_board.proofs.Crossing.{board_sync, mapper_send, seat_send}
use Rattle.test_board.proofs.tests.turn.rolled_back.both.Goals as goal

pub join-requires-send-F : goal.join-requires-send-F
join-requires-send-F g c κs within = let runtime = c.type_bounds.sync-R in search (sendable, crosses, board_sync, seat_send, mapper_send, Table.the_send) depth 40

pub join-requires-send-A : goal.join-requires-send-A
join-requires-send-A g c κs within = let runtime = c.type_bounds.sync-R in search (sendable, crosses, seat_send, mapper_send, Table.the_send) depth 40
