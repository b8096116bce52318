-- One watcher after the other has the room.
use Rattle.std.proofs.Common.{arith}
use Rattle.hp_events.proofs.RoomLemmas.{always, as_many, room_more, roomier_set, some_there}
use Rattle.hp_events.proofs.telling.reserve_each.Goals as goal

pub returns-in_err-reserve-clause-roomier : goal.returns-in_err-reserve-clause-roomier
returns-in_err-reserve-clause-roomier c =
    roomier_set c.args.list.now c.loop-watcher.list c.loop-watcher.watcher-index c.watcher-item.result c.reserve.new.self
    (omega (arith, c.loop-watcher-test.true))
    c.reserve.ensures.listener
    c.reserve.ensures.kept
    c.loop-watcher.invariant.0

pub loop-watcher-preserved : goal.loop-watcher-preserved
loop-watcher-preserved c = (
  roomier_set c.args.list.now c.loop-watcher.list c.loop-watcher.watcher-index c.watcher-item.result c.reserve.new.self
      (omega (arith, c.loop-watcher-test.true))
      c.reserve.ensures.listener
      c.reserve.ensures.kept
      c.loop-watcher.invariant.0,
  room_more c.args.events c.loop-watcher.list c.loop-watcher.watcher-index c.reserve.new.self (omega (arith, c.loop-watcher-test.true))
      c.in_ok-reserve.ensures.room c.loop-watcher.invariant.1,
)

-- there is one whose room could not grow
pub returns-in_err-reserve-clause-some : goal.returns-in_err-reserve-clause-some
returns-in_err-reserve-clause-some c =
    always c.from_residual.result
    (some_there c.args.list.now c.loop-watcher.list c.loop-watcher.watcher-index (as_many c.args.list.now c.loop-watcher.list c.loop-watcher.invariant.0.listeners)
    (omega (arith, c.loop-watcher-test.true)))
