use Rattle.std.proofs.Common.{arith, refl}
use Rattle.hp_segs.proofs.OnePool.{one_pool}
use Rattle.test_board.proofs.ThreeOpened.{members_ok, opens_ok}
use Rattle.test_board.proofs.tests.turn.opening.opening_segs.Goals as goal

pub new-requires-clause-pools : goal.new-requires-clause-pools
new-requires-clause-pools c =
    rw c.as_slice.ensures
    (one_pool _ (record { socket = omega arith; page = refl; pages = omega arith; some = omega arith; slots = omega arith }))

pub returns-clause-opening : goal.returns-clause-opening
returns-clause-opening c = opens_ok _ c.new.result c.new.ensures

pub returns-clause-roster : goal.returns-clause-roster
returns-clause-roster c = members_ok _ c.new.result c.new.ensures
