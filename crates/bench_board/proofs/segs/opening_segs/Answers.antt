use Rattle.std.proofs.Common.{arith, refl}
use Rattle.hp_segs.proofs.OnePool.{one_pool}
use Rattle.bench_board.proofs.OpeningSegs.{opens_ok}
use Rattle.bench_board.proofs.segs.opening_segs.Goals as goal

pub new-requires-clause-pools : goal.new-requires-clause-pools
new-requires-clause-pools c =
    rw c.as_slice.ensures
    (one_pool _ (record { socket = omega arith; page = refl; pages = omega arith; some = omega arith; slots = omega arith }))

pub returns : goal.returns
returns c = opens_ok _ c.new.result c.new.ensures
