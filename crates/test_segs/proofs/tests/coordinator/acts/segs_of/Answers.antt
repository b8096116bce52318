-- The pool is within its limits.
use Rattle.std.proofs.Common.{arith, refl}
use Rattle.hp_segs.proofs.OnePool.{one_pool}
use Rattle.test_segs.proofs.tests.coordinator.acts.segs_of.Goals as goal

pub new-requires-clause-pools : goal.new-requires-clause-pools
new-requires-clause-pools c =
    rw c.as_slice.ensures
    (one_pool _ (record { socket = omega arith; page = refl; pages = omega arith; some = omega arith; slots = omega arith }))
