use Rattle.std.proofs.Common.{arith}
use Rattle.test_heap.proofs.ChunkHeaps.{shares_again, shared_again, leaves_first, left_first, removes_second}
use Rattle.test_heap.proofs.tests.chunks.without_second.Goals as goal

pub share-requires-clause-allowed : goal.share-requires-clause-allowed
share-requires-clause-allowed c = shares_again c.in_ok-heap.heap.plain c.in_ok-heap.ensures.plain

pub unshare-requires-clause-allowed : goal.unshare-requires-clause-allowed
unshare-requires-clause-allowed c = leaves_first c.share.new.self.plain (shared_again 1 c.in_ok-heap.heap c.share.new.self c.in_ok-heap.ensures.plain c.share.ensures).0

pub unshare-requires-clause-spare : goal.unshare-requires-clause-spare
unshare-requires-clause-spare c = omega (arith, c.in_ok-heap.ensures.spare, (shared_again 1 c.in_ok-heap.heap c.share.new.self c.in_ok-heap.ensures.plain c.share.ensures).1)

pub remove_chunk-requires-clause-allowed : goal.remove_chunk-requires-clause-allowed
remove_chunk-requires-clause-allowed c =
    removes_second c.unshare.new.self.plain
    (left_first 1 c.share.new.self c.unshare.new.self (shared_again 1 c.in_ok-heap.heap c.share.new.self c.in_ok-heap.ensures.plain c.share.ensures).0 c.unshare.ensures).0

pub remove_chunk-requires-clause-spare : goal.remove_chunk-requires-clause-spare
remove_chunk-requires-clause-spare c =
    let shared = shared_again 1 c.in_ok-heap.heap c.share.new.self c.in_ok-heap.ensures.plain c.share.ensures in
    omega (arith, c.in_ok-heap.ensures.spare, shared.1, (left_first 1 c.share.new.self c.unshare.new.self shared.0 c.unshare.ensures).1)
