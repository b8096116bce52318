-- No row is a chunk's, and then no row is left.
use Rattle.std.proofs.Common.{rules}
use Rattle.test_maps.proofs.KnownLemmas.{known_left, no_chunk}
use Rattle.test_maps.proofs.tests.steps.leave.Goals as goal

pub unmap_all-requires-clause-no_chunk : goal.unmap_all-requires-clause-no_chunk
unmap_all-requires-clause-no_chunk g c = no_chunk c.args.maps.now.rows (search rules)

pub returns : goal.returns
returns g c =
    known_left c.args.maps.now c.unmap_all.new.self c.unmap_all.ensures.rows c.unmap_all.ensures.number c.unmap_all.ensures.capacity
    c.unmap_all.ensures.answers
