-- The rows of the log stay, and those of the chunk go.
use Rattle.test_maps.proofs.KnownLemmas.{known_detached}
use Rattle.test_maps.proofs.tests.steps.detach.Goals as goal

pub returns : goal.returns
returns g c =
    known_detached c.ready_law.ensures.detached c.args.maps.now c.detach_chunk.new.self c.detach_chunk.ensures.rows c.detach_chunk.ensures.number
    c.detach_chunk.ensures.capacity c.detach_chunk.ensures.answers
