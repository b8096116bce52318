-- The chunk lies beside the list, and the table has no row.
use Rattle.std.proofs.Common.{rules}
use Rattle.test_maps.proofs.KnownLemmas.{empty_rows, known_attached, may_attach}
use Rattle.test_maps.proofs.tests.steps.attach.Goals as goal

pub attach_chunk-requires : goal.attach_chunk-requires
attach_chunk-requires g c =
    let known = c.requires.2 in
    may_attach c.args.maps.now c.requires.0 c.requires.1 (known.ready (search rules)) (empty_rows c.args.maps.now.rows (search rules))
    known.capacity

pub returns : goal.returns
returns g c =
    known_attached c.ready_law.ensures.attached c.args.maps.now c.attach_chunk.new.self c.attach_chunk.result
    (empty_rows c.args.maps.now.rows (search rules)) (search rules) c.attach_chunk.ensures.rows c.attach_chunk.ensures.number
    c.attach_chunk.ensures.capacity
